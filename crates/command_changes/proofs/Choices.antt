-- A choice of two, and what holds of both.
-- for: axis_fates_are_told, axis_changes_are_made, group_fates_are_told and others
pub use Rattle.group_core.proofs.Ends.{either}
pub use Rattle.group_core.proofs.KeptCalls.{by-if as by_if}
