use Rattle.std.proofs.Common.{◌≡◌, ◌<◌, ◌≤◌, ℕ, pos, slice_index_or}
use Rattle.plc_types.specs.Inputs.{IsTaken}
use Rattle.plc_types.proofs.kind_inputs.are_positions.Given as goal

-- the positions seen so far are so
abbrev pub invariant-loop-place : goal.invariant-loop-place
invariant-loop-place l = (n : ℕ) → n < l.place →
    IsTaken l.takes (pos 0) (slice_index_or l.positions n (pos 0)) ×
    (l.count ≤ n → slice_index_or l.positions n (pos 0) ≡ pos 0)
