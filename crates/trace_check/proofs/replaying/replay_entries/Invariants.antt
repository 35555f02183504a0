-- This many entries are replayed, and what was before stays.
use Rattle.std.specs.Prelude.{◌≡◌}
use Rattle.trace_check.specs.Progress.{IsUnderWay}
use Rattle.trace_check.proofs.replaying.replay_entries.Given as goal

abbrev pub invariant-loop-entry : goal.invariant-loop-entry
invariant-loop-entry l =
    IsUnderWay l.trace l.fn.kernel.start l.kernel l.entry l.place × (l.kernel.before ≡ l.fn.kernel.before)
