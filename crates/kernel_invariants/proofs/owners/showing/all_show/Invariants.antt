-- The instances so far show their commands.
use Rattle.std.proofs.Common.{ℕ, ◌<◌}
use Rattle.kernel_invariants.specs.Showing.{ShowsWhere}
use Rattle.kernel_invariants.proofs.owners.showing.all_show.Given as goal

abbrev pub invariant-loop-instance : goal.invariant-loop-instance
invariant-loop-instance l = (n : ℕ) → n < l.instance → ShowsWhere l.config l.start n
