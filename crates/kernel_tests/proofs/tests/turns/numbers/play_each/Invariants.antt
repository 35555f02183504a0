use Rattle.std.proofs.Common.{◌≡◌}
use Rattle.kernel_turn.specs.Turns.{IsSamePermit}
use Rattle.kernel_tests.proofs.tests.turns.numbers.play_each.Given as goal

abbrev pub invariant-loop-case : goal.invariant-loop-case
invariant-loop-case g l =
    IsSamePermit l.initial.first l.first × IsSamePermit l.initial.second l.second ×
    (l.first.table ≡ l.turns) × (l.first.config ≡ l.config) ×
    (l.second.table ≡ l.turns) × (l.second.config ≡ l.config)
