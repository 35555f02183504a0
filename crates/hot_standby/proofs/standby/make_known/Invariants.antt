use Rattle.std.proofs.Common.{◌≡◌, ◌+◌, length}
use Rattle.rtrb.specs.Ring.{known_items}
use Rattle.hot_standby.proofs.UnderWay.{IsUnderWay}
use Rattle.hot_standby.proofs.standby.make_known.Given as goal

abbrev pub invariant-loop-made : goal.invariant-loop-made
invariant-loop-made l =
    (l.made + length (known_items l.ring) ≡ length (known_items l.initial.ring)) ×
    IsUnderWay l.initial.kernel l.kernel (known_items l.initial.ring) (known_items l.ring)
