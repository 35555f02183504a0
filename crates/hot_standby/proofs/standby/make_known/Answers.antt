-- An event more was made.
use Rattle.std.proofs.Common.{◌≡◌, suc, length, ap, refl, arith}
use Rattle.rtrb.specs.Ring.{known_items}
use Rattle.hot_standby.proofs.UnderWay.{gone_on}
use Rattle.hot_standby.proofs.standby.make_known.Goals as goal

pub loop-made-preserved : goal.loop-made-preserved
loop-made-preserved c =
    let split = c.pop_known-event.ensures.received.1 in
    let next = c.pop_known-event.new.self in
    let fewer : length (known_items c.loop-made.ring) ≡ suc (length (known_items next)) =
    ap length split in
    let count = c.loop-made.invariant.0 in
    let made = c.if-not-try_make.ensures.fit refl in (
      omega (arith, count, fewer),
      gone_on _ _ _ _ _ _ _ c.loop-made.invariant.1 split made.0 made.1,
    )
