-- A configuration without items is within its ranges.
use Rattle.motion_history.proofs.SetupLemmas.{IsWithin-none}
use Rattle.motion_history.proofs.builder.Builder.open.Goals as goal

pub invariant_of-result : goal.invariant_of-result
invariant_of-result c =
    rw (c.new.ensures.items, c.new-2.ensures.items, c.new-3.ensures.items, c.new-4.ensures.items, c.new-5.ensures.items)
    (IsWithin-none c.args.cycles c.args.entries c.is_room.result c.is_room.ensures c.if-not-is_room.false)
