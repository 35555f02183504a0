-- The arrays hold what they did.
use Rattle.std.proofs.Common.{◌∙◌}
use Rattle.motion_history.proofs.TouchLemmas.{AreSame, state-touched, whole-touched}
use Rattle.motion_history.proofs.history.History.touch.Goals as goal

same : (c : goal.After-touch_room-4) →
    AreSame c.self.inside c.touch_room.new.list c.touch_room-2.new.list c.touch_room-3.new.list c.touch_room-4.new.list
same c = record {
  entries_same = record { items = c.touch_room.ensures.items; len = c.touch_room.ensures.len; room = c.touch_room.ensures.room };
  calls_same = record { items = c.touch_room-2.ensures.items; len = c.touch_room-2.ensures.len; room = c.touch_room-2.ensures.room };
  axes_same = record { items = c.touch_room-3.ensures.items; len = c.touch_room-3.ensures.len; room = c.touch_room-3.ensures.room };
  groups_same = record { items = c.touch_room-4.ensures.items; len = c.touch_room-4.ensures.len; room = c.touch_room-4.ensures.room };
}

pub invariant_of-self : goal.invariant_of-self
invariant_of-self c = whole-touched c.self.inside _ _ _ _ (same c) c.self.invariant

pub returns : goal.returns
returns c = state-touched c.self.inside _ _ _ _ (same c) ∙ c.self.view_is
