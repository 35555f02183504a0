-- What was taken and what was left are all events pushed.
use Rattle.std.proofs.Common.{◌≡◌, ◌++◌, List, false, ap, sym, subst, ◌∙◌}
use Rattle.rtrb.specs.Ring.{known_items}
use Rattle.hot_standby.specs.Events.{kernel_after_all}
use Rattle.hot_standby.specs.Followers.{IsFollower}
use Rattle.hot_standby.specs.Sides.{FeedSide, StandbySide}
use Rattle.hot_standby.specs.declared.event.FedEvent.{FedEvent}
use Rattle.hot_standby.proofs.Followers.{promoted}
use Rattle.hot_standby.proofs.standby.Standby.promote.Goals as goal

pub returns-clause-all : goal.returns-clause-all
returns-clause-all c none =
    let left : List FedEvent = known_items c.slots_beside.new.self in
    let follows = λ (s : StandbySide). s.met_stranger ≡ false → IsFollower s in
    promoted _ left _ _
    (subst follows c.self.view_is c.self.invariant.follows none)
    (ap (λ (s : StandbySide). s.taken ++ left) (sym c.self.view_is)
    ∙ ap (λ (taken : List FedEvent). taken ++ left) (sym c.slots_beside.ensures.looked.1)
    ∙ c.slots_beside.ensures.fifo ∙ c.slots_beside.ensures.producer.1
    ∙ ap (λ (f : FeedSide). f.sent) c.feed.view_is)
    (c.in-None.ensures.made
    ∙ ap (λ (s : StandbySide). kernel_after_all s.kernel left) c.self.view_is)
