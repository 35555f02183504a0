-- Nothing is left to be made, so no stranger comes.
use Rattle.std.proofs.Common.{List, length, drop, ap, ◌∙◌}
use Rattle.std.proofs.Math.Seq.{drop-length}
use Rattle.hot_standby.specs.declared.event.FedEvent.{FedEvent}
use Rattle.hot_standby.proofs.UnderWay.{no_stranger}
use Rattle.hot_standby.proofs.follower.switch_over.Goals as goal

pub unreachable-requires : goal.unreachable-requires
unreachable-requires c =
    let sent = c.args.follower.feed.sent in
    no_stranger _ _ _
    (ap (λ (taken : List FedEvent). drop (length taken) sent) c.requires.taken ∙ drop-length sent)
    c.in-Err.ensures.stranger
