-- The command is the one that was found.
use Rattle.std.proofs.Common.{◌≡◌, ◌∙◌, Some, ap, subst, sym}
use Rattle.std.specs.Option.{option_copied}
use Rattle.std.specs.Prelude.{slice_get}
use Rattle.command_pool.specs.Waiting.{queue_of}
use Rattle.motion_laws.specs.Orders.{IsQueued}
use Rattle.segment_check.proofs.orders.is_queued_at.Goals as goal

pub returns-in-Some : goal.returns-in-Some
returns-in-Some c =
    let queue = queue_of c.args.start.now.queues c.args.number in
    let at : slice_get queue c.args.place ≡ Some c.in-Some.wanted.now = sym c.waiting.ensures ∙ ap option_copied c.in-Some.is in (
      λ t w e.
          let same : c.in-Some.wanted.now ≡ w = (let z : Some c.in-Some.wanted.now ≡ Some w = sym at ∙ e in cc) in
          subst (IsQueued c.args.config.now c.args.number) same (c.is_queued.ensures.0 t),
      λ h. c.is_queued.ensures.1 (h c.in-Some.wanted.now at),
    )
