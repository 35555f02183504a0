-- Each command is looked at.
use Rattle.std.proofs.Common.{◌≡◌, ◌∙◌, refl, arith, true, ap, inl, inr}
use Rattle.std.specs.Prelude.{slice_get}
use Rattle.std.proofs.lemmas.Bool.{cases_lt}
use Rattle.std.proofs.lemmas.Option.{slice_get_within}
use Rattle.command_pool.specs.Waiting.{queue_of}
use Rattle.segment_check.proofs.orders.are_queued.Goals as goal

pub loop-place-preserved : goal.loop-place-preserved
loop-place-preserved c =
    let queue = queue_of c.args.start.now.queues c.args.number in
    let test = c.if-not-is_queued_at.false in
    let passed : c.is_queued_at.result ≡ true = cc in
    λ n w l at. elim (cases_lt n c.loop-place.place) [
      | inl below ↦ c.loop-place.invariant n w below at
      | inr here ↦
          let same : c.loop-place.place ≡ n = omega arith in
          c.is_queued_at.ensures.0 passed w (ap (slice_get queue) same ∙ at)
    ]

pub returns-then-not-is_queued_at : goal.returns-then-not-is_queued_at
returns-then-not-is_queued_at c = (
  λ t. absurd (cc),
  λ all. absurd (let fails = c.if-not-is_queued_at.true in
      let passes = c.is_queued_at.ensures.1 (all c.loop-place.place) in cc),
)

pub returns : goal.returns
returns c =
    let queue = queue_of c.args.start.now.queues c.args.number in
    let count = c.waiting_count-place-end.ensures.count in (
      λ t n w at. c.loop-place.invariant n w
          (let within = slice_get_within queue n w at in omega arith) at,
      λ h. refl,
    )
