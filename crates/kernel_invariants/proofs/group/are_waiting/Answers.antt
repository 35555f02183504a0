-- Each command is looked at.
use Rattle.std.proofs.Common.{◌≡◌, refl, arith, true, false}
use Rattle.group_core.specs.GroupKept.{IsWaiting}
use Rattle.command_pool.specs.Waiting.{queue_of}
use Rattle.std.specs.Prelude.{length}
use Rattle.kernel_invariants.proofs.GroupQueues.{all_wait, not_all}
use Rattle.kernel_invariants.proofs.Queues.{one_more}
use Rattle.kernel_invariants.proofs.group.are_waiting.Goals as goal

pub loop-place-preserved : goal.loop-place-preserved
loop-place-preserved c =
    let passed = c.if-not-waits.false in
    let yes : c.waits.result ≡ true = cc in
    one_more (IsWaiting (length c.args.limits.now) c.args.limits.now) (queue_of c.args.start.now.queues c.args.list) c.loop-place.place c.waits.result
    c.loop-place.invariant c.waits.ensures yes

pub returns-then-not-waits : goal.returns-then-not-waits
returns-then-not-waits c =
    let failed = c.if-not-waits.true in
    let fails : c.waits.result ≡ false = cc in
    let there = c.waiting_count-place-end.ensures.count in (
      λ yes. absurd (cc),
      λ all.
          absurd (not_all (length c.args.limits.now) c.args.limits.now (queue_of c.args.start.now.queues c.args.list) c.loop-place.place c.waits.result (omega arith)
          c.waits.ensures fails all),
    )

pub returns : goal.returns
returns c =
    let count = c.waiting_count-place-end.ensures.count in
    (λ yes. all_wait (length c.args.limits.now) c.args.limits.now _ (λ n w b e. c.loop-place.invariant n w (omega arith) e), λ h. refl)
