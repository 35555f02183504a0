-- Each command is looked at.
use Rattle.std.proofs.Common.{◌≡◌, refl, arith, true, false, ap}
use Rattle.std.proofs.lemmas.Option.{slice_get_within}
use Rattle.buffer_modes.specs.Owners.{owner_by}
use Rattle.command_pool.specs.Layout.{unused}
use Rattle.command_pool.specs.Waiting.{queue_of}
use Rattle.command_pool.specs.declared.wanted.Wanted.{Wanted}
use Rattle.motion_kernel.proofs.Lists.{get_is}
use Rattle.kernel_invariants.specs.Owned.{HasBlock, object_by}
use Rattle.kernel_invariants.proofs.Queues.{one_more}
use Rattle.kernel_invariants.proofs.owners.commands.have_all_blocks.Goals as goal

pub loop-place-preserved : goal.loop-place-preserved
loop-place-preserved c =
    let passed = c.if-not-has_block.false in
    let yes : c.has_block.result ≡ true = cc in
    let told = c.owner_at.ensures in
    let has = c.has_block.ensures.0 yes in
    one_more (λ (w : Wanted). HasBlock c.args.config.now (object_by c.args.object) w.owner) (queue_of c.args.start.now.queues c.args.list) c.loop-place.place
    c.has_block.result c.loop-place.invariant
    (λ w at. (λ ok. rw (← ap owner_by at, ← told) has, λ h. yes)) yes

pub returns-then-not-has_block : goal.returns-then-not-has_block
returns-then-not-has_block c =
    let failed = c.if-not-has_block.true in
    let fails : c.has_block.result ≡ false = cc in
    let told = c.owner_at.ensures in
    let count = c.waiting_count-place-end.ensures.count in
    let at = get_is (queue_of c.args.start.now.queues c.args.list) c.loop-place.place unused (omega arith) in (
      λ yes. absurd (cc),
      λ all. absurd (let passes = c.has_block.ensures.1 (rw (told, ap owner_by at) (all c.loop-place.place _ at)) in cc),
    )

pub returns : goal.returns
returns c =
    let count = c.waiting_count-place-end.ensures.count in
    (λ yes n w at. c.loop-place.invariant n w (let within = slice_get_within (queue_of c.args.start.now.queues c.args.list) n w at in omega arith) at, λ h. refl)
