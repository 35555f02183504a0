-- One command more is counted.
use Rattle.std.proofs.Common.{◌<◌, ◌∙◌, ap, arith, length, refl}
use Rattle.std.proofs.lemmas.List.{take_all}
use Rattle.buffer_modes.specs.Owners.{owner_by, owner_count, waits_of}
use Rattle.command_pool.specs.Layout.{unused}
use Rattle.command_pool.specs.Waiting.{queue_of}
use Rattle.kernel_invariants.proofs.Showing.{waits_more}
use Rattle.motion_kernel.proofs.Lists.{get_is}
use Rattle.kernel_invariants.proofs.owners.showing.waits_in.Goals as goal

pub loop-place-init : goal.loop-place-init
loop-place-init c = record { count = refl; few = omega arith }

pub overflow_add-count : goal.overflow_add-count
overflow_add-count c =
    let so_far = c.loop-place.invariant in
    let few = so_far.few in
    let eight = c.waiting_count-place-end.ensures.few in
    let one = c.owner_count-count.ensures.one in
    let test = c.loop-place-test.true in
    omega arith

pub loop-place-preserved : goal.loop-place-preserved
loop-place-preserved c =
    let queue = queue_of c.args.start.now.queues c.args.list in
    let place = c.loop-place.place in
    let so_far = c.loop-place.invariant in
    let count = so_far.count in
    let few = so_far.few in
    let long = c.waiting_count-place-end.ensures.count in
    let test = c.loop-place-test.true in
    let one = c.owner_count-count.ensures.one in
    let within : place < length queue = omega arith in
    let at = get_is queue place unused within in
    let told = c.owner_count-count.ensures.count
    ∙ ap (owner_count c.args.instance) (c.owner_at.ensures ∙ ap owner_by at) in
    let more = waits_more c.args.instance queue place _ unused at in
    record { count = omega arith; few = omega arith }

pub returns-clause-count : goal.returns-clause-count
returns-clause-count c =
    let queue = queue_of c.args.start.now.queues c.args.list in
    let so_far = c.loop-place.invariant in
    let long = c.waiting_count-place-end.ensures.count in
    let test = c.loop-place-test.false in
    so_far.count ∙ ap (waits_of c.args.instance) (take_all c.loop-place.place queue (omega arith))

pub returns-clause-few : goal.returns-clause-few
returns-clause-few c =
    let so_far = c.loop-place.invariant in
    let few = so_far.few in
    let eight = c.waiting_count-place-end.ensures.few in
    let end = c.loop-place.auto.place-end in
    omega arith
