-- One block after another is looked at.
use Rattle.std.proofs.Common.{◌≡◌, ◌∙◌, ap, sym, arith, length, Some, ◌<◌}
use Rattle.std.specs.Prelude.{slice_get, slice_index_or}
use Rattle.motion_kernel.specs.cycles.Polled.{polled_among, with_polled, with_polled_of}
use Rattle.motion_kernel.proofs.cycles.Polled.{polled_more, polled_none}
use Rattle.motion_kernel.proofs.members.Members.{stands}
use Rattle.motion_kernel.proofs.polled.polled_in.Goals as goal

pub loop-instance-init : goal.loop-instance-init
loop-instance-init c = record { so_far = c.new-polled.ensures.items ∙ sym (polled_none c.args.config.now.blocks) }

pub overflow_cast-instance : goal.overflow_cast-instance
overflow_cast-instance c =
    let few = c.requires.within.sizes.blocks in
    let l = c.loop-instance-test.true in
    let all = ap length c.blocks-block-items.ensures in
    omega (arith, few, l, all)

pub loop-instance-preserved : goal.loop-instance-preserved
loop-instance-preserved c =
    let n = c.loop-instance.instance in
    let blocks = c.args.config.now.blocks in
    let all = c.blocks-block-items.ensures in
    let l : n < length blocks = rw (← all) c.loop-instance-test.true in
    let at : slice_get blocks n ≡ Some c.block-item.result = stands blocks n c.block-item.result l (sym (c.block-item.is ∙ ap (λ bs. slice_index_or bs n c.block-item.result) all)) in
    record {
      so_far = c.in_ok-add_polled.ensures ∙ ap (with_polled_of c.block-item.result.kind n) c.loop-instance.invariant.so_far
          ∙ sym (polled_more n blocks ∙ ap (λ o. with_polled o n (polled_among n blocks)) at);
    }
