-- A call is one more entry.
use Rattle.std.proofs.Common.{sym, arith, subst, length, ◌<◌}
use Rattle.std.specs.Prelude.{refl}
use Rattle.motion_history.specs.Calls.{IsCall}
use Rattle.motion_history.specs.Entries.{call}
use Rattle.motion_kernel.specs.Segments.{SegmentedState}
use Rattle.motion_kernel.specs.kept.Machine.{IsMachineKept}
use Rattle.motion_kernel.specs.owners.Blocks.{OwnersHaveBlocks}
use Rattle.motion_kernel.specs.Seen.{machine_of}
use Rattle.motion_kernel.proofs.kept.Segmented.{segmented_more}
use Rattle.motion_kernel.proofs.segmented.SegmentedKernel.call.Goals as goal

pub call_block-reply-requires-clause-may : goal.call_block-reply-requires-clause-may
call_block-reply-requires-clause-may c b at =
    let k = c.self.inside in
    let is : IsCall k.layout c.args.instance c.args.inputs.now = subst (λ (x : SegmentedState). IsCall x.config c.args.instance c.args.inputs.now) (sym c.self.view_is) c.requires.call in
    c.machines_stay_kept.ensures.may_call k.layout c.args.instance b c.args.inputs.now (machine_of k.parts) c.self.invariant.whole at is c.self.invariant.machine

pub call_block-reply-requires-clause-still : goal.call_block-reply-requires-clause-still
call_block-reply-requires-clause-still c =
    let k = c.self.inside in
    let is : IsCall k.layout c.args.instance c.args.inputs.now = subst (λ (x : SegmentedState). IsCall x.config c.args.instance c.args.inputs.now) (sym c.self.view_is) c.requires.call in
    (c.machines_stay_kept.ensures.called k.layout c.args.instance c.args.inputs.now (machine_of k.parts) c.self.invariant.whole is c.self.invariant.machine).sized

pub invariant_of-self : goal.invariant_of-self
invariant_of-self c =
    let k = c.self.inside in
    let s = k.layout in
    let m = machine_of k.parts in
    let i = c.args.inputs.now in
    let is : IsCall s c.args.instance i = subst (λ (x : SegmentedState). IsCall x.config c.args.instance i) (sym c.self.view_is) c.requires.call in
    let room = subst (λ (x : SegmentedState). length x.history < x.config.entries) (sym c.self.view_is) c.requires.room in
    let kept = c.machines_stay_kept.ensures.call s m c.args.instance i c.self.invariant.whole is c.self.invariant.machine in
    let owners = c.owners_have_blocks.ensures.call s m c.args.instance i c.self.invariant.whole is c.self.invariant.machine c.self.invariant.owners in
    segmented_more c.cycles_add_up.ensures.more k (record k { parts = c.call_block-reply.new.parts; segment = record k.segment { history = c.record_call.new.self } }) (call c.args.instance i c.call_block-reply.result)
    c.self.invariant refl refl c.record_call.ensures c.self.invariant.places c.call_block-reply.ensures.after (is, c.call_block-reply.ensures.reply)
    (subst (IsMachineKept s) (sym c.call_block-reply.ensures.after) kept)
    (subst (OwnersHaveBlocks s) (sym c.call_block-reply.ensures.after) owners) room (let h = c.self.invariant.legal.cycles in omega arith)
