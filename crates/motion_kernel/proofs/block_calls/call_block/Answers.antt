-- The block that is called is the configuration's.
use Rattle.std.proofs.Common.{◌≡◌, ◌∙◌, ap, sym, arith, length, ◌<◌}
use Rattle.std.specs.Prelude.{ℕ, List, slice_index_or}
use Rattle.plc_types.specs.declared.inputs.Inputs.{Inputs}
use Rattle.motion_history.specs.Setup.{Setup}
use Rattle.motion_history.specs.declared.config.BlockDef.{BlockDef}
use Rattle.motion_kernel.specs.calls.Calls.{after_reply, called, called_block, called_where}
use Rattle.motion_kernel.specs.Machine.{Machine, instance_at}
use Rattle.motion_kernel.specs.Seen.{machine_of}
use Rattle.fb_outputs.specs.Steps.{outputs_of}
use Rattle.motion_kernel.proofs.members.Members.{stands}
use Rattle.motion_kernel.proofs.block_calls.call_block.Goals as goal

-- the machine after the call was made
made : (s : Setup) (k : ℕ) (i : Inputs) (m after : Machine) (b : BlockDef) (blocks : List BlockDef) → blocks ≡ s.blocks → k < length s.blocks →
    b ≡ slice_index_or blocks k b → after ≡ called_block s k b i m → after ≡ called s k i m
unfolding called
made s k i m after b blocks all l e h =
    let at = stands s.blocks k b l (sym (e ∙ ap (λ bs. slice_index_or bs k b) all)) in
    h ∙ sym (ap (λ o. called_where s o k i m) at)

pub reply-requires : goal.reply-requires
reply-requires c =
    let s = c.args.layout.now in
    let m = machine_of c.args.parts.now in
    let k = c.args.instance in
    let i = c.args.inputs.now in
    let is = made s k i m _ c.index-blocks-instance.result c.blocks-2.result.now (c.blocks-2.ensures ∙ ap (λ (x : Setup). x.blocks) c.config.ensures.config) c.requires.there c.index-blocks-instance.is c.make.ensures in
    let l = ap (λ (x : Machine). length x.instances) is in
    let n = c.requires.still.instances in
    let t = c.requires.there in
    omega (arith, l)

pub returns-clause-reply : goal.returns-clause-reply
returns-clause-reply c =
    let s = c.args.layout.now in
    let m = machine_of c.args.parts.now in
    let k = c.args.instance in
    let i = c.args.inputs.now in
    let is = made s k i m _ c.index-blocks-instance.result c.blocks-2.result.now (c.blocks-2.ensures ∙ ap (λ (x : Setup). x.blocks) c.config.ensures.config) c.requires.there c.index-blocks-instance.is c.make.ensures in
    c.reply.ensures.reply ∙ ap (λ (x : Machine). outputs_of (instance_at x.instances k)) is

pub returns-clause-after : goal.returns-clause-after
returns-clause-after c =
    let s = c.args.layout.now in
    let m = machine_of c.args.parts.now in
    let k = c.args.instance in
    let i = c.args.inputs.now in
    let is = made s k i m _ c.index-blocks-instance.result c.blocks-2.result.now (c.blocks-2.ensures ∙ ap (λ (x : Setup). x.blocks) c.config.ensures.config) c.requires.there c.index-blocks-instance.is c.make.ensures in
    c.reply.ensures.after ∙ ap (after_reply k) is
