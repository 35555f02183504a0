-- One instance after another is notified.
use Rattle.std.proofs.Common.{◌≡◌, ◌∙◌, ap, sym, arith, length, Some, ◌<◌, ◌+◌, ℕ, take}
use Rattle.std.specs.Prelude.{slice_get, slice_index_or}
use Rattle.std.proofs.lemmas.List.{take_all, take_more}
use Rattle.motion_history.specs.Setup.{Setup}
use Rattle.motion_kernel.specs.cycles.Showing.{instance_found, instances_found}
use Rattle.motion_kernel.specs.Seen.{machine_of}
use Rattle.motion_kernel.proofs.cycles.Polled.{told_all, told_by, told_more, told_none}
use Rattle.motion_kernel.proofs.members.Members.{each_of, stands}
use Rattle.motion_kernel.proofs.Sizes.{sized_found}
use Rattle.motion_kernel.proofs.showing.tell_all_found.Goals as goal

pub loop-instance-init : goal.loop-instance-init
loop-instance-init c =
    let m = machine_of c.args.parts.now in
    record { told = λ i. record m { instances = sym (told_none c.args.layout.now.blocks m.axes m.groups m.instances) i }; sized = c.requires }

pub loop-instance-preserved : goal.loop-instance-preserved
loop-instance-preserved c =
    let m = machine_of c.args.parts.now in
    let before = machine_of c.loop-instance.parts in
    let items = c.polled-instance-items.result.now in
    let place = c.loop-instance.instance-index in
    let n = slice_index_or items place 0 in
    let blocks = c.args.layout.now.blocks in
    let b = c.index-blocks-instance.result in
    let all = c.blocks-in-loop-instance.ensures ∙ ap (λ (s : Setup). s.blocks) c.config.ensures.config in
    let l : n < length blocks = each_of (λ (k : ℕ). k < length blocks) items place 0 c.polled-instance-items.ensures.there c.loop-instance-test.true in
    let at : slice_get blocks n ≡ Some b = stands blocks n b l (sym (c.index-blocks-instance.is ∙ ap (λ bs. slice_index_or bs n b) all)) in
    let v = c.loop-instance.invariant.told in
    let more = take_more items place 0 c.loop-instance-test.true in
    let found : instance_found (Some b) before.axes before.groups n before.instances ≡ told_by (take (place + 1) items) blocks m.axes m.groups m.instances =
    (λ i. instance_found (sym at i) (v i).axes (v i).groups n (v i).instances)
    ∙ sym (ap (λ ks. told_by ks blocks m.axes m.groups m.instances) more ∙ told_more (take place items) n blocks m.axes m.groups m.instances) in
    record {
      told = c.tell_found.ensures ∙ (λ i. record { axes = (v i).axes; groups = (v i).groups; queues = (v i).queues; instances = found i });
      sized = rw c.tell_found.ensures (sized_found c.args.layout.now before n b c.loop-instance.invariant.sized);
    }

pub returns : goal.returns
returns c =
    let m = machine_of c.args.parts.now in
    let s = c.args.layout.now in
    let items = c.polled-instance-items.result.now in
    let l = c.loop-instance-test.false in
    let whole = take_all c.loop-instance.instance-index items (omega arith) in
    let found : told_by (take c.loop-instance.instance-index items) s.blocks m.axes m.groups m.instances ≡ instances_found (length s.blocks) s.blocks m.axes m.groups m.instances =
    ap (λ ks. told_by ks s.blocks m.axes m.groups m.instances) whole ∙ told_all s items m.axes m.groups m.instances c.polled-instance-items.ensures.polled in
    c.loop-instance.invariant.told ∙ (λ i. record m { instances = found i })
