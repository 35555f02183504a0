-- One group more is set.
use Rattle.std.proofs.Common.{◌<◌, ◌+◌, ◌∙◌, ap, arith, length, refl, take}
use Rattle.std.proofs.lemmas.List.{length-set}
use Rattle.std.proofs.lemmas.Option.{slice_get_read}
use Rattle.motion_kernel.specs.Machine.{Machine}
use Rattle.motion_kernel.specs.Seen.{placed}
use Rattle.segment_check.proofs.Filled.{one_set_more, with_groups}
use Rattle.segment_check.proofs.filling.set_groups.Goals as goal

pub loop-i-preserved : goal.loop-i-preserved
loop-i-preserved c =
    let old = c.loop-i.invariant in
    let new = c.set_group.ensures in
    let within : c.loop-i.i < length c.args.groups.now = omega (arith, c.loop-i-test.true) in
    let at = slice_get_read c.args.groups.now (length c.args.groups.now) c.loop-i.i c.index-groups-i.result refl within c.index-groups-i.is in
    let there : c.loop-i.i < length c.loop-i.start.groups = omega (arith, within, old.long, c.requires.size) in
    let set = ap (λ (m : Machine). m.groups) new in
    record {
      rest = with_groups _ _ _ _ (ap (λ (m : Machine). m.axes) new ∙ ap (λ (m : Machine). m.axes) old.rest)
          (ap (λ (m : Machine). m.queues) new ∙ ap (λ (m : Machine). m.queues) old.rest)
          (ap (λ (m : Machine). m.instances) new ∙ ap (λ (m : Machine). m.instances) old.rest);
      set = ap (take (c.loop-i.i + 1)) set ∙ one_set_more placed c.args.groups.now c.loop-i.start.groups c.loop-i.i _ at there old.set;
      long = ap length set ∙ length-set c.loop-i.start.groups c.loop-i.i _ ∙ old.long;
    }
