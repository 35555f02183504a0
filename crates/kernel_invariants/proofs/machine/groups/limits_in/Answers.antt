-- The limits of one axis more.
use Rattle.std.proofs.Common.{arith, ◌∙◌}
use Rattle.std.proofs.lemmas.List.{length-set}
use Rattle.motion_kernel.specs.kept.Machine as machine
use Rattle.kernel_invariants.proofs.MemberLimits.{one_more}
use Rattle.kernel_invariants.proofs.machine.groups.limits_in.Goals as goal

pub loop-place-preserved : goal.loop-place-preserved
loop-place-preserved c =
    let few = c.requires.few in
    let six = c.loop-place.invariant.six in
    record {
      so_far =
          one_more (machine.limits_of c.args.config.now) c.loop-place.limits c.args.members.now c.loop-place.place _ (omega arith) (omega arith)
          c.loop-place.invariant.so_far c.limits_of.ensures;
      six = length-set c.loop-place.limits c.loop-place.place _ ∙ six;
    }
