-- The machine is the one that was read.
use Rattle.std.proofs.Common.{subst}
use Rattle.motion_kernel.specs.Machine.{Machine}
use Rattle.segment_check.specs.Flaws.{IsFirst, IsFree, machine_flaws}
use Rattle.segment_check.proofs.starting.begin.Goals as goal

pub returns-clause-told : goal.returns-clause-told
returns-clause-told c = λ b.
    subst (λ (m : Machine). IsFirst (IsFree c.args.config.now b m) machine_flaws c.machine_flaw.result)
    (c.fill.ensures.made c.if-not-fill.false) (c.machine_flaw.ensures b)
