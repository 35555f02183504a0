-- Each block is added.
use Rattle.std.proofs.Common.{◌≡◌, ◌∙◌, arith, rules}
use Rattle.motion_history.specs.declared.fault.ConfigFault.TheVariants.{OutOfMemory}
use Rattle.load_job.proofs.MachineLaws.{block-only, one-block, with_all, with_none}
use Rattle.load_job.proofs.machine.add_blocks.Goals as goal

pub loop-number-init : goal.loop-number-init
loop-number-init c = record { machine = c.requires ∙ with_none; within = omega arith }

pub returns-in_err-block-clause-only : goal.returns-in_err-block-clause-only
returns-in_err-block-clause-only c =
    let is : c.in_err-block.field-0.0 ≡ OutOfMemory =
    block-only _ _ _ c.loop-number.invariant.machine c.loop-number-test.true c.in_err-block.ensures.faults in
    search rules

pub loop-number-preserved : goal.loop-number-preserved
loop-number-preserved c =
    let lt = c.loop-number-test.true in
    record {
      machine = c.in_ok-block.ensures.ok ∙ one-block _ c.loop-number.number c.loop-number.invariant.machine;
      within = omega (arith, lt);
    }

pub returns-clause-ok : goal.returns-clause-ok
returns-clause-ok c =
    let within = c.loop-number.invariant.within in
    let past = c.loop-number-test.false in
    with_all _ c.loop-number.number c.loop-number.invariant.machine (omega (arith, within, past))
