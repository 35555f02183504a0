-- Each axis is added.
use Rattle.std.proofs.Common.{◌≡◌, ◌∙◌, arith, rules}
use Rattle.motion_history.specs.declared.fault.ConfigFault.TheVariants.{OutOfMemory}
use Rattle.load_job.proofs.MachineLaws.{axis-only, one-axis}
use Rattle.load_job.proofs.machine.add_axes.Goals as goal

pub returns-in_err-axis-clause-only : goal.returns-in_err-axis-clause-only
returns-in_err-axis-clause-only c =
    let is : c.in_err-axis.field-0.0 ≡ OutOfMemory =
    axis-only _ _ _ c.loop-axis.invariant.machine c.loop-axis-test.true c.in_err-axis.ensures.faults in
    search rules

pub loop-axis-preserved : goal.loop-axis-preserved
loop-axis-preserved c =
    let lt = c.loop-axis-test.true in
    record {
      machine = c.in_ok-axis.ensures.ok ∙ one-axis _ c.loop-axis.axis c.loop-axis.invariant.machine;
      within = omega (arith, lt);
    }
