-- One setpoint more, until none is left.
use Rattle.std.proofs.Common.{arith}
use Rattle.std.proofs.lemmas.Int.{ints}
use Rattle.load_job.proofs.TallyLaws.{sum-more, sum-none}
use Rattle.load_job.proofs.counts.setpoint_sum.Goals as goal

pub loop-row-preserved : goal.loop-row-preserved
loop-row-preserved c =
    let more = sum-more c.args.rows.now c.loop-row.row-index _ c.setpoint_of-sum.result c.loop-row-test.true
    c.setpoint_of-sum.ensures.value in
    let sum = c.loop-row.invariant.sum in
    let small = c.loop-row.invariant.small in
    let few = c.setpoint_of-sum.ensures.small in
    record {
      sum = omega (arith, ints, more, sum, small, few);
      small = omega (arith, ints, small, few);
    }

pub returns-clause-value : goal.returns-clause-value
returns-clause-value c =
    let none = sum-none c.args.rows.now c.loop-row.row-index c.loop-row-test.false in
    let sum = c.loop-row.invariant.sum in
    omega (arith, ints, none, sum)
