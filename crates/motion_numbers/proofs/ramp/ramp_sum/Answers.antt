-- The number of the terms times the first and the last of them is twice their sum.
use Rattle.std.proofs.Common.{arith}
use Rattle.motion_numbers.proofs.Runs.{run_half}
use Rattle.motion_numbers.proofs.ramp.ramp_sum.Goals as goal

pub returns-clause-value : goal.returns-clause-value
returns-clause-value c = run_half c.args.u c.args.d (omega arith)
