-- A faulty row is the first one, as those before it are good.
use Rattle.std.proofs.Common.{arith}
use Rattle.cam_table.proofs.Faults.{fault_of_row, good_more}
use Rattle.cam_table.proofs.table.fault_in.Goals as goal

pub returns-in-Some-clause-found : goal.returns-in-Some-clause-found
returns-in-Some-clause-found c =
    fault_of_row _ _ _
    (record { enough = omega arith; few = omega arith; first = omega arith; last = omega arith; before = c.loop-at.invariant })
    c.in-Some.ensures

pub loop-at-preserved : goal.loop-at-preserved
loop-at-preserved c = good_more _ _ c.loop-at.invariant c.in_default.ensures
