-- Faults exclude each other, and good points exclude them.
use Rattle.cam_table.proofs.Faults.{fault_is_one, table_has_none}
use Rattle.cam_table.proofs.laws.points_have_one_fault.Goals as goal

pub returns-clause-one : goal.returns-clause-one
returns-clause-one c = fault_is_one

pub returns-clause-none : goal.returns-clause-none
returns-clause-none c = table_has_none
