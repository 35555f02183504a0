-- A path goes on by its steps.
use Rattle.group_core.proofs.StepLaws.{errors-brake, halts-lead, lines-lead, refused-stays}
use Rattle.group_core.proofs.laws.paths_go_on_by_their_steps.Goals as goal

pub returns-clause-lines : goal.returns-clause-lines
returns-clause-lines c = λ members core p w kept active line on runs. lines-lead members core p w kept active line on runs

pub returns-clause-halts : goal.returns-clause-halts
returns-clause-halts c = λ members core p w kept active slows on runs. halts-lead members core p w kept active slows on runs

pub returns-clause-errors : goal.returns-clause-errors
returns-clause-errors c = λ members core p on stopped. errors-brake members core p on stopped

pub returns-clause-refused : goal.returns-clause-refused
returns-clause-refused c = λ w jerk members core r refused. refused-stays w jerk members core r refused
