-- The ledger is the blank that is passed.
use Rattle.jerk_plan.proofs.steps.move_step.Given as goal

abbrev pub ghosts-move_step_by : goal.ghosts-move_step_by
ghosts-move_step_by a = record { name = a.blank.name; parts = a.blank.parts }
