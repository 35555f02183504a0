-- The ledger is the blank that is passed.
use Rattle.trapezoid_plan.proofs.moves.plan_move.Given as goal

abbrev pub ghosts-plan_move_by : goal.ghosts-plan_move_by
ghosts-plan_move_by a = record { name = a.blank.name; parts = a.blank.parts }
