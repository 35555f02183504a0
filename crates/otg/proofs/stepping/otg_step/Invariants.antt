-- The ledger is the blank that is passed.
use Rattle.otg.proofs.stepping.otg_step.Given as goal

abbrev pub ghosts-step_by : goal.ghosts-step_by
ghosts-step_by a = record { name = a.blank.name; parts = a.blank.parts }
