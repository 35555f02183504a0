-- The ledger is the blank that is passed.
use Rattle.plan_tests.proofs.tests.moves.counts_steps.Given as goal

abbrev pub ghosts-counted : goal.ghosts-counted
ghosts-counted g a = record { name = a.blank.name; parts = a.blank.parts }
