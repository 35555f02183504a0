-- The ledger is the blank that is passed.
use Rattle.jerk_core.proofs.taking.nearest_safe.Given as goal

abbrev pub ghosts-nearest_safe_by : goal.ghosts-nearest_safe_by
ghosts-nearest_safe_by a = record { name = a.blank.name; parts = a.blank.parts }
