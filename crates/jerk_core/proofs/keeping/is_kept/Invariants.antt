-- The ledger is the blank that is passed.
use Rattle.jerk_core.proofs.keeping.is_kept.Given as goal

abbrev pub ghosts-is_kept_by : goal.ghosts-is_kept_by
ghosts-is_kept_by a = record { name = a.blank.name; parts = a.blank.parts }
