-- The ledger is the blank that is passed.
use Rattle.ramp_root.proofs.counts.greatest_count.Given as goal

abbrev pub ghosts-count_from : goal.ghosts-count_from
ghosts-count_from a = record { name = a.blank.name; parts = a.blank.parts }
