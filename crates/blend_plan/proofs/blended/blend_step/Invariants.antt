-- The ledger is the blank that is passed.
use Rattle.blend_plan.proofs.blended.blend_step.Given as goal

abbrev pub ghosts-blend_from : goal.ghosts-blend_from
ghosts-blend_from a = record { name = a.blank.name; parts = a.blank.parts }
