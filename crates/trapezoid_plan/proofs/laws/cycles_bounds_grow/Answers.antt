-- The lemma on the cycles bound.
use Rattle.trapezoid_plan.proofs.Bounds.{bound-mono}
use Rattle.trapezoid_plan.proofs.laws.cycles_bounds_grow.Goals as goal

pub returns : goal.returns
returns c = λ x y v w rates ok far fast. bound-mono c.ways_to_rest.ensures _ _ _ _ rates ok far fast
