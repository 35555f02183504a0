-- Each clause is a lemma on the safe steps.
use Rattle.kin_core.proofs.SafeSteps.{ends_ordered, between_of_safe, safe_of_between, braking_is_safe}
use Rattle.kin_core.proofs.laws.safe_steps_are_an_interval.Goals as goal

pub returns-clause-not_empty : goal.returns-clause-not_empty
returns-clause-not_empty c = ends_ordered c.ways_to_rest.ensures

pub returns-clause-interval : goal.returns-clause-interval
returns-clause-interval c = λ limits before now step ok kept. (
  λ safe. between_of_safe c.ways_to_rest.ensures limits before now step ok kept.above kept.below safe,
  λ between. safe_of_between c.ways_to_rest.ensures limits before now step ok kept.above kept.below between.0 between.1,
)

pub returns-clause-braking : goal.returns-clause-braking
returns-clause-braking c = braking_is_safe c.ways_to_rest.ensures
