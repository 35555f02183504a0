-- Each field is a lemma on the taken step.
use Rattle.kin_core.proofs.SafeSteps.{taken_step_is_taken, taken_step_is_only, taken_step_is_exact, taken_step_is_safe, safe_keeps}
use Rattle.kin_core.proofs.laws.taken_steps_keep.Goals as goal

pub returns : goal.returns
returns c =
    let safe = taken_step_is_safe c.ways_to_rest.ensures in
    record {
      taken = taken_step_is_taken c.ways_to_rest.ensures;
      only = taken_step_is_only c.ways_to_rest.ensures;
      exact = taken_step_is_exact c.ways_to_rest.ensures;
      admissible = λ limits before now wanted ok kept. (safe limits before now wanted ok kept).admissible;
      kept = λ limits before now wanted ok kept. safe_keeps limits before now _ (safe limits before now wanted ok kept);
    }
