-- The lemmas on headings.
use Rattle.trapezoid_plan.proofs.Headings.{goes-toward, heads-next}
use Rattle.trapezoid_plan.proofs.laws.moves_head_for_their_targets.Goals as goal

pub returns-clause-toward : goal.returns-clause-toward
returns-clause-toward c = λ limits rates target before now limits_ok rates_ok within kept heads.
    goes-toward c.ways_to_rest.ensures c.searches_find_the_greatest.ensures c.safe_steps_lead_on.ensures limits rates target before now
    (record { limits_ok = limits_ok; rates_ok = rates_ok; within = within; kept = kept }) heads

pub returns-clause-heads : goal.returns-clause-heads
returns-clause-heads c = λ limits rates target before now limits_ok rates_ok within kept heads.
    heads-next c.ways_to_rest.ensures c.searches_find_the_greatest.ensures c.safe_steps_lead_on.ensures limits rates target before now
    (record { limits_ok = limits_ok; rates_ok = rates_ok; within = within; kept = kept }) heads
