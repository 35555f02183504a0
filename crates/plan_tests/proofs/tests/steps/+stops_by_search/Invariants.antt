-- Each call looks at one setpoint less.
use Rattle.plan_tests.proofs.tests.steps.+stops_by_search.Given as goal

abbrev pub decreases-stops_by_search : goal.decreases-stops_by_search
decreases-stops_by_search l = l.setpoints
