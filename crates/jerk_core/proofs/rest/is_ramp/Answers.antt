-- A ramp has few cycles.
use Rattle.std.proofs.Common.{◌≤◌, arith}
use Rattle.std.proofs.lemmas.Bool.{false≢true}
use Rattle.jerk_core.proofs.Phases.{ramp_few}
use Rattle.jerk_core.proofs.rest.is_ramp.Goals as goal

pub returns-then-n-gt-MOST_CYCLES : goal.returns-then-n-gt-MOST_CYCLES
returns-then-n-gt-MOST_CYCLES c = (
  λ yes. absurd (false≢true yes),
  λ ramp. absurd (let few : c.args.n ≤ 400000 = ramp_few c.args.n c.args.d c.args.j c.args.last c.args.speed c.requires.j_least c.requires.tops ramp in omega arith),
)
