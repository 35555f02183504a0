-- A ramp has few cycles.
use Rattle.std.proofs.Common.{◌≡◌, ℕ, ◌+◌, ◌-◌, ◌≤◌, zero, suc, arith, refl}
use Rattle.motion_numbers.specs.Run.{run_of}
use Rattle.jerk_core.specs.Sums.{IsRamp}
use Rattle.jerk_core.proofs.Phases.{ramp_few}
use Rattle.jerk_core.proofs.rest.ramp_cycles.Goals as goal

-- so many as there are
few : (cycles d j w v : ℕ) → 1 ≤ j → v + run_of (v - w - j) j ≤ 10000000000 → ((n : ℕ) → cycles ≡ suc n → IsRamp d j w v n) → cycles ≤ 500000
few zero d j w v some top goes = omega arith
few (suc n) d j w v some top goes = omega (arith, ramp_few n d j w v some top (goes n refl))

-- the last of some
last : (most n : ℕ) (d j w v : ℕ) → IsRamp d j w v (most - 1) → most ≡ suc n → IsRamp d j w v n
last most n d j w v ramp is = let before : most - 1 ≡ n = omega arith in rw before at ramp

pub returns-then-is_ramp-clause-few : goal.returns-then-is_ramp-clause-few
returns-then-is_ramp-clause-few c =
    few _ c.args.d c.args.j c.args.last c.args.speed c.requires.j_least c.requires.tops
    (λ n is. last _ n c.args.d c.args.j c.args.last c.args.speed (c.is_ramp.ensures.0 c.if-is_ramp.true) is)

pub returns-clause-few : goal.returns-clause-few
returns-clause-few c = few _ c.args.d c.args.j c.args.last c.args.speed c.requires.j_least c.requires.tops c.cycles_below.ensures.goes
