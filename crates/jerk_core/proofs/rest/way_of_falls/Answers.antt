-- Falls by d as long as they can be taken back, and then the landing.
use Rattle.std.proofs.Common.{◌≡◌, ℕ, ◌+◌, ◌-◌, ◌*◌, ◌/◌, ◌%◌, ◌<◌, ◌≤◌, suc, min, arith, refl}
use Rattle.std.proofs.lemmas.Nat.{div-add-mod', mod_below}
use Rattle.motion_numbers.specs.Run.{run_of, reach_of}
use Rattle.motion_numbers.proofs.Runs.{run_ge}
use Rattle.motion_numbers.proofs.Reaches.{reach_greatest, below_reach_of}
use Rattle.jerk_core.specs.Braking.{way_of}
use Rattle.jerk_core.specs.Sums.{triangle_of}
use Rattle.jerk_core.proofs.Phases.{flat_way}
use Rattle.jerk_core.proofs.rest.way_of_falls.Goals as goal

-- below the way of a fall by d the reach is less
short : (d j v m : ℕ) → 1 ≤ j → m ≡ run_of d j → v < m → reach_of v j < d
short d j v m some is less = below_reach_of d v j some (omega arith)

-- the falls that fit
falls_fit : (d j v m : ℕ) → 1 ≤ d → 1 ≤ j → m ≡ run_of d j → m ≤ v → ((v - m) / d + 1) * d ≤ v
falls_fit d j v m slows some is within =
    let parts : (v - m) / d * d + (v - m) % d ≡ v - m = div-add-mod' (v - m) d in
    omega (arith, run_ge d j some)

-- the way of the falls and of the landing behind them
falls_is : (d j w v m n rest flat landing : ℕ) → 1 ≤ d → 1 ≤ j → m ≡ run_of d j → m ≤ v → v + min d (reach_of v j) ≤ w + j →
    n ≡ (v - m) / d → rest ≡ v - (n + 1) * d → flat + d * triangle_of (n + 1) ≡ (n + 1) * v →
    ((e : ℕ) → 1 ≤ e → reach_of rest j ≤ e → rest + reach_of rest j ≤ rest + d + j → landing ≡ way_of e j (rest + d) rest) →
    flat + landing ≡ way_of d j w v
falls_is d j w v m n rest flat landing slows some is within bends count left sum later =
    let parts : (v - m) / d * d + (v - m) % d ≡ v - m = div-add-mod' (v - m) d in
    let less : (v - m) % d < d = mod_below (v - m) d slows in
    let same : n * d ≡ (v - m) / d * d = rw count refl in
    let first : d ≤ run_of d j = run_ge d j some in
    let reach : d ≤ reach_of v j = reach_greatest d v j some (omega arith) in
    let under : reach_of rest j < d = below_reach_of d rest j some (omega arith) in
    let way : way_of d j w v + d * triangle_of (suc n) ≡ suc n * v + way_of d j (rest + d) rest =
    flat_way n d j w v (rest + d) rest slows some (omega arith) (omega arith) (omega arith) (omega arith) in
    let landed : landing ≡ way_of d j (rest + d) rest = later d slows (omega arith) (omega arith) in
    let one : n + 1 ≡ suc n = omega arith in
    let whole : flat + d * triangle_of (suc n) ≡ suc n * v = rw one at sum in
    omega arith

pub returns-then-speed-landing-clause-value : goal.returns-then-speed-landing-clause-value
returns-then-speed-landing-clause-value c =
    let under : reach_of c.args.speed c.args.j < c.args.d =
    short c.args.d c.args.j c.args.speed c.ramp_sum-landing.result c.requires.j_least c.ramp_sum-landing.ensures.value (omega arith) in
    c.way_of_landing.ensures c.args.d c.requires.d_least (omega arith) (omega (arith, c.requires.bends))

pub overflow_sub-rest : goal.overflow_sub-rest
overflow_sub-rest c = falls_fit c.args.d c.args.j c.args.speed c.ramp_sum-landing.result c.requires.d_least c.requires.j_least c.ramp_sum-landing.ensures.value (omega arith)

pub way_of_flat-requires-clause-falls : goal.way_of_flat-requires-clause-falls
way_of_flat-requires-clause-falls c =
    falls_fit c.args.d c.args.j c.args.speed c.ramp_sum-landing.result c.requires.d_least c.requires.j_least c.ramp_sum-landing.ensures.value (omega arith)

pub returns-clause-value : goal.returns-clause-value
returns-clause-value c =
    falls_is c.args.d c.args.j c.args.last c.args.speed c.ramp_sum-landing.result _ _ c.way_of_flat.result c.way_of_landing-2.result
    c.requires.d_least c.requires.j_least c.ramp_sum-landing.ensures.value (omega arith) c.requires.bends refl refl
    c.way_of_flat.ensures.value c.way_of_landing-2.ensures
