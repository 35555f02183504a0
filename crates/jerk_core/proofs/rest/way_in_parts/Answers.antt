-- The ramp, and the falls behind it.
use Rattle.std.proofs.Common.{◌≡◌, ℕ, ◌+◌, ◌-◌, ◌*◌, ◌<◌, ◌≤◌, suc, min, arith}
use Rattle.motion_numbers.specs.declared.TheConstants.{MOST_STEP}
use Rattle.motion_numbers.specs.Run.{reach_of}
use Rattle.jerk_core.specs.Braking.{way_of}
use Rattle.jerk_core.specs.Sums.{triangle_of, tetrahedron_of, IsRamp}
use Rattle.jerk_core.proofs.Phases.{RampOf, ramp_of, ramp_last, ramp_double, no_ramp_ends}
use Rattle.jerk_core.proofs.rest.way_in_parts.Goals as goal

-- where there is no ramp, what comes next is a fall
none_ends : (cycles d j w v : ℕ) → 1 ≤ j → cycles ≡ 0 → (IsRamp d j w v cycles → ⊥) → v + min d (reach_of v j) ≤ w + j
none_ends cycles d j w v some is over = no_ramp_ends d j w v some (rw is at over)

-- the speed before the last cycle of the ramp
before_is : (cycles d j w v x : ℕ) → 0 < cycles → (ramp : RampOf d j w v cycles MOST_STEP) →
    x + ((cycles - 1) * w + j * triangle_of (cycles - 1)) ≡ suc (cycles - 1) * v → x ≡ ramp.before
before_is cycles d j w v x moves ramp is =
    let one : suc (cycles - 1) ≡ cycles = omega arith in
    let same : x + ((cycles - 1) * w + j * triangle_of (cycles - 1)) ≡ cycles * v = rw one at is in
    omega (arith, ramp.before_is)

-- the speed after it
now_is : (cycles d j w v x y : ℕ) → 0 < cycles → (ramp : RampOf d j w v cycles MOST_STEP) → x ≡ ramp.before → y ≡ x + v - (cycles * j + w) → y ≡ ramp.now
now_is cycles d j w v x y moves ramp before is = omega (arith, ramp_last d j w v cycles MOST_STEP moves ramp)

-- the fall behind it
ends : (cycles d j w v p t : ℕ) → (ramp : RampOf d j w v cycles MOST_STEP) → p ≡ ramp.before → t ≡ ramp.now →
    (IsRamp d j w v cycles → ⊥) → t + min d (reach_of t j) ≤ p + j
ends cycles d j w v p t ramp before now over = rw (before, now) (ramp.ends over)

-- the whole way
whole : (cycles d j w v p t s rest : ℕ) → (ramp : RampOf d j w v cycles MOST_STEP) → p ≡ ramp.before → t ≡ ramp.now →
    ((a : ℕ) → suc cycles * (v + t) + j * tetrahedron_of cycles ≡ 2 * (a + v) → s ≡ a) → rest ≡ way_of d j p t → s + rest ≡ way_of d j w v
whole cycles d j w v p t s rest ramp before now sum is =
    let later : rest ≡ way_of d j ramp.before ramp.now = rw (before, now) at is in
    let same : s ≡ ramp.sum = (rw now at sum) ramp.sum (ramp_double d j w v cycles MOST_STEP ramp) in
    omega (arith, ramp.way)

pub way_of_falls-requires-clause-bends : goal.way_of_falls-requires-clause-bends
way_of_falls-requires-clause-bends c =
    none_ends c.ramp_cycles-cycles.result c.args.d c.args.j c.args.last c.args.speed c.requires.j_least (omega arith) c.ramp_cycles-cycles.ensures.ends

pub overflow_sub-now : goal.overflow_sub-now
overflow_sub-now c =
    let ramp : RampOf c.args.d c.args.j c.args.last c.args.speed c.ramp_cycles-cycles.result MOST_STEP =
    ramp_of c.ramp_cycles-cycles.result c.args.d c.args.j c.args.last c.args.speed MOST_STEP c.requires.d_least c.requires.j_least (omega arith) c.ramp_cycles-cycles.ensures.goes c.requires.tops in
    let before : c.speed_of_ramp-before.result ≡ ramp.before =
    before_is c.ramp_cycles-cycles.result c.args.d c.args.j c.args.last c.args.speed c.speed_of_ramp-before.result (omega arith) ramp c.speed_of_ramp-before.ensures in
    omega (arith, before, ramp_last c.args.d c.args.j c.args.last c.args.speed c.ramp_cycles-cycles.result MOST_STEP (omega arith) ramp)

pub way_of_ramp-requires-clause-now : goal.way_of_ramp-requires-clause-now
way_of_ramp-requires-clause-now c =
    let ramp : RampOf c.args.d c.args.j c.args.last c.args.speed c.ramp_cycles-cycles.result MOST_STEP =
    ramp_of c.ramp_cycles-cycles.result c.args.d c.args.j c.args.last c.args.speed MOST_STEP c.requires.d_least c.requires.j_least (omega arith) c.ramp_cycles-cycles.ensures.goes c.requires.tops in
    let before : c.speed_of_ramp-before.result ≡ ramp.before =
    before_is c.ramp_cycles-cycles.result c.args.d c.args.j c.args.last c.args.speed c.speed_of_ramp-before.result (omega arith) ramp c.speed_of_ramp-before.ensures in
    let now : c.speed_of_ramp-before.result + c.args.speed - (c.ramp_cycles-cycles.result * c.args.j + c.args.last) ≡ ramp.now =
    now_is c.ramp_cycles-cycles.result c.args.d c.args.j c.args.last c.args.speed c.speed_of_ramp-before.result
    (c.speed_of_ramp-before.result + c.args.speed - (c.ramp_cycles-cycles.result * c.args.j + c.args.last)) (omega arith) ramp before (omega arith) in
    rw now ramp.tops

pub way_of_falls-requires-2-clause-last : goal.way_of_falls-requires-2-clause-last
way_of_falls-requires-2-clause-last c =
    let ramp : RampOf c.args.d c.args.j c.args.last c.args.speed c.ramp_cycles-cycles.result MOST_STEP =
    ramp_of c.ramp_cycles-cycles.result c.args.d c.args.j c.args.last c.args.speed MOST_STEP c.requires.d_least c.requires.j_least (omega arith) c.ramp_cycles-cycles.ensures.goes c.requires.tops in
    let before : c.speed_of_ramp-before.result ≡ ramp.before =
    before_is c.ramp_cycles-cycles.result c.args.d c.args.j c.args.last c.args.speed c.speed_of_ramp-before.result (omega arith) ramp c.speed_of_ramp-before.ensures in
    omega (arith, before, ramp.falls, ramp.tops, c.requires.d_most)

pub way_of_falls-requires-2-clause-speed : goal.way_of_falls-requires-2-clause-speed
way_of_falls-requires-2-clause-speed c =
    let ramp : RampOf c.args.d c.args.j c.args.last c.args.speed c.ramp_cycles-cycles.result MOST_STEP =
    ramp_of c.ramp_cycles-cycles.result c.args.d c.args.j c.args.last c.args.speed MOST_STEP c.requires.d_least c.requires.j_least (omega arith) c.ramp_cycles-cycles.ensures.goes c.requires.tops in
    let before : c.speed_of_ramp-before.result ≡ ramp.before =
    before_is c.ramp_cycles-cycles.result c.args.d c.args.j c.args.last c.args.speed c.speed_of_ramp-before.result (omega arith) ramp c.speed_of_ramp-before.ensures in
    let now : c.speed_of_ramp-before.result + c.args.speed - (c.ramp_cycles-cycles.result * c.args.j + c.args.last) ≡ ramp.now =
    now_is c.ramp_cycles-cycles.result c.args.d c.args.j c.args.last c.args.speed c.speed_of_ramp-before.result
    (c.speed_of_ramp-before.result + c.args.speed - (c.ramp_cycles-cycles.result * c.args.j + c.args.last)) (omega arith) ramp before (omega arith) in
    rw now ramp.tops

pub way_of_falls-requires-2-clause-bends : goal.way_of_falls-requires-2-clause-bends
way_of_falls-requires-2-clause-bends c =
    let ramp : RampOf c.args.d c.args.j c.args.last c.args.speed c.ramp_cycles-cycles.result MOST_STEP =
    ramp_of c.ramp_cycles-cycles.result c.args.d c.args.j c.args.last c.args.speed MOST_STEP c.requires.d_least c.requires.j_least (omega arith) c.ramp_cycles-cycles.ensures.goes c.requires.tops in
    let before : c.speed_of_ramp-before.result ≡ ramp.before =
    before_is c.ramp_cycles-cycles.result c.args.d c.args.j c.args.last c.args.speed c.speed_of_ramp-before.result (omega arith) ramp c.speed_of_ramp-before.ensures in
    let now : c.speed_of_ramp-before.result + c.args.speed - (c.ramp_cycles-cycles.result * c.args.j + c.args.last) ≡ ramp.now =
    now_is c.ramp_cycles-cycles.result c.args.d c.args.j c.args.last c.args.speed c.speed_of_ramp-before.result
    (c.speed_of_ramp-before.result + c.args.speed - (c.ramp_cycles-cycles.result * c.args.j + c.args.last)) (omega arith) ramp before (omega arith) in
    ends c.ramp_cycles-cycles.result c.args.d c.args.j c.args.last c.args.speed c.speed_of_ramp-before.result _ ramp before now c.ramp_cycles-cycles.ensures.ends

pub returns : goal.returns
returns c =
    let ramp : RampOf c.args.d c.args.j c.args.last c.args.speed c.ramp_cycles-cycles.result MOST_STEP =
    ramp_of c.ramp_cycles-cycles.result c.args.d c.args.j c.args.last c.args.speed MOST_STEP c.requires.d_least c.requires.j_least (omega arith) c.ramp_cycles-cycles.ensures.goes c.requires.tops in
    let before : c.speed_of_ramp-before.result ≡ ramp.before =
    before_is c.ramp_cycles-cycles.result c.args.d c.args.j c.args.last c.args.speed c.speed_of_ramp-before.result (omega arith) ramp c.speed_of_ramp-before.ensures in
    let now : c.speed_of_ramp-before.result + c.args.speed - (c.ramp_cycles-cycles.result * c.args.j + c.args.last) ≡ ramp.now =
    now_is c.ramp_cycles-cycles.result c.args.d c.args.j c.args.last c.args.speed c.speed_of_ramp-before.result
    (c.speed_of_ramp-before.result + c.args.speed - (c.ramp_cycles-cycles.result * c.args.j + c.args.last)) (omega arith) ramp before (omega arith) in
    record {
      value = whole c.ramp_cycles-cycles.result c.args.d c.args.j c.args.last c.args.speed c.speed_of_ramp-before.result _
          c.way_of_ramp.result c.way_of_falls-2.result ramp before now c.way_of_ramp.ensures.value c.way_of_falls-2.ensures.value;
    }
