-- In which direction a blend that applies leads.
-- for: blended_moves_end_in_time, moves_are_done_at_their_targets
use Rattle.std.specs.Prelude.{◌≡◌, Bool, true, false, ℤ, neg_ℤ, ◌-ℤ◌, ◌≤ℤ◌, ◌<ℤ◌, int_lt}
use Rattle.std.proofs.Common.{◌∙◌, arith, inl, inr}
use Rattle.std.proofs.lemmas.Int.{ints}
use Rattle.command_pool.specs.declared.rates.Rates.{Rates}
use Rattle.blend_plan.specs.BlendRun.{blend_wanted_of, has_crossed}
use Rattle.blend_plan.specs.BlendStep.{blend_step_of, crosses_at}
use Rattle.blend_plan.specs.Blends.{BlendApplies, LieAhead}

-- up, where the second target lies above the first
pub first_up : (first second before now : ℤ) → BlendApplies first second before now → first <ℤ second →
    LieAhead (first -ℤ now) (second -ℤ now) (now -ℤ before)
first_up first second before now (inl ahead) up = ahead
first_up first second before now (inr ahead) up = absurd (omega (arith, ints, ahead.second))

-- and down where it doesn't
pub first_down : (first second before now : ℤ) → BlendApplies first second before now → second ≤ℤ first →
    LieAhead (now -ℤ first) (now -ℤ second) (before -ℤ now)
first_down first second before now (inr ahead) down = ahead
first_down first second before now (inl ahead) down = absurd (omega (arith, ints, ahead.second))

-- the wanted step of a blend upward, from what it is counted with
pub wanted_up : (t1 t2 before now l1 l2 old step taken : ℤ) (first second : Rates) (v w : ℤ) → t1 <ℤ t2 →
    step ≡ blend_step_of l1 l2 old first second w → l1 ≡ t1 -ℤ now → l2 ≡ t2 -ℤ now → old ≡ now -ℤ before → w ≡ v → taken ≡ step →
    taken ≡ blend_wanted_of t1 t2 before now first second v
unfolding blend_wanted_of
wanted_up t1 t2 before now l1 l2 old step taken first second v w up is a b o same last =
    let test : int_lt t1 t2 ≡ true = grind (arith, ints) in
    rw (test, ← a, ← b, ← o, ← same) (last ∙ is)

-- and downward
pub wanted_down : (t1 t2 before now l1 l2 old step taken : ℤ) (first second : Rates) (v w : ℤ) → t2 ≤ℤ t1 →
    step ≡ blend_step_of l1 l2 old first second w → l1 ≡ now -ℤ t1 → l2 ≡ now -ℤ t2 → old ≡ before -ℤ now → w ≡ v → taken ≡ neg_ℤ step →
    taken ≡ blend_wanted_of t1 t2 before now first second v
unfolding blend_wanted_of
wanted_down t1 t2 before now l1 l2 old step taken first second v w down is a b o same turned =
    let test : int_lt t1 t2 ≡ false = grind (arith, ints) in
    rw (test, ← a, ← b, ← o, ← same, ← is) turned

-- whether a step crosses upward
pub crossed_up : (t1 t2 now l1 l2 step s : ℤ) (second : Rates) (v w : ℤ) (b : Bool) → t1 <ℤ t2 →
    b ≡ crosses_at l1 l2 second w step → l1 ≡ t1 -ℤ now → l2 ≡ t2 -ℤ now → step ≡ s → w ≡ v → b ≡ has_crossed t1 t2 now second v s
unfolding has_crossed
crossed_up t1 t2 now l1 l2 step s second v w b up is p q same also =
    let test : int_lt t1 t2 ≡ true = grind (arith, ints) in
    rw (test, ← p, ← q, ← same, ← also) is

-- and downward
pub crossed_down : (t1 t2 now l1 l2 step s : ℤ) (second : Rates) (v w : ℤ) (b : Bool) → t2 ≤ℤ t1 →
    b ≡ crosses_at l1 l2 second w step → l1 ≡ now -ℤ t1 → l2 ≡ now -ℤ t2 → step ≡ neg_ℤ s → w ≡ v → b ≡ has_crossed t1 t2 now second v s
unfolding has_crossed
crossed_down t1 t2 now l1 l2 step s second v w b down is p q same also =
    let test : int_lt t1 t2 ≡ false = grind (arith, ints) in
    rw (test, ← p, ← q, ← same, ← also) is
