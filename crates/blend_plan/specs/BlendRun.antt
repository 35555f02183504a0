-- The taken steps while a blend applies, and where they cross.
use Rattle.std.specs.Prelude.{◌≡◌, ◌⊎◌, ℕ, zero, suc, Bool, true, ℤ, pos, neg_ℤ, ◌+ℤ◌, ◌-ℤ◌, ◌≤ℤ◌, int_lt, if◌then◌else◌}
use Rattle.plc_types.specs.declared.limits.Limits.{Limits}
use Rattle.kin_core.specs.Taken.{taken_step_of}
use Rattle.command_pool.specs.declared.rates.Rates.{Rates}
use Rattle.blend_plan.specs.Blends.{LieAhead, BlendApplies}
use Rattle.blend_plan.specs.BlendStep.{MayBlend, blend_step_of, crosses_at}

-- two moves, one blended into the other, within limits: both targets lie within lo and hi, and the
-- rates of the first move, the deceleration of the second and the blend velocity are at most those
-- of the limits. This project's profile
pub record IsBlendWithin (limits : Limits) (target1 target2 : ℤ) (first second : Rates) (vb : ℤ) : Type 0 where
  pub first_above : limits.lo ≤ℤ target1
  pub first_below : target1 ≤ℤ limits.hi
  pub second_above : limits.lo ≤ℤ target2
  pub second_below : target2 ≤ℤ limits.hi
  pub velocity : first.v ≤ℤ limits.vmax
  pub acceleration : first.a ≤ℤ limits.amax
  pub first_deceleration : first.d ≤ℤ limits.dmax
  pub second_deceleration : second.d ≤ℤ limits.dmax
  pub least_passing : pos 1 ≤ℤ vb
  pub passing : vb ≤ℤ limits.vmax

-- two targets lie ahead, and there is a step that may follow in the blend. This project's profile
pub record HasBlendStep (l1 l2 old : ℤ) (first second : Rates) (vb : ℤ) : Type 0 where
  pub ahead : LieAhead l1 l2 old
  pub step : ℤ
  pub follows : MayBlend l1 l2 old first second vb step

-- a blend applies at the setpoints and has a step. This project's profile
abbrev pub HasBlend : ℤ → ℤ → ℤ → ℤ → Rates → Rates → ℤ → Type 0
HasBlend target1 target2 before now first second vb =
    HasBlendStep (target1 -ℤ now) (target2 -ℤ now) (now -ℤ before) first second vb
    ⊎ HasBlendStep (now -ℤ target1) (now -ℤ target2) (before -ℤ now) first second vb

-- the wanted step of a blend: the blend step, in the direction from the first target to the second.
-- This project's profile
unfoldable pub blend_wanted_of : ℤ → ℤ → ℤ → ℤ → Rates → Rates → ℤ → ℤ
blend_wanted_of target1 target2 before now first second vb =
    if int_lt target1 target2
    then blend_step_of (target1 -ℤ now) (target2 -ℤ now) (now -ℤ before) first second vb
    else neg_ℤ (blend_step_of (now -ℤ target1) (now -ℤ target2) (before -ℤ now) first second vb)

-- the taken step of a blend: the safe step nearest to the wanted one. This project's profile
unfoldable pub blend_taken_of : Limits → ℤ → ℤ → ℤ → ℤ → Rates → Rates → ℤ → ℤ
blend_taken_of limits target1 target2 before now first second vb =
    taken_step_of limits before now (blend_wanted_of target1 target2 before now first second vb)

-- whether the taken step from the setpoint crosses, in the direction from the first target to the
-- second. This project's profile
unfoldable pub has_crossed : ℤ → ℤ → ℤ → Rates → ℤ → ℤ → Bool
has_crossed target1 target2 now second vb step =
    if int_lt target1 target2
    then crosses_at (target1 -ℤ now) (target2 -ℤ now) second vb step
    else crosses_at (now -ℤ target1) (now -ℤ target2) second vb (neg_ℤ step)

-- one of the next n taken steps of the blend crosses. This project's profile
abbrev pub CrossesWithin : ℕ → Limits → ℤ → ℤ → ℤ → ℤ → Rates → Rates → ℤ → Type 0
CrossesWithin zero limits target1 target2 before now first second vb = ⊥
CrossesWithin (suc n) limits target1 target2 before now first second vb =
    (has_crossed target1 target2 now second vb
    (blend_taken_of limits target1 target2 before now first second vb) ≡ true)
    ⊎ CrossesWithin n limits target1 target2 now
    (now +ℤ blend_taken_of limits target1 target2 before now first second vb) first second vb

-- within n cycles the blend has a step, or it does not apply any more. This project's profile
abbrev pub SettlesWithin : ℕ → Limits → ℤ → ℤ → ℤ → ℤ → Rates → Rates → ℤ → Type 0
SettlesWithin zero limits target1 target2 before now first second vb = ⊥
SettlesWithin (suc n) limits target1 target2 before now first second vb =
    (HasBlend target1 target2 before now first second vb
    ⊎ (BlendApplies target1 target2 before now → ⊥))
    ⊎ SettlesWithin n limits target1 target2 now
    (now +ℤ blend_taken_of limits target1 target2 before now first second vb) first second vb
