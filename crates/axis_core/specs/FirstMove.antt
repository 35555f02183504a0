-- The first of two moves, while the second waits to be blended with it. This project's profile.
use Rattle.std.specs.Prelude.{◌≡◌, ◌⊎◌, ℕ, zero, suc, ◌+◌, ◌/◌, max, true, ℤ, pos, ◌+ℤ◌, ◌-ℤ◌, unsigned_abs, if◌then◌else◌}
use Rattle.plc_types.specs.declared.limits.Limits.{Limits}
use Rattle.command_pool.specs.declared.rates.Rates.{Rates}
use Rattle.trapezoid_plan.specs.CyclesBound.{cycles_bound_of}
use Rattle.trapezoid_plan.specs.MoveRun.{move_taken_of}
use Rattle.blend_plan.specs.Blends.{BlendApplies, blend_applies}
use Rattle.blend_plan.specs.BlendRun.{blend_taken_of, has_crossed}

-- the taken step while the first of two moves is active: that of the blend where one applies, else
-- that of the first move by itself
unfoldable pub first_taken_of : Limits → ℤ → ℤ → ℤ → ℤ → Rates → Rates → ℤ → ℤ
first_taken_of limits target1 target2 before now first second vb =
    if blend_applies target1 target2 before now
    then blend_taken_of limits target1 target2 before now first second vb
    else move_taken_of limits first target1 before now

-- the first move ends in the cycle: a blend applies and the taken step crosses, or the axis stands
-- at the first target and the taken step is 0
abbrev pub FirstEnds : Limits → ℤ → ℤ → ℤ → ℤ → Rates → Rates → ℤ → Type 0
FirstEnds limits target1 target2 before now first second vb =
    (BlendApplies target1 target2 before now
    × (has_crossed target1 target2 now second vb
    (first_taken_of limits target1 target2 before now first second vb) ≡ true))
    ⊎ ((now ≡ target1)
    × (first_taken_of limits target1 target2 before now first second vb ≡ pos 0))

-- within n cycles the first move ends
abbrev pub FirstEndsWithin : ℕ → Limits → ℤ → ℤ → ℤ → ℤ → Rates → Rates → ℤ → Type 0
FirstEndsWithin zero limits target1 target2 before now first second vb = ⊥
FirstEndsWithin (suc n) limits target1 target2 before now first second vb =
    FirstEnds limits target1 target2 before now first second vb
    ⊎ FirstEndsWithin n limits target1 target2 now
    (now +ℤ first_taken_of limits target1 target2 before now first second vb) first second vb

-- within how many cycles a blend that has a step crosses: as many as the first target is units
-- away, and one. This project's profile
unfoldable pub crossing_bound_of : ℤ → ℤ → ℕ
crossing_bound_of target1 now = unsigned_abs (target1 -ℤ now) + 1

-- within how many cycles the first move ends from where a blend applies, with a step or without: it
-- brakes until the blend has one, and crosses; or it brakes past its target, at most its old step
-- in the first cycle, and comes back to it. This project's profile
unfoldable pub first_bound_of : ℤ → ℤ → ℤ → Rates → ℕ
first_bound_of target1 before now first =
    unsigned_abs (now -ℤ before) / unsigned_abs first.d + 1
    + max (crossing_bound_of target1 now) (cycles_bound_of (now -ℤ before) (now -ℤ before) first)
