-- The step that an axis takes: the wanted one where it is safe, else the safe one nearest to it.
use Rattle.std.specs.Prelude.{ℤ, pos, neg_ℤ, ◌+ℤ◌, ◌-ℤ◌, unsigned_abs, List, [], ◌∷◌}
use Rattle.std.specs.Int.{int_min, int_max}
use Rattle.plc_types.specs.declared.limits.Limits.{Limits}
use Rattle.kin_core.specs.Admissible.{least_step_after, greatest_step_after}
use Rattle.motion_numbers.specs.Run.{reach_of}

-- the greatest step up after which the axis can brake by dmax below hi. This project's profile
abbrev pub reach_up_of : Limits → ℤ → ℤ
reach_up_of limits now =
    pos (reach_of (unsigned_abs (limits.hi -ℤ now)) (unsigned_abs limits.dmax))

-- the greatest step down after which the axis can brake by dmax above lo, as a size. This project's
-- profile
abbrev pub reach_down_of : Limits → ℤ → ℤ
reach_down_of limits now =
    pos (reach_of (unsigned_abs (now -ℤ limits.lo)) (unsigned_abs limits.dmax))

-- the least safe step: by vmax, by the step before it, and by the way to rest above lo. This
-- project's profile
unfoldable pub least_safe_of : Limits → ℤ → ℤ → ℤ
least_safe_of limits before now =
    int_max
    (int_max (neg_ℤ limits.vmax) (least_step_after limits (now -ℤ before)))
    (neg_ℤ (reach_down_of limits now))

-- the greatest safe step: by vmax, by the step before it, and by the way to rest below hi. This
-- project's profile
unfoldable pub greatest_safe_of : Limits → ℤ → ℤ → ℤ
greatest_safe_of limits before now =
    int_min
    (int_min limits.vmax (greatest_step_after limits (now -ℤ before)))
    (reach_up_of limits now)

-- the wanted step, cut to the least and the greatest safe step. This project's profile
unfoldable pub taken_step_of : Limits → ℤ → ℤ → ℤ → ℤ
taken_step_of limits before now wanted =
    int_max (least_safe_of limits before now) (int_min (greatest_safe_of limits before now) wanted)

-- the setpoints that a list of wanted steps leads to, each by its taken step. This project's
-- profile
abbrev pub setpoints_of : Limits → ℤ → ℤ → List ℤ → List ℤ
setpoints_of limits before now [] = []
setpoints_of limits before now (wanted ∷ more) =
    (now +ℤ taken_step_of limits before now wanted)
    ∷ setpoints_of limits now (now +ℤ taken_step_of limits before now wanted) more
