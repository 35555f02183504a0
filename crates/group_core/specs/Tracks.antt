-- The path of a group, and how the group moves along it: an axis of its own, from place 0 on.
use Rattle.std.specs.Prelude.{◌≡◌, ℕ, zero, suc, Bool, false, not, ℤ, pos, ◌+ℤ◌, ◌-ℤ◌, unsigned_abs, Option, Some, None, List, slice_set}
use Rattle.std.specs.Int.{int_min}
use Rattle.std.specs.Ordering.{int_eq}
use Rattle.command_pool.specs.declared.rates.Rates.{Rates}
use Rattle.plc_types.specs.Limits.{AreLimits}
use Rattle.kin_core.specs.Admissible.{IsKept}
use Rattle.plc_types.specs.declared.limits.Limits.{Limits}
use Rattle.linear_path.specs.Line.{coordinate_of, longest_way_of, path_limits_of, place_between}
use Rattle.trapezoid_plan.specs.MoveRun.{halt_taken_of, move_taken_of}
use Rattle.group_core.specs.declared.group.Motion.{Motion}

-- the way of a path: how many axes it has, and where each starts and ends
pub record Way : Type 0 where
  pub count : ℕ
  pub starts : List ℤ
  pub targets : List ℤ

-- a way with the place on it
pub record OnPath : Type 0 where
  pub way : Way
  pub motion : Motion

-- the length of a straight line: its longest way. This project's profile
abbrev pub length_of : Way → ℕ
length_of w = longest_way_of w.count w.starts w.targets

-- where an axis stands on a straight line at a place of it. This project's profile
abbrev pub place_on : Way → ℕ → ℤ → ℤ
place_on w axis s =
    place_between (coordinate_of w.starts axis) (coordinate_of w.targets axis) (length_of w)
    (unsigned_abs s)

-- the limits of the path along a straight line, from those of its axes. This project's profile
abbrev pub limits_on : Way → List Limits → Limits
limits_on w limits = path_limits_of w.count w.starts w.targets limits

-- a group at the start of a straight line, with step 0
abbrev pub beginning : Way → List Limits → OnPath
beginning w limits = record {
  way = w;
  motion = record { limits = limits_on w limits; previous = pos 0; place = pos 0 };
}

-- the setpoints of this many axes are their places on a path, the others stay
unfoldable pub places_of : ℕ → (ℕ → ℤ → ℤ) → ℤ → List ℤ → List ℤ
places_of zero place s setpoints = setpoints
places_of (suc n) place s setpoints = slice_set (places_of n place s setpoints) n (place n s)

-- where the axes stand: on the path if there is one, else where they stood
abbrev pub places_at : Option OnPath → List ℤ → List ℤ
places_at None setpoints = setpoints
places_at (Some p) setpoints = places_of p.way.count (place_on p.way) p.motion.place setpoints

-- a path that can be stopped within its limits, which begin at place 0. This project's profile
pub record IsMotionKept (m : Motion) : Type 0 where
  pub limits : AreLimits m.limits
  pub from : m.limits.lo ≡ pos 0
  pub kept : IsKept m.limits m.previous m.place

-- the step along the path in the last cycle
abbrev pub old_step_of : Motion → ℤ
old_step_of m = m.place -ℤ m.previous

-- whether a path moves: its last step is not 0
abbrev pub is_running : Motion → Bool
is_running m = not (int_eq m.place m.previous)

-- whether there is a path that moves
abbrev pub is_moving : Option OnPath → Bool
is_moving None = false
is_moving (Some p) = is_running p.motion

-- the rates of a command, cut to the limits of the path
abbrev pub cut : Limits → Rates → Rates
cut limits rates = record {
  v = int_min rates.v limits.vmax;
  a = int_min rates.a limits.amax;
  d = int_min rates.d limits.dmax;
}

-- the taken step of a line: that of a move to the end of the path, by the cut rates
abbrev pub line_step_of : Rates → Motion → ℤ
line_step_of rates m = move_taken_of m.limits (cut m.limits rates) m.limits.hi m.previous m.place

-- the taken step of a path that brakes by a deceleration, which is cut to the path's
abbrev pub braking_step_of : ℤ → Motion → ℤ
braking_step_of d m = halt_taken_of m.limits (int_min d m.limits.dmax) m.previous m.place

-- the path after a step
abbrev pub moved_by : ℤ → Motion → Motion
moved_by step m = record m { previous = m.place; place = m.place +ℤ step }
