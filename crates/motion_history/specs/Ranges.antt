-- The ranges of a configuration's numbers, as tests. This project's profile.
use Rattle.std.specs.Prelude.{ℕ, ◌-◌, ◌^◌, Bool, ◌&&◌, ◌==◌, unsigned_abs, nat_lt, if◌then◌else◌, ℤ, pos, neg_ℤ, int_le, int_lt}
use Rattle.std.specs.Int.{int_div_euclid, int_rem_euclid}
use Rattle.motion_numbers.specs.declared.TheConstants.{MOST_INCREMENT, MOST_PLACE, MOST_STEP}
use Rattle.plc_types.specs.declared.limits.Limits.{Limits}
use Rattle.plc_types.specs.declared.axis.AxisDef.{AxisDef}
use Rattle.plc_types.specs.Kinds.{acts_on_group}
use Rattle.plc_types.specs.declared.kind.BlockKind.{BlockKind}
use Rattle.motion_history.specs.declared.config.BlockDef.{BlockDef}

-- whether z lies between two numbers, both included
abbrev pub is_between : ℤ → ℤ → ℤ → Bool
is_between low z high = int_le low z && int_le z high

-- whether the least and the greatest place of an axis are in range, in internal units
abbrev pub are_places : Limits → Bool
are_places l =
    int_le (neg_ℤ (pos MOST_PLACE)) l.lo && int_lt l.lo l.hi && int_le l.hi (pos MOST_PLACE)

-- whether the greatest steps of an axis and of their changes are in range, per cycle
abbrev pub are_speeds : Limits → Bool
are_speeds l =
    is_between (pos 1) l.vmax (pos MOST_STEP) && is_between (pos 2) l.amax (pos MOST_STEP) &&
    is_between l.amax l.dmax (pos MOST_STEP)

-- whether the target counts of all places of an axis that was not homed are 32-bit numbers. IEC
-- 61800-7-201, object 607Ah
abbrev pub has_counts : Limits → ℤ → Bool
has_counts l inc =
    int_le (neg_ℤ (pos (2 ^ 31))) (int_div_euclid l.lo inc) &&
    int_le (int_div_euclid l.hi inc) (pos (2 ^ 31 - 1))

-- whether the start is a multiple of the increment within the limits
abbrev pub is_start : Limits → ℤ → ℤ → Bool
is_start l inc start = is_between l.lo start l.hi && (unsigned_abs (int_rem_euclid start inc) == 0)

-- whether an axis may have these limits, this increment and this start
unfoldable pub is_axis_range : Limits → ℤ → ℤ → Bool
is_axis_range l inc start =
    are_places l && are_speeds l && is_between (pos 1) inc (pos MOST_INCREMENT) &&
    has_counts l inc && is_start l inc start

-- whether an axis is in its ranges
abbrev pub is_axis : AxisDef → Bool
is_axis d = is_axis_range d.limits d.inc d.start

-- whether the task and the axis or group of a block are there, by the numbers of tasks, axes and
-- groups
abbrev pub has_block : ℕ → ℕ → ℕ → ℕ → BlockKind → ℕ → Bool
has_block tasks axes groups task kind object =
    nat_lt task tasks && nat_lt object (if acts_on_group kind then groups else axes)

-- whether a block's task and its axis or group are there
abbrev pub is_block : ℕ → ℕ → ℕ → BlockDef → Bool
is_block tasks axes groups b = has_block tasks axes groups b.task b.kind b.object
