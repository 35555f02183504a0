-- Straight lines of several axes: their places, and the limits of the path along them (this
-- project's profile).
use Rattle.std.specs.Prelude.{ℕ, zero, suc, ◌+◌, ◌-◌, ◌*◌, ◌/◌, max, ℤ, pos, ◌+ℤ◌, ◌-ℤ◌, unsigned_abs, int_lt, Bool, true, nat_eq, nat_le, ◌&&◌, if◌then◌else◌, List, slice_index_or}
use Rattle.motion_numbers.specs.declared.TheConstants.{MOST_STEP}
use Rattle.motion_numbers.specs.Ranges.{IsPlace}
use Rattle.plc_types.specs.declared.limits.Limits.{Limits}
use Rattle.linear_path.specs.Path.{standing_limits, limits_at}

-- the coordinate of an axis, the axes counted from 0
abbrev pub coordinate_of : List ℤ → ℕ → ℤ
coordinate_of coordinates axis = slice_index_or coordinates axis (pos 0)

-- every coordinate is within 10^15
abbrev pub AreInRange : List ℤ → Type 0
AreInRange coordinates = (axis : ℕ) → IsPlace (coordinate_of coordinates axis)

-- how far an axis goes, as a size
abbrev pub way_of : List ℤ → List ℤ → ℕ → ℕ
way_of starts targets axis = unsigned_abs (coordinate_of targets axis -ℤ coordinate_of starts axis)

-- the longest way of the first n axes; that of all axes is the length of the path
unfoldable pub longest_way_of : ℕ → List ℤ → List ℤ → ℕ
longest_way_of zero starts targets = 0
longest_way_of (suc n) starts targets =
    max (longest_way_of n starts targets) (way_of starts targets n)

-- the part of a way that is gone at place s, rounded down; nothing on a path of length 0
unfoldable pub part_of : ℕ → ℕ → ℕ → ℕ
part_of way length s = if nat_eq length 0 then 0 else way * s / length

-- where an axis stands at place s: that part of its way from its start toward its target
unfoldable pub place_between : ℤ → ℤ → ℕ → ℕ → ℤ
place_between start target length s =
    if int_lt target start
    then start -ℤ pos (part_of (unsigned_abs (target -ℤ start)) length s)
    else start +ℤ pos (part_of (unsigned_abs (target -ℤ start)) length s)

-- n divided by d and rounded up, where d is from 1
unfoldable pub ceil_of : ℕ → ℕ → ℕ
ceil_of n d = (n + (d - 1)) / d

-- where the path goes by w each cycle, an axis of this way goes no faster than vmax
unfoldable pub keeps_velocity : ℕ → ℕ → ℕ → ℕ → Bool
keeps_velocity way length vmax w = nat_le (ceil_of (way * w) length) vmax

-- where the path's step changes by b, that of an axis changes by at most `most`: not at all where
-- it rests, as much where its way is the longest, else by one more than its share for the rounding
-- of its places
unfoldable pub keeps_change : ℕ → ℕ → ℕ → ℕ → Bool
keeps_change way length most b =
    if nat_eq way 0 then true
    else (if nat_eq way length then nat_le b most else nat_le (ceil_of (way * b) length + 1) most)

-- each of the first n axes passes the test
unfoldable pub all_axes : ℕ → (ℕ → Bool) → Bool
all_axes zero test = true
all_axes (suc n) test = all_axes n test && test n

-- the greatest number up to n that passes the test, or 0 where none does
unfoldable pub greatest_up_to : ℕ → (ℕ → Bool) → ℕ
greatest_up_to zero test = 0
greatest_up_to (suc n) test = if test (suc n) then suc n else greatest_up_to n test

-- the greatest velocity up to 10^10 of a path at which every axis keeps its vmax
unfoldable pub path_velocity_of : ℕ → List ℤ → List ℤ → ℕ → List Limits → ℕ
path_velocity_of count starts targets length limits =
    greatest_up_to MOST_STEP (λ w. all_axes count (λ axis.
    keeps_velocity (way_of starts targets axis) length
    (unsigned_abs (limits_at limits axis).vmax) w))

-- the greatest gain of speed up to 10^10 with which every axis, rounding included, keeps its amax
unfoldable pub path_acceleration_of : ℕ → List ℤ → List ℤ → ℕ → List Limits → ℕ
path_acceleration_of count starts targets length limits =
    greatest_up_to MOST_STEP (λ b. all_axes count (λ axis.
    keeps_change (way_of starts targets axis) length (unsigned_abs (limits_at limits axis).amax) b))

-- the greatest loss of speed up to 10^10 with which every axis, rounding included, keeps its dmax
unfoldable pub path_deceleration_of : ℕ → List ℤ → List ℤ → ℕ → List Limits → ℕ
path_deceleration_of count starts targets length limits =
    greatest_up_to MOST_STEP (λ b. all_axes count (λ axis.
    keeps_change (way_of starts targets axis) length (unsigned_abs (limits_at limits axis).dmax) b))

-- the limits of the path along a line: from place 0 to its length, with the greatest rates with
-- which each axis, given one unit more for the rounding of its places where it neither rests nor
-- has the longest way, keeps its own
unfoldable pub path_limits_of : ℕ → List ℤ → List ℤ → List Limits → Limits
path_limits_of count starts targets limits =
    let length = longest_way_of count starts targets in
    if nat_eq length 0 then standing_limits
    else record {
      lo = pos 0;
      hi = pos length;
      vmax = pos (path_velocity_of count starts targets length limits);
      amax = pos (path_acceleration_of count starts targets length limits);
      dmax = pos (path_deceleration_of count starts targets length limits);
    }
