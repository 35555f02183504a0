-- Groups and their paths, read from the fields of a header's records. This project's profile.
use Rattle.std.specs.Prelude.{ℕ, ℤ, nat_le, Bool, ◌&&◌, if◌then◌else◌, unsigned_abs, Option, Some, None, List, [], ◌∷◌, codes}
use Rattle.std.specs.List.{list_all}
use Rattle.group_core.specs.Tracks.{OnPath, Way}
use Rattle.group_core.specs.declared.group.Motion.{Motion}
use Rattle.plc_types.specs.declared.limits.Limits.{Limits}
use Rattle.line_text.specs.Numbers.{◌>>=◌}
use Rattle.line_text.specs.Texts.{says}
use Rattle.motion_history.specs.declared.config.GroupDef.{GroupDef}
use Rattle.motion_kernel.specs.Machine.{PlacedGroup}
use Rattle.motion_numbers.specs.declared.TheConstants.{MOST_PLACE}
use Rattle.segment_text.specs.reading.Columns.{Front, byte_of, owner_of, reset_of, word_of}
use Rattle.segment_text.specs.reading.Commands.{active_of, six_of}
use Rattle.trace_columns.specs.Columns.{group_state_of, wide_number_of}

-- limits
unfoldable pub limits_of : List (List ℕ) → Front Limits
limits_of (lo ∷ hi ∷ vmax ∷ amax ∷ dmax ∷ behind) = do
  l ← wide_number_of lo
  h ← wide_number_of hi
  v ← wide_number_of vmax
  a ← wide_number_of amax
  d ← wide_number_of dmax
  Some (record { lo = l; hi = h; vmax = v; amax = a; dmax = d }, behind)
limits_of _ = None

-- how a group moves along its path
unfoldable pub motion_by : Limits → List (List ℕ) → Front Motion
motion_by l (previous ∷ place ∷ behind) = do
  p ← wide_number_of previous
  s ← wide_number_of place
  Some (record { limits = l; previous = p; place = s }, behind)
motion_by l _ = None

unfoldable pub motion_of : List (List ℕ) → Front Motion
motion_of fields = do
  l ← limits_of fields
  motion_by l.0 l.1

-- whether all numbers are within 10^15
unfoldable pub are_places : List ℤ → Bool
are_places numbers = list_all (λ z. nat_le (unsigned_abs z) MOST_PLACE) numbers

-- a way of 2 to 6 axes from and to places within 10^15
unfoldable pub way_by : ℕ → List ℤ → List ℤ → Option Way
way_by count starts targets =
    if nat_le 2 count && nat_le count 6 && are_places starts && are_places targets
    then Some (record { count = count; starts = starts; targets = targets }) else None

-- the way of a path
unfoldable pub way_of : List (List ℕ) → Front Way
way_of [] = None
way_of (count ∷ fields) = do
  n ← byte_of count
  starts ← six_of fields
  targets ← six_of starts.1
  w ← way_by n starts.0 targets.0
  Some (w, targets.1)

-- a path and how the group moves along it
unfoldable pub on_path_of : List (List ℕ) → Front (Option OnPath)
on_path_of fields = do
  w ← way_of fields
  m ← motion_of w.1
  Some (Some (record { way = w.0; motion = m.0 }), m.1)

-- the path of a group, if it is on one
unfoldable pub path_of : List (List ℕ) → Front (Option OnPath)
path_of [] = Some (None, [])
path_of (first ∷ fields) =
    if says first (codes "path") then on_path_of fields else Some (None, first ∷ fields)

-- the group of these fields after its number
unfoldable pub group_of : GroupDef → List (List ℕ) → Option PlacedGroup
group_of d (state ∷ error ∷ reset ∷ hold ∷ behind) = do
  s ← group_state_of state
  e ← word_of error
  r ← reset_of reset
  h ← owner_of hold
  path ← path_of behind
  w ← active_of path.1
  Some (record {
    group = record {
      axes = d.count;
      state = s;
      error = e;
      active = w;
      reset = r;
      hold = h;
    };
    path = path.0;
  })
group_of d _ = None
