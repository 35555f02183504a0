-- The items of a machine, read from the records of a trace: each is the fields after its kind.
-- This project's profile.
use Rattle.std.specs.Prelude.{ℕ, ℤ, pos, Bool, ◌&&◌, ◌||◌, not, is_some, Result, Ok, Err, List, [], ◌∷◌, ◌++◌}
use Rattle.std.specs.List.{slice_split}
use Rattle.std.specs.Option.{ok_or}
use Rattle.std.specs.Ordering.{int_eq}
use Rattle.plc_types.specs.Names.{is_name}
use Rattle.plc_types.specs.KindNames.{kind_in}
use Rattle.plc_types.specs.declared.kind.BlockKind.{BlockKind}
use Rattle.plc_types.specs.declared.limits.Limits.{Limits}
use Rattle.line_text.specs.Reading.{◌>>=◌, each_of}
use Rattle.line_text.specs.Rules.{broken_unless, in_range}
use Rattle.machine_words.specs.Names.{axis_at, axis_named, group_at, object_at, task_at}
use Rattle.machine_words.specs.Positions.{is_semicolon}
use Rattle.machine_words.specs.Rules.{broken_by}
use Rattle.machine_words.specs.Tables.{table_added}
use Rattle.motion_history.specs.Faults.{axis_fault, block_fault, group_fault, task_fault, whole_fault}
use Rattle.motion_history.specs.Members.{group_of}
use Rattle.motion_history.specs.Setup.{Setup}
use Rattle.motion_history.specs.Versions.{number_of}
use Rattle.motion_history.specs.declared.refused.TraceVersion.{TraceVersion}
use Rattle.motion_history.specs.declared.refused.TraceVersion.TheVariants.{One, Three}
use Rattle.motion_history.specs.declared.sizes.TheConstants.{MOST_CYCLES, MOST_ENTRIES}
use Rattle.trace_columns.specs.Columns.{flag_of, point_of, size_limited_of}
use Rattle.trace_text.specs.reading.Rules.{are_empty, rule_of, value}
use Rattle.trace_text.specs.declared.reading.item.Placed.{Placed}
use Rattle.trace_text.specs.reading.RuleNumbers.{item_refused, item_rules, no_value}

-- the parts of a field
unfoldable pub parts_of : List ℕ → List (List ℕ)
parts_of text = slice_split is_semicolon text

-- a number that is an input or a limit; another field breaks its rule
unfoldable pub number : List ℕ → Result ℤ ℕ
number text = value (size_limited_of text)

-- the limits of an axis, in internal units, per cycle and per cycle per cycle
unfoldable pub limits_of : List (List ℕ) → Result Limits ℕ
limits_of (lo ∷ hi ∷ vmax ∷ amax ∷ dmax ∷ []) = do
  l ← number lo
  h ← number hi
  v ← number vmax
  a ← number amax
  d ← number dmax
  Ok (record { lo = l; hi = h; vmax = v; amax = a; dmax = d })
limits_of _ = Err no_value

-- the last fields of an axis: in version 3 its jerk limit and whether it is modulo, and no axis has
-- either; in the others nothing
unfoldable pub axis_end_meaning : TraceVersion → List (List ℕ) → Result (Unit {0}) ℕ
axis_end_meaning Three (jerk ∷ modulo ∷ unused) = do
  j ← number jerk
  m ← value (flag_of modulo)
  _ ← broken_unless (are_empty unused) no_value
  broken_unless (int_eq j (pos 0) && not m) item_refused
axis_end_meaning Three _ = Err no_value
axis_end_meaning v unused = broken_unless (are_empty unused) no_value

-- the increment of an axis, its start and whether it is ready
unfoldable pub placed_of : TraceVersion → List (List ℕ) → Result Placed ℕ
placed_of v (inc ∷ start ∷ ready ∷ behind) = do
  i ← number inc
  place ← number start
  flag ← value (flag_of ready)
  _ ← axis_end_meaning v behind
  Ok (record { inc = i; start = place; ready = flag })
placed_of v _ = Err no_value

-- an axis of this name is added
unfoldable pub axis_added : TraceVersion → Setup → List ℕ → List (List ℕ) → List (List ℕ) →
    Result Setup ℕ
axis_added v s name limits behind = do
  _ ← broken_unless (is_name name) no_value
  l ← limits_of limits
  p ← placed_of v behind
  _ ← broken_by rule_of (axis_fault s name l p.inc p.start)
  Ok (record s {
    axes = s.axes ++ record {
      name = name;
      limits = l;
      inc = p.inc;
      start = p.start;
      ready = p.ready;
    } ∷ [];
  })

-- an axis: its name, its limits, its increment, its start, and whether it is ready. In version 1 it
-- brakes as hard as it speeds up
unfoldable pub axis_meaning : TraceVersion → Setup → List (List ℕ) → Result Setup ℕ
axis_meaning One s (name ∷ lo ∷ hi ∷ vmax ∷ amax ∷ behind) =
    axis_added One s name (lo ∷ hi ∷ vmax ∷ amax ∷ amax ∷ []) behind
axis_meaning v s (name ∷ lo ∷ hi ∷ vmax ∷ amax ∷ dmax ∷ behind) =
    axis_added v s name (lo ∷ hi ∷ vmax ∷ amax ∷ dmax ∷ []) behind
axis_meaning v s _ = Err no_value

-- a group: its name and its axes
unfoldable pub group_meaning : Setup → List (List ℕ) → Result Setup ℕ
group_meaning s (name ∷ members ∷ unused) = do
  _ ← broken_unless (is_name name && are_empty unused) no_value
  axes ← each_of (axis_named no_value s) (parts_of members)
  _ ← broken_by rule_of (group_fault s name axes)
  Ok (record s { groups = s.groups ++ group_of name axes ∷ [] })
group_meaning s _ = Err no_value

-- a point; another text breaks its rule
unfoldable pub point : List ℕ → Result (ℤ × ℤ) ℕ
point text = value (point_of text)

-- a cam table: its points
unfoldable pub table_meaning : Setup → List (List ℕ) → Result Setup ℕ
table_meaning s (told ∷ unused) = do
  _ ← broken_unless (are_empty unused) no_value
  points ← each_of point (parts_of told)
  table_added item_rules s points
table_meaning s _ = Err no_value

-- a task: its name
unfoldable pub task_meaning : Setup → List (List ℕ) → Result Setup ℕ
task_meaning s (name ∷ unused) = do
  _ ← broken_unless (is_name name && are_empty unused) no_value
  _ ← broken_by rule_of (task_fault s name)
  Ok (record s { tasks = s.tasks ++ name ∷ [] })
task_meaning s _ = Err no_value

-- whether a name is that of an axis or of a group
unfoldable pub is_object : Setup → List ℕ → Bool
is_object s name = is_some (axis_at s name) || is_some (group_at s name)

-- the kind of a block, which the version has
unfoldable pub kind_meaning : TraceVersion → List ℕ → Result BlockKind ℕ
kind_meaning v text = value (kind_in (number_of v) text)

-- a block: its name, its task, its kind, which the version has, and what it acts on. A name that is
-- no axis and no group is no value; a kind that doesn't fit what is named is refused
unfoldable pub block_meaning : TraceVersion → Setup → List (List ℕ) → Result Setup ℕ
block_meaning v s (name ∷ of_task ∷ of_kind ∷ of_object ∷ unused) = do
  _ ← broken_unless (is_name name && are_empty unused) no_value
  task ← value (task_at s of_task)
  kind ← kind_meaning v of_kind
  _ ← broken_unless (is_object s of_object) no_value
  object ← ok_or (object_at s kind of_object) item_refused
  _ ← broken_by rule_of (block_fault s name task kind object)
  Ok (record s {
    blocks = s.blocks ++ record {
      name = name;
      task = task;
      kind = kind;
      object = object;
    } ∷ [];
  })
block_meaning v s _ = Err no_value

-- the room of the history: the most cycles and the most entries
unfoldable pub room_meaning : Setup → List (List ℕ) → Result Setup ℕ
room_meaning s (cycles ∷ entries ∷ unused) = do
  c ← number cycles
  e ← number entries
  _ ← broken_unless (are_empty unused) no_value
  few_cycles ← in_range 1 MOST_CYCLES item_refused c
  few_entries ← in_range 1 MOST_ENTRIES item_refused e
  Ok (record s { cycles = few_cycles; entries = few_entries })
room_meaning s _ = Err no_value

-- the machine has an axis, a task and a block
abbrev pub whole : Setup → Result (Unit {0}) ℕ
whole s = broken_by rule_of (whole_fault s)
