-- The items of a bench's machine: its limits, axes, groups, cam tables and blocks. This project's
-- profile.
use Rattle.std.specs.Prelude.{ℕ, ℤ, Bool, true, false, if◌then◌else◌, codes, Result, Ok, Err, List, [], ◌∷◌, ◌++◌}
use Rattle.std.specs.Option.{ok_or}
use Rattle.plc_types.specs.declared.limits.Limits.{Limits}
use Rattle.line_text.specs.Numbers.{point_of}
use Rattle.line_text.specs.Reading.{◌>>=◌, each_of}
use Rattle.line_text.specs.Rules.{in_range}
use Rattle.line_text.specs.Texts.{says}
use Rattle.machine_words.specs.Names.{axis_named, kind_of, object_named}
use Rattle.machine_words.specs.Numbers.{number}
use Rattle.machine_words.specs.Rules.{broken_by, rule_of}
use Rattle.machine_words.specs.Tables.{table_added}
use Rattle.machine_words.specs.RuleNumbers.{no_value, out_of_range, wrong_count, wrong_name}
use Rattle.motion_history.specs.Faults.{axis_fault, block_fault, group_fault, name_fault}
use Rattle.motion_history.specs.Members.{group_of}
use Rattle.motion_history.specs.Setup.{Setup}
use Rattle.motion_history.specs.declared.refused.TraceVersion.{TraceVersion}
use Rattle.motion_history.specs.declared.refused.TraceVersion.TheVariants.{One}
use Rattle.bench_text.specs.Named.{task_named}
use Rattle.bench_text.specs.declared.axis.Placed.{Placed}
use Rattle.bench_text.specs.Drives.{item_rules}

-- `limit CYCLES ENTRIES`: the room of the history
unfoldable pub limit_meaning : Setup → List (List ℕ) → Result Setup ℕ
limit_meaning s (cycles ∷ entries ∷ []) = do
  c ← number cycles
  e ← number entries
  few_cycles ← in_range 1 200000 out_of_range c
  few_entries ← in_range 1 1000000 out_of_range e
  Ok (record s { cycles = few_cycles; entries = few_entries })
limit_meaning s _ = Err wrong_count

-- LO HI VMAX AMAX DMAX of an axis, in internal units, per cycle and per cycle per cycle
unfoldable pub limits_of : List (List ℕ) → Result Limits ℕ
limits_of (lo ∷ hi ∷ vmax ∷ amax ∷ dmax ∷ []) = do
  l ← number lo
  h ← number hi
  v ← number vmax
  a ← number amax
  d ← number dmax
  Ok (record { lo = l; hi = h; vmax = v; amax = a; dmax = d })
limits_of _ = Err wrong_count

-- `ready`, where it stands
unfoldable pub ready_of : List (List ℕ) → Result Bool ℕ
ready_of [] = Ok false
ready_of (word ∷ []) = if says word (codes "ready") then Ok true else Err no_value
ready_of _ = Err wrong_count

-- INC START of an axis, in internal units, and `ready` where it stands
unfoldable pub placed_of : List (List ℕ) → Result Placed ℕ
placed_of (inc ∷ start ∷ behind) = do
  i ← number inc
  place ← number start
  ready ← ready_of behind
  Ok (record { inc = i; start = place; ready = ready })
placed_of _ = Err wrong_count

-- an axis of this name is added
unfoldable pub axis_added : Setup → List ℕ → List (List ℕ) → List (List ℕ) → Result Setup ℕ
axis_added s name limits behind = do
  _ ← broken_by rule_of (name_fault s name)
  l ← limits_of limits
  p ← placed_of behind
  _ ← broken_by rule_of (axis_fault s name l p.inc p.start)
  Ok (record s {
    axes = s.axes ++ record {
      name = name;
      limits = l;
      inc = p.inc;
      start = p.start;
      ready = p.ready;
    } ∷ [];
  })

-- `axis NAME LO HI VMAX AMAX INC START` in version 1, where the axis brakes as hard as it speeds
-- up, `axis NAME LO HI VMAX AMAX DMAX INC START` in versions 2 and 3, or the same with `ready`
unfoldable pub axis_meaning : TraceVersion → Setup → List (List ℕ) → Result Setup ℕ
axis_meaning One s (name ∷ lo ∷ hi ∷ vmax ∷ amax ∷ behind) =
    axis_added s name (lo ∷ hi ∷ vmax ∷ amax ∷ amax ∷ []) behind
axis_meaning version s (name ∷ lo ∷ hi ∷ vmax ∷ amax ∷ dmax ∷ behind) =
    axis_added s name (lo ∷ hi ∷ vmax ∷ amax ∷ dmax ∷ []) behind
axis_meaning version s _ = Err wrong_count

-- `group NAME AXIS AXIS ..`
unfoldable pub group_meaning : Setup → List (List ℕ) → Result Setup ℕ
group_meaning s (name ∷ names) = do
  _ ← broken_by rule_of (name_fault s name)
  axes ← each_of (axis_named wrong_name s) names
  _ ← broken_by rule_of (group_fault s name axes)
  Ok (record s { groups = s.groups ++ group_of name axes ∷ [] })
group_meaning s [] = Err wrong_count

-- a word that is no point breaks its rule
unfoldable pub point : List ℕ → Result (ℤ × ℤ) ℕ
point word = ok_or (point_of word) no_value

-- `table X:Y X:Y ..`
unfoldable pub table_meaning : Setup → List (List ℕ) → Result Setup ℕ
table_meaning s words = do
  points ← each_of point words
  table_added item_rules s points

-- `block NAME TASK KIND AXIS-OR-GROUP`; the version has the kind
unfoldable pub block_meaning : TraceVersion → Setup → List (List ℕ) → Result Setup ℕ
block_meaning version s (name ∷ of_task ∷ of_kind ∷ of_object ∷ []) = do
  _ ← broken_by rule_of (name_fault s name)
  task ← task_named s of_task
  kind ← kind_of version of_kind
  object ← object_named s kind of_object
  _ ← broken_by rule_of (block_fault s name task kind object)
  Ok (record s {
    blocks = s.blocks ++ record {
      name = name;
      task = task;
      kind = kind;
      object = object;
    } ∷ [];
  })
block_meaning version s _ = Err wrong_count
