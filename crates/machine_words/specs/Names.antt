-- What the names in a text name. This project's profile.
use Rattle.std.specs.Prelude.{ℕ, if◌then◌else◌, Option, Result, List}
use Rattle.std.specs.List.{position}
use Rattle.std.specs.Option.{ok_or}
use Rattle.std.specs.Str.{bytes_eq}
use Rattle.plc_types.specs.declared.axis.AxisDef.{AxisDef}
use Rattle.plc_types.specs.Kinds.{acts_on_group}
use Rattle.plc_types.specs.declared.kind.BlockKind.{BlockKind}
use Rattle.plc_types.specs.KindNames.{kind_in}
use Rattle.motion_history.specs.Setup.{Setup}
use Rattle.motion_history.specs.Versions.{number_of}
use Rattle.motion_history.specs.declared.refused.TraceVersion.{TraceVersion}
use Rattle.motion_history.specs.declared.config.BlockDef.{BlockDef}
use Rattle.motion_history.specs.declared.config.GroupDef.{GroupDef}
use Rattle.machine_words.specs.RuleNumbers.{wrong_name}

-- the number of the axis of this name
unfoldable pub axis_at : Setup → List ℕ → Option ℕ
axis_at s name = position (λ (d : AxisDef). bytes_eq d.name name) s.axes

-- the number of the group of this name
unfoldable pub group_at : Setup → List ℕ → Option ℕ
group_at s name = position (λ (d : GroupDef). bytes_eq d.name name) s.groups

-- the number of the task of this name
unfoldable pub task_at : Setup → List ℕ → Option ℕ
task_at s name = position (λ (n : List ℕ). bytes_eq n name) s.tasks

-- the number of the block of this name
unfoldable pub block_at : Setup → List ℕ → Option ℕ
block_at s name = position (λ (d : BlockDef). bytes_eq d.name name) s.blocks

-- the number of the axis or group of this name, by what the kind acts on
abbrev pub object_at : Setup → BlockKind → List ℕ → Option ℕ
object_at s kind name = if acts_on_group kind then group_at s name else axis_at s name

-- the axis of this name; a name that is none's breaks the rule
abbrev pub axis_named : ℕ → Setup → List ℕ → Result ℕ ℕ
axis_named rule s name = ok_or (axis_at s name) rule

-- the axis or group of this name in a bench or a program
abbrev pub object_named : Setup → BlockKind → List ℕ → Result ℕ ℕ
object_named s kind name = ok_or (object_at s kind name) wrong_name

-- the kind of this name in a bench or a program that has the kinds of a version
abbrev pub kind_of : TraceVersion → List ℕ → Result BlockKind ℕ
kind_of version name = ok_or (kind_in (number_of version) name) wrong_name
