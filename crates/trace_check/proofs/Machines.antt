-- The records of the machine part, and names.
-- for: replay_from
use Rattle.std.proofs.Common.{◌≡◌, ℕ, ◌+◌, Some, length, refl, arith}
use Rattle.std.specs.Prelude.{slice_get}
use Rattle.std.proofs.lemmas.List.{length-append, length-map}
use Rattle.plc_types.specs.declared.axis.AxisDef.{AxisDef}
use Rattle.motion_history.specs.Setup.{Setup}
use Rattle.motion_history.specs.declared.refused.TraceVersion.{TraceVersion}
use Rattle.trace_text.specs.Records.{axis_name}
use Rattle.trace_text.specs.Trace.{item_records, machine_records}
use Rattle.trace_text.specs.declared.command.Command.{Command}

items-long : (v : TraceVersion) (s : Setup) → length (item_records v s) ≡ length s.axes + length s.groups + length s.tables + length s.tasks + length s.blocks
unfolding item_records
items-long v s =
    simp (length-append, length-map) (omega arith)

-- how many records the machine part has
pub machine-long : (v : TraceVersion) (c : Command) (s : Setup) → length (machine_records v c s) ≡ 2 + length s.axes + length s.groups + length s.tables + length s.tasks + length s.blocks
unfolding machine_records
machine-long v c s = let e = items-long v s in omega (arith, e)

-- the name of an axis that is there
pub name-there : (s : Setup) (n : ℕ) (d : AxisDef) → slice_get s.axes n ≡ Some d → axis_name s n ≡ d.name
unfolding axis_name
name-there s n d at = rw at refl
