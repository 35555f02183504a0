-- The text of a trace by its parts, as it is written. This project's profile.
use Rattle.std.specs.Prelude.{List, ◌++◌, ℕ}
use Rattle.std.specs.List.{flat_map}
use Rattle.motion_history.specs.Entries.{Entry}
use Rattle.motion_history.specs.Setup.{Setup}
use Rattle.motion_history.specs.declared.refused.TraceVersion.{TraceVersion}
use Rattle.trace_text.specs.declared.command.Command.{Command}
use Rattle.trace_text.specs.declared.drive_end.DriveEndRow.{DriveEndRow}
use Rattle.trace_text.specs.Records.{record_text, header_fields, trace_fields, axis_fields, group_fields, table_fields, task_fields, block_fields}
use Rattle.trace_text.specs.Trace.{drive_records, entry_records, text_of}

-- the text of the items of a machine
unfoldable pub items_text : TraceVersion → Setup → List ℕ
items_text v s =
    flat_map (λ d. record_text (axis_fields v d)) s.axes ++
    flat_map (λ g. record_text (group_fields s g)) s.groups ++
    flat_map (λ t. record_text (table_fields t)) s.tables ++
    flat_map (λ name. record_text (task_fields name)) s.tasks ++
    flat_map (λ d. record_text (block_fields s d)) s.blocks

-- the text of the machine part
unfoldable pub machine_text : TraceVersion → Command → Setup → List ℕ
machine_text v c s =
    record_text header_fields ++ record_text (trace_fields v c s) ++ items_text v s

-- the text of an entry
unfoldable pub entry_text : TraceVersion → Setup → Entry → List ℕ
entry_text v s e = text_of (entry_records v s e)

-- the text of what the drives took
unfoldable pub drives_text : Setup → List DriveEndRow → List ℕ
drives_text s ds = text_of (drive_records s ds)

-- the text of a trace
unfoldable pub all_text : TraceVersion → Command → Setup → List Entry → List DriveEndRow → List ℕ
all_text v c s es ds = machine_text v c s ++ flat_map (entry_text v s) es ++ drives_text s ds
