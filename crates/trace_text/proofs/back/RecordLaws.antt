-- The records of a text that was written.
-- for: traces_are_read_back, records_are_read_back
use Rattle.std.specs.Prelude.{◌≡◌, refl, ℕ, ◌≤◌, ◌==◌, false, Option, Some, None, List, [], ◌∷◌, ◌++◌, length, map}
use Rattle.std.specs.List.{AllByRecursion, flat_map}
use Rattle.std.proofs.Common.{◌∙◌, ap, arith}
use Rattle.std.proofs.lemmas.List.Elements.{All-from_recursion}
use Rattle.csv.specs.Reading.{strip_bom}
use Rattle.csv.specs.Writing.{default_writer, row_text}
use Rattle.trace_columns.specs.Records as csv
use Rattle.trace_columns.specs.Records.{RecordsAreReadBack, records_of}
use Rattle.plc_types.specs.declared.inputs.Inputs.{Inputs}
use Rattle.plc_types.specs.declared.outputs.Outputs.{Outputs}
use Rattle.motion_history.specs.Entries.{Entry, call, cycle, end_of}
use Rattle.motion_history.specs.Setup.{Setup}
use Rattle.motion_history.specs.declared.config.BlockDef.{BlockDef}
use Rattle.motion_history.specs.declared.refused.TraceVersion.{TraceVersion}
use Rattle.trace_text.specs.writing.Parts.{entry_text}
use Rattle.trace_text.specs.ReadBack.{EntriesAreReadBack}
use Rattle.trace_text.specs.declared.command.Command.{Command}
use Rattle.trace_text.specs.declared.drive_end.DriveEndRow.{DriveEndRow}
use Rattle.trace_text.specs.Records.{call_fields_of, header_fields, padded, record_text}
use Rattle.trace_text.specs.Trace.{entry_records, text_of, trace_records, trace_text, machine_records}

padded-some : (fields : List (List ℕ)) → 1 ≤ length (padded fields)
padded-some [] = omega arith
padded-some (x ∷ xs) = omega arith

all-some : (rs : List (List (List ℕ))) → AllByRecursion (λ r. 1 ≤ length r) (map padded rs)
all-some [] = tt
all-some (r ∷ rs) = (padded-some r, all-some rs)

-- the text is that of the padded records
texts-padded : (rs : List (List (List ℕ))) → flat_map record_text rs ≡ flat_map (row_text default_writer) (map padded rs)
unfolding record_text
texts-padded [] = refl
texts-padded (r ∷ rs) = ap (λ t. record_text r ++ t) (texts-padded rs)

text-padded : (rs : List (List (List ℕ))) → text_of rs ≡ csv.text_of (map padded rs)
unfolding text_of csv.text_of
text-padded rs = texts-padded rs

-- records of which the text has no byte order mark are those of their text
plain-records : RecordsAreReadBack → (rs : List (List (List ℕ))) → strip_bom (csv.text_of (map padded rs)) ≡ csv.text_of (map padded rs) → records_of (text_of rs) ≡ map padded rs
plain-records law rs plain = ap records_of (text-padded rs) ∙ law (map padded rs) (All-from_recursion (λ r. 1 ≤ length r) (map padded rs) (all-some rs)) plain

-- a text that begins with another byte than a byte order mark has none
no-mark : (b : ℕ) (text : List ℕ) → (b == 239) ≡ false → strip_bom (b ∷ text) ≡ b ∷ text
unfolding strip_bom
no-mark b [] h = refl
no-mark b (c ∷ []) h = refl
no-mark b (c ∷ d ∷ text) h = rw h refl

header-plain : (rs : List (List (List ℕ))) → strip_bom (csv.text_of (map padded (header_fields ∷ rs))) ≡ csv.text_of (map padded (header_fields ∷ rs))
unfolding csv.text_of
header-plain rs = no-mark 107 _ refl

-- a text that begins with the header
header-written : RecordsAreReadBack → (rs : List (List (List ℕ))) → records_of (text_of (header_fields ∷ rs)) ≡ map padded (header_fields ∷ rs)
header-written law rs = plain-records law (header_fields ∷ rs) (header-plain rs)

call-plain : (v : TraceVersion) (s : Setup) (b : Option BlockDef) (i : Inputs) (o : Outputs) →
    strip_bom (csv.text_of (map padded (call_fields_of v s b i o ∷ []))) ≡ csv.text_of (map padded (call_fields_of v s b i o ∷ []))
unfolding csv.text_of call_fields_of
call-plain v s None i o = no-mark 99 _ refl
call-plain v s (Some b) i o = no-mark 99 _ refl

entry-plain : (v : TraceVersion) (s : Setup) (e : Entry) → strip_bom (csv.text_of (map padded (entry_records v s e))) ≡ csv.text_of (map padded (entry_records v s e))
unfolding csv.text_of entry_records
entry-plain v s (call k i o) = call-plain v s _ i o
entry-plain v s (cycle n rows grows) = no-mark 99 _ refl
entry-plain v s (end_of task) = no-mark 101 _ refl

-- the records of a trace's text are those that were written
pub trace-written : RecordsAreReadBack → (v : TraceVersion) (c : Command) (s : Setup) (es : List Entry) (ds : List DriveEndRow) →
    records_of (trace_text v c s es ds) ≡ map padded (trace_records v c s es ds)
unfolding trace_text trace_records machine_records
trace-written law v c s es ds = header-written law _

-- so are the records of an entry's text
pub entry-written : RecordsAreReadBack → EntriesAreReadBack
unfolding entry_text
entry-written law v s e = plain-records law (entry_records v s e) (entry-plain v s e)
