-- The text of records, part by part.
-- for: write_trace
use Rattle.std.specs.Prelude.{◌≡◌, refl, ℕ, List, [], ◌∷◌, ◌++◌, map}
use Rattle.std.specs.List.{flat_map}
use Rattle.std.proofs.Common.{◌∙◌, sym, ap, append_assoc}
use Rattle.std.proofs.lemmas.Grind.{flat_map-append}
use Rattle.std.proofs.lemmas.List.{append-nil}
use Rattle.plc_types.specs.declared.axis.AxisRow.{AxisRow}
use Rattle.plc_types.specs.declared.inputs.Inputs.{Inputs}
use Rattle.plc_types.specs.declared.outputs.Outputs.{Outputs}
use Rattle.plc_types.specs.declared.group.GroupRow.{GroupRow}
use Rattle.motion_history.specs.Entries.{Entry, call, cycle, end_of}
use Rattle.motion_history.specs.Setup.{Setup}
use Rattle.motion_history.specs.declared.refused.TraceVersion.{TraceVersion}
use Rattle.trace_text.specs.declared.command.Command.{Command}
use Rattle.trace_text.specs.declared.drive_end.DriveEndRow.{DriveEndRow}
use Rattle.trace_text.specs.writing.Parts.{all_text, items_text, machine_text, entry_text, drives_text}
use Rattle.trace_text.specs.Records.{record_text, header_fields, trace_fields, axis_fields, group_fields, table_fields, task_fields, block_fields, call_fields, cycle_fields, row_fields, grow_fields, end_fields}
use Rattle.trace_text.specs.Trace.{entry_records, drive_records, item_records, machine_records, numbered, text_of, trace_records, trace_text}

pub text_of-append : (xs ys : List (List (List ℕ))) → text_of (xs ++ ys) ≡ text_of xs ++ text_of ys
unfolding text_of
text_of-append xs ys = flat_map-append record_text xs ys

pub text_of-one : (r : List (List ℕ)) → text_of (r ∷ []) ≡ record_text r
unfolding text_of
text_of-one r = append-nil (record_text r)

pub text_of-cons : (r : List (List ℕ)) (rs : List (List (List ℕ))) → text_of (r ∷ rs) ≡ record_text r ++ text_of rs
unfolding text_of
text_of-cons r rs = refl

-- one more record
pub text_of-more : (xs : List (List (List ℕ))) (r : List (List ℕ)) → text_of (xs ++ r ∷ []) ≡ text_of xs ++ record_text r
text_of-more xs r = text_of-append xs (r ∷ []) ∙ ap (λ t. text_of xs ++ t) (text_of-one r)

-- the texts of entries are the text of their records
pub entries-text : (f : Entry → List (List (List ℕ))) (es : List Entry) → flat_map (λ e. text_of (f e)) es ≡ text_of (flat_map f es)
unfolding text_of
entries-text f [] = refl
entries-text f (e ∷ es) = ap (λ t. text_of (f e) ++ t) (entries-text f es) ∙ sym (text_of-append (f e) (flat_map f es))

-- the texts of items are the text of their records
pub items-text : {X : Type 0} (f : X → List (List ℕ)) (xs : List X) → flat_map (λ x. record_text (f x)) xs ≡ text_of (map f xs)
unfolding text_of
items-text f [] = refl
items-text f (x ∷ xs) = ap (λ t. record_text (f x) ++ t) (items-text f xs)

five : (a b c d e : List ℕ) → (((a ++ b) ++ c) ++ d) ++ e ≡ a ++ (b ++ (c ++ (d ++ e)))
five a b c d e = append_assoc ((a ++ b) ++ c) d e ∙ append_assoc (a ++ b) c (d ++ e) ∙ append_assoc a b (c ++ (d ++ e))

-- five texts one after the other
five-texts : (a b c d e : List (List (List ℕ))) →
    (((text_of a ++ text_of b) ++ text_of c) ++ text_of d) ++ text_of e ≡ text_of (a ++ (b ++ (c ++ (d ++ e))))
five-texts a b c d e =
    five (text_of a) (text_of b) (text_of c) (text_of d) (text_of e) ∙
    sym (text_of-append a (b ++ (c ++ (d ++ e))) ∙ ap (λ t. text_of a ++ t) (text_of-append b (c ++ (d ++ e)) ∙
    ap (λ t. text_of b ++ t) (text_of-append c (d ++ e) ∙ ap (λ t. text_of c ++ t) (text_of-append d e))))

-- the items of a machine
pub items-are : (v : TraceVersion) (s : Setup) → items_text v s ≡ text_of (item_records v s)
unfolding items_text item_records
items-are v s =
    rw (items-text (axis_fields v) s.axes, items-text (group_fields s) s.groups, items-text table_fields s.tables, items-text task_fields s.tasks, items-text (block_fields s) s.blocks)
    (five-texts (map (axis_fields v) s.axes) (map (group_fields s) s.groups) (map table_fields s.tables) (map task_fields s.tasks) (map (block_fields s) s.blocks))

-- a record, and a record before others
two-more : (h t : List (List ℕ)) (rs : List (List (List ℕ))) → (record_text h ++ record_text t) ++ text_of rs ≡ text_of (h ∷ t ∷ rs)
two-more h t rs = append_assoc (record_text h) (record_text t) (text_of rs) ∙ sym (text_of-cons h (t ∷ rs) ∙ ap (λ x. record_text h ++ x) (text_of-cons t rs))

-- the machine part
pub machine-text : (v : TraceVersion) (c : Command) (s : Setup) → machine_text v c s ≡ text_of (machine_records v c s)
unfolding machine_text machine_records
machine-text v c s =
    ap (λ t. (record_text header_fields ++ record_text (trace_fields v c s)) ++ t) (items-are v s) ∙
    two-more header_fields (trace_fields v c s) (item_records v s)

-- the entries
pub entry_call : (v : TraceVersion) (s : Setup) (k : ℕ) (i : Inputs) (o : Outputs) → record_text (call_fields v s k i o) ≡ entry_text v s (call k i o)
unfolding entry_text entry_records
entry_call v s k i o = sym (text_of-one (call_fields v s k i o))

pub entry_cycle : (v : TraceVersion) (s : Setup) (n : ℕ) (rows : List AxisRow) (groups : List GroupRow) →
    record_text (cycle_fields n) ++ text_of (numbered (row_fields v s) 0 rows) ++ text_of (numbered (grow_fields s) 0 groups) ≡ entry_text v s (cycle n rows groups)
unfolding entry_text entry_records
entry_cycle v s n rows groups =
    let r = numbered (row_fields v s) 0 rows in
    let g = numbered (grow_fields s) 0 groups in
    append_assoc (record_text (cycle_fields n)) (text_of r) (text_of g) ∙ sym (text_of-cons (cycle_fields n) (r ++ g) ∙ ap (λ t. record_text (cycle_fields n) ++ t) (text_of-append r g))

pub entry_end : (v : TraceVersion) (s : Setup) (task : ℕ) → record_text (end_fields s task) ≡ entry_text v s (end_of task)
unfolding entry_text entry_records
entry_end v s task = sym (text_of-one (end_fields s task))

-- three texts one after the other
three-texts : (a b c : List (List (List ℕ))) → (text_of a ++ text_of b) ++ text_of c ≡ text_of (a ++ (b ++ c))
three-texts a b c = sym (rw (text_of-append a (b ++ c), text_of-append b c) (sym (append_assoc (text_of a) (text_of b) (text_of c))))

-- the parts one after the other
pub trace_parts : (v : TraceVersion) (c : Command) (s : Setup) (es : List Entry) (ds : List DriveEndRow) →
    trace_text v c s es ds ≡ all_text v c s es ds
unfolding all_text trace_text trace_records entry_text drives_text
trace_parts v c s es ds =
    sym (rw (machine-text v c s, entries-text (entry_records v s) es) (three-texts (machine_records v c s) (flat_map (entry_records v s) es) (drive_records s ds)))
