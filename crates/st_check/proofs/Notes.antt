-- What each note of the table does with the parts that are read.
-- for: crates above
use Rattle.std.proofs.Common.{◌≡◌, ◌≤◌, ℕ, ℤ, zero, suc, pos, ◌+◌, ◌-◌, Bool, true, false, Option, Some, None, List, [], ◌∷◌, ◌++◌, length, length-append, refl, sym, ap, ◌∙◌, arith}
use Rattle.std.specs.Prelude.{not, is_none, is_some, nat_le, nat_lt, if◌then◌else◌}
use Rattle.std.specs.Option.{option_and_then, option_map_or}
use Rattle.plc_types.specs.declared.kind.BlockKind.{BlockKind}
use Rattle.plc_types.specs.declared.kind.BufferMode.{BufferMode}
use Rattle.plc_types.specs.declared.kind.BufferMode.TheVariants as mode
use Rattle.plc_types.specs.KindNames.{mode_named}
use Rattle.plc_types.specs.declared.flag.Flag.{Flag}
use Rattle.machine_words.specs.Names.{axis_at, object_at}
use Rattle.motion_history.specs.Faults.{block_fault, task_fault}
use Rattle.motion_history.specs.Setup.{Setup}
use Rattle.motion_history.specs.declared.config.BlockDef.{BlockDef}
use Rattle.st_grammar.specs.declared.note.Note.{Note}
use Rattle.st_grammar.specs.declared.note.Note.TheVariants as note
use Rattle.st_check.proofs.Rows.{note_leads}
use Rattle.st_check.proofs.Tells.{Quiet, Tells, blocks_behind, broken_false, broken_is, lead_more, lost_false, lost_is, mistyped_is, names_behind, part_told, quiet_on, quiet_told, then_part, told_broken, told_on}
use Rattle.st_check.specs.Checked.{Checked, broken, broken_unless, lost_unless, with_part}
use Rattle.st_check.specs.Declarations as declared
use Rattle.st_check.specs.Expressions as expr
use Rattle.st_check.specs.Keys.{key_of_slot, rank_of, slot_of}
use Rattle.st_check.specs.Names.{is_taken, sort_of}
use Rattle.st_check.specs.Noted.{noted}
use Rattle.st_check.specs.Statements as stmt
use Rattle.st_check.specs.Typed.{is_same, joins, last_of, rest_of, type_by}
use Rattle.st_check.specs.declared.known.Callee.{Callee}
use Rattle.st_check.specs.declared.known.Slot.{Slot}
use Rattle.st_check.specs.declared.known.Sort.{Sort}
use Rattle.st_check.specs.declared.known.Sort.TheVariants as sort
use Rattle.st_check.specs.declared.known.ValueType.{ValueType}
use Rattle.st_check.specs.declared.known.ValueType.TheVariants as type
use Rattle.st_tree.specs.Places.{Branch, Declaring, Inside, Outside, Place, Selected, after, blocks_in, joined, names_in, operand}
use Rattle.st_tree.specs.declared.part.Part.{Part}
use Rattle.st_tree.specs.declared.part.Part.TheVariants as part
use Rattle.st_tree.specs.declared.call.Key.{Key}
use Rattle.st_tree.specs.declared.call.Key.TheVariants as key
use Rattle.st_tree.specs.declared.expression.Operator.{Operator}
use Rattle.st_tree.specs.declared.program.Start.{Start}
use Rattle.st_tree.specs.declared.program.Start.TheVariants as start

-- ---- where a part leads is the same for all its values

pub declared_same : (s t : Start) (p : Place) → after (part.Declared s) p ≡ after (part.Declared t) p
declared_same s t Declaring = refl
declared_same s t _ = refl

pub body_same : (n m : ℕ) (p : Place) → after (part.Body n) p ≡ after (part.Body m) p
body_same n m Declaring = refl
body_same n m _ = refl

execute_same : (n m : ℕ) (p : Place) → after (part.Execute n) p ≡ after (part.Execute m) p
execute_same n m (Inside (suc zero) false a) = refl
execute_same n m _ = refl

pub set_same : (n m : ℕ) (p : Place) → after (part.Set n) p ≡ after (part.Set m) p
set_same n m (Inside (suc zero) false a) = refl
set_same n m _ = refl

given_same : (k l : Key) (p : Place) → after (part.Given k) p ≡ after (part.Given l) p
given_same k l (Inside (suc zero) true a) = refl
given_same k l _ = refl

mode_same : (m n : BufferMode) (p : Place) → after (part.Mode m) p ≡ after (part.Mode n) p
mode_same m n (Inside zero true a) = refl
mode_same m n _ = refl

master_same : (n m : ℕ) (p : Place) → after (part.Master n) p ≡ after (part.Master m) p
master_same n m (Inside zero true a) = refl
master_same n m _ = refl

pub branch_same : (v w : ℤ) (p : Place) → after (part.Branch v) p ≡ after (part.Branch w) p
branch_same v w (Inside zero false (Branch ∷ a)) = refl
branch_same v w (Selected a) = refl
branch_same v w _ = refl

-- what leads the same tells the same
told_same : (l m : Place → Option Place) (c d : Checked) → ((p : Place) → m p ≡ l p) → Tells l c d → Tells m c d
told_same l m c d same t = record {
  fault = t.fault;
  axes = t.axes;
  shaped = λ h from to is s. t.shaped h from to (sym (same from) ∙ is) s;
}

-- what leads less tells less
told_less : (l m : Place → Option Place) (c d : Checked) → ((p q : Place) → m p ≡ Some q → l p ≡ Some q) → Tells l c d → Tells m c d
told_less l m c d less t = record {
  fault = t.fault;
  axes = t.axes;
  shaped = λ h from to is s. t.shaped h from to (less from to is) s;
}

calls_lead : (p q : Place) → note_leads note.Calls p ≡ Some q → Some p ≡ Some q
calls_lead (Inside zero false a) q h = h
calls_lead _ q h = absurd (cc)

-- ---- expressions

pub taken_is : (t : ValueType) (c : Checked) → Quiet c (expr.taken t c)
unfolding expr.taken
taken_is t c =
    quiet_on c (record c { types = rest_of c.types }) _ (record { fault = λ h. h; parts = refl; names = refl; before = refl; setup = refl })
    (mistyped_is (is_same (last_of c.types) t) (record c { types = rest_of c.types }))

operand_told : (t : ValueType) (p : Part) (c d : Checked) → names_in (p ∷ []) ≡ 0 → blocks_in (p ∷ []) ≡ 0 → Quiet c d → Tells (after p) c (expr.operand t p d)
unfolding expr.operand
operand_told t p c d no_name no_block q =
    part_told p c (record d { types = t ∷ d.types; parts = d.parts ++ p ∷ [] }) no_name no_block q.fault (ap (λ ps. ps ++ p ∷ []) q.parts) q.names q.before q.setup

number_told : (line size : ℕ) (c : Checked) → Tells (λ p. operand p) c (expr.number line size c)
unfolding expr.number
number_told line size c =
    operand_told type.Dint (part.Number (declared.signed false size)) c _ refl refl (broken_is (declared.fits size) line 5 c)

truth_told : (b : Bool) (c : Checked) → Tells (λ p. operand p) c (expr.truth b c)
unfolding expr.truth
truth_told b c = operand_told type.Bool (part.Truth b) c c refl refl (record { fault = λ h. h; parts = refl; names = refl; before = refl; setup = refl })

name_is : (line : ℕ) (n : List ℕ) (c : Checked) → Quiet c (expr.name line n c)
unfolding expr.name
name_is line n c =
    let q : Quiet c (lost_unless (is_some (sort_of c n)) line c) = lost_is (is_some (sort_of c n)) line c in
    record { fault = q.fault; parts = q.parts; names = q.names; before = q.before; setup = q.setup }

variable_of_told : (o : Option Sort) (c : Checked) → Tells (λ p. operand p) c (expr.variable_of o c)
variable_of_told (Some (sort.Variable k t)) c = operand_told t (part.Variable k) c c refl refl (record { fault = λ h. h; parts = refl; names = refl; before = refl; setup = refl })
variable_of_told (Some (sort.Block b)) c = operand_told type.Dint (part.Variable 0) c _ refl refl (lost_is false c.name.line c)
variable_of_told None c = operand_told type.Dint (part.Variable 0) c _ refl refl (lost_is false c.name.line c)

flag_of_told : (f : Flag) (o : Option Sort) (c : Checked) → Tells (λ p. operand p) c (expr.flag_of f o c)
flag_of_told f (Some (sort.Block b)) c = operand_told type.Bool (part.Flag b.number f) c c refl refl (record { fault = λ h. h; parts = refl; names = refl; before = refl; setup = refl })
flag_of_told f (Some (sort.Variable k t)) c = operand_told type.Bool (part.Flag 0 f) c _ refl refl (lost_is false c.name.line c)
flag_of_told f None c = operand_told type.Bool (part.Flag 0 f) c _ refl refl (lost_is false c.name.line c)

opens_is : (line : ℕ) (c : Checked) → Quiet c (expr.opens line c)
unfolding expr.opens
opens_is line c =
    quiet_on c _ _ (record { fault = λ h. h; parts = refl; names = refl; before = refl; setup = refl })
    (broken_is (nat_lt c.nested 32) line 6 _)

closes_is : (c : Checked) → Quiet c (expr.closes c)
unfolding expr.closes
closes_is c = record { fault = λ h. h; parts = refl; names = refl; before = refl; setup = refl }

changed_told : (t : ValueType) (p : Part) (c : Checked) → names_in (p ∷ []) ≡ 0 → blocks_in (p ∷ []) ≡ 0 → Tells (after p) c (expr.changed t p c)
unfolding expr.changed
changed_told t p c no_name no_block = operand_told t p c _ no_name no_block (taken_is t c)

joined_told : (op : Operator) (c : Checked) → Tells (λ p. joined p) c (expr.joined op c)
unfolding expr.joined
joined_told op c =
    operand_told (type_by op) (part.Join op) c _ refl refl
    (quiet_on c (record c { types = rest_of (rest_of c.types) }) _ (record { fault = λ h. h; parts = refl; names = refl; before = refl; setup = refl })
    (mistyped_is (joins op (last_of (rest_of c.types)) (last_of c.types)) (record c { types = rest_of (rest_of c.types) })))

-- ---- statements

begins_is : (line : ℕ) (target : Option Sort) (c : Checked) → Quiet c (stmt.begins line target c)
unfolding stmt.begins
begins_is line target c =
    let q : Quiet c (broken_unless (nat_lt c.statements 10000) line 6 c) = broken_is (nat_lt c.statements 10000) line 6 c in
    record { fault = q.fault; parts = q.parts; names = q.names; before = q.before; setup = q.setup }

statement_is : (line : ℕ) (n : List ℕ) (c : Checked) → Quiet c (stmt.statement line n c)
unfolding stmt.statement
statement_is line n c = quiet_on c _ _ (begins_is line (sort_of c n) c) (lost_is (is_some (sort_of c n)) line _)

branches_is : (line : ℕ) (c : Checked) → Quiet c (stmt.branches line c)
unfolding stmt.branches
branches_is line c = quiet_on c _ _ (begins_is line None c) (opens_is line _)

typed_is : (c : Checked) → Quiet c (stmt.typed c)
unfolding stmt.typed
typed_is c = broken_is _ c.statement.line 4 c

pub typed_taken : (t : ValueType) (c : Checked) → Quiet c (stmt.typed (expr.taken t c))
typed_taken t c = quiet_on c _ _ (taken_is t c) (typed_is (expr.taken t c))

sets_is : (c : Checked) → Quiet c (stmt.sets c)
unfolding stmt.sets
sets_is c = lost_is _ c.statement.line c

lost_set : (line : ℕ) (c : Checked) → Tells (λ p. after (part.Set 0) p) c (stmt.typed (expr.taken type.Dint (lost_unless false line c)))
lost_set line c =
    let q : Quiet (lost_unless false line c) (stmt.typed (expr.taken type.Dint (lost_unless false line c))) = typed_taken type.Dint (lost_unless false line c) in
    told_broken _ c _ (λ h. lost_false line c (q.fault h)) (q.setup ∙ (lost_is false line c).setup)

set_to_told : (o : Option Sort) (c : Checked) → Tells (λ p. after (part.Set 0) p) c (stmt.set_to o c)
set_to_told (Some (sort.Variable k t)) c = told_same _ _ c _ (set_same 0 k) (then_part (part.Set k) c _ refl refl (typed_taken t c))
set_to_told (Some (sort.Block b)) c = lost_set c.statement.line c
set_to_told None c = lost_set c.statement.line c

pub calls_is : (c : Checked) → Quiet c (stmt.calls c)
unfolding stmt.calls
calls_is c =
    let q : Quiet c (lost_unless (is_some (stmt.callee_of c.statement.target)) c.statement.line c) = lost_is _ c.statement.line c in
    record { fault = q.fault; parts = q.parts; names = q.names; before = q.before; setup = q.setup }

executed_told : (c : Checked) → Tells (λ p. after (part.Execute 0) p) c (stmt.executed c)
unfolding stmt.executed
executed_told c =
    told_same _ _ c _ (execute_same 0 (stmt.number_of c.call.callee))
    (then_part (part.Execute (stmt.number_of c.call.callee)) c _ refl refl
    (quiet_on c _ _ (lost_is (is_some c.call.callee) c.statement.line c) (taken_is type.Bool _)))

with_slot_is : (line : ℕ) (s : Slot) (c : Checked) → Quiet c (stmt.with_slot line s c)
with_slot_is line s c =
    let q : Quiet c (broken_unless (nat_le c.call.next (rank_of s)) line 5 c) = broken_is _ line 5 c in
    record { fault = q.fault; parts = q.parts; names = q.names; before = q.before; setup = q.setup }

without_slot_is : (line : ℕ) (c : Checked) → Quiet c (stmt.without_slot line c)
without_slot_is line c =
    let q : Quiet c (broken_unless false line 5 c) = broken_is false line 5 c in
    record { fault = q.fault; parts = q.parts; names = q.names; before = q.before; setup = q.setup }

slot_is : (line : ℕ) (o : Option Slot) (c : Checked) → Quiet c (option_map_or (λ s. stmt.with_slot line s c) o (stmt.without_slot line c))
slot_is line (Some s) c = with_slot_is line s c
slot_is line None c = without_slot_is line c

key_of_is : (line : ℕ) (word : List ℕ) (o : Option Callee) (c : Checked) →
    Quiet c (option_map_or (λ b. option_map_or (λ s. stmt.with_slot line s c) (slot_of b word) (stmt.without_slot line c)) o
    (record c { call = record c.call { line = line; slot = None } }))
key_of_is line word (Some b) c = slot_is line (slot_of b word) c
key_of_is line word None c = record { fault = λ h. h; parts = refl; names = refl; before = refl; setup = refl }

key_is : (line : ℕ) (word : List ℕ) (c : Checked) → Quiet c (stmt.key line word c)
unfolding stmt.key
key_is line word c = key_of_is line word c.call.callee c

told_lost : (l : Place → Option Place) (line : ℕ) (c : Checked) → Tells l c (lost_unless false line c)
told_lost l line c = told_broken l c _ (lost_false line c) (lost_is false line c).setup

mode_named_told : (line : ℕ) (o : Option BufferMode) (c : Checked) →
    Tells (λ p. after (part.Mode mode.Aborting) p) c (option_map_or (λ m. with_part (part.Mode m) c) o (lost_unless false line c))
mode_named_told line (Some m) c =
    told_same _ _ c _ (mode_same mode.Aborting m) (then_part (part.Mode m) c c refl refl (record { fault = λ h. h; parts = refl; names = refl; before = refl; setup = refl }))
mode_named_told line None c = told_lost _ line c

mode_by : (b : Bool) (line : ℕ) (o : Option BufferMode) (c : Checked) →
    Tells (λ p. after (part.Mode mode.Aborting) p) c (if b then option_map_or (λ m. with_part (part.Mode m) c) o (lost_unless false line c) else stmt.not_taken c)
mode_by true line o c = mode_named_told line o c
mode_by false line o c = told_broken _ c _ (broken_false c.call.line 5 c) refl

mode_told : (line : ℕ) (word : List ℕ) (c : Checked) → Tells (λ p. after (part.Mode mode.Aborting) p) c (stmt.mode line word c)
unfolding stmt.mode
mode_told line word c = mode_by _ line (mode_named word) c

axis_told : (line : ℕ) (o : Option ℕ) (c : Checked) →
    Tells (λ p. after (part.Master 0) p) c (option_map_or (λ a. with_part (part.Master a) c) o (lost_unless false line c))
axis_told line (Some a) c =
    told_same _ _ c _ (master_same 0 a) (then_part (part.Master a) c c refl refl (record { fault = λ h. h; parts = refl; names = refl; before = refl; setup = refl }))
axis_told line None c = told_lost _ line c

master_by : (b : Bool) (line : ℕ) (o : Option ℕ) (c : Checked) →
    Tells (λ p. after (part.Master 0) p) c (if b then option_map_or (λ a. with_part (part.Master a) c) o (lost_unless false line c) else stmt.not_taken c)
master_by true line o c = axis_told line o c
master_by false line o c = told_broken _ c _ (broken_false c.call.line 5 c) refl

master_told : (line : ℕ) (word : List ℕ) (c : Checked) → Tells (λ p. after (part.Master 0) p) c (stmt.master line word c)
unfolding stmt.master
master_told line word c = master_by _ line (axis_at c.setup word) c

given_key : (o : Option Key) (c : Checked) →
    Tells (λ p. after (part.Given key.Velocity) p) c (option_map_or (λ k. with_part (part.Given k) (expr.taken type.Dint c)) o (stmt.not_taken (expr.taken type.Dint c)))
given_key (Some k) c = told_same _ _ c _ (given_same key.Velocity k) (then_part (part.Given k) c _ refl refl (taken_is type.Dint c))
given_key None c = told_broken _ c _ (broken_false (expr.taken type.Dint c).call.line 5 (expr.taken type.Dint c)) (taken_is type.Dint c).setup

given_to_told : (o : Option Slot) (c : Checked) → Tells (λ p. after (part.Given key.Velocity) p) c (stmt.given_to o c)
given_to_told (Some s) c = given_key (key_of_slot s) c
given_to_told None c = told_broken _ c _ (broken_false c.call.line 5 (record c { types = rest_of c.types })) refl

given_told : (c : Checked) → Tells (λ p. after (part.Given key.Velocity) p) c (stmt.given c)
unfolding stmt.given
given_told c = given_to_told c.call.slot c

call_end_told : (c : Checked) → Tells (λ p. after part.CallEnd p) c (stmt.call_end c)
unfolding stmt.call_end
call_end_told c = then_part part.CallEnd c _ refl refl (typed_is c)

set_end_told : (c : Checked) → Tells (λ p. after (part.Set 0) p) c (stmt.set_end c)
unfolding stmt.set_end
set_end_told c = set_to_told c.statement.target c

then_told : (c : Checked) → Tells (λ p. after part.If p) c (stmt.then_ c)
unfolding stmt.then_
then_told c = then_part part.If c _ refl refl (typed_taken type.Bool c)

of_told : (c : Checked) → Tells (λ p. after part.Case p) c (stmt.of_ c)
unfolding stmt.of_
of_told c = then_part part.Case c _ refl refl (typed_taken type.Dint c)

branch_told : (line : ℕ) (negative : Bool) (size : ℕ) (c : Checked) → Tells (λ p. after (part.Branch (pos 0)) p) c (stmt.branch line negative size c)
unfolding stmt.branch
branch_told line negative size c =
    told_same _ _ c _ (branch_same (pos 0) (declared.signed negative size))
    (then_part (part.Branch (declared.signed negative size)) c _ refl refl (broken_is (declared.fits size) line 5 c))

pub end_if_told : (c : Checked) → Tells (λ p. after part.EndIf p) c (stmt.end_of false c)
unfolding stmt.end_of
end_if_told c = then_part part.EndIf c _ refl refl (closes_is c)

pub end_case_told : (c : Checked) → Tells (λ p. after part.EndCase p) c (stmt.end_of true c)
unfolding stmt.end_of
end_case_told c = then_part part.EndCase c _ refl refl (closes_is c)

else_told : (c : Checked) → Tells (λ p. after part.Else p) c (with_part part.Else c)
else_told c = then_part part.Else c c refl refl (record { fault = λ h. h; parts = refl; names = refl; before = refl; setup = refl })

no_else_told : (is_case : Bool) (line : ℕ) (c : Checked) → Tells (note_leads (note.NoElse is_case)) c (stmt.no_else is_case c)
unfolding stmt.no_else
no_else_told false line c = told_on (λ p. after part.Else p) (λ p. after part.EndIf p) c _ _ (else_told c) (end_if_told _)
no_else_told true line c = told_on (λ p. after part.Else p) (λ p. after part.EndCase p) c _ _ (else_told c) (end_case_told _)

closes_told : (is_case : Bool) (c : Checked) → Tells (note_leads (note.Closes is_case)) c (stmt.end_of is_case c)
closes_told false c = end_if_told c
closes_told true c = end_case_told c

-- ---- tasks and declarations

-- the machine may have an item more
added_told : (faulty taken : Bool) (line : ℕ) (new : Setup) (c : Checked) → new.axes ≡ c.setup.axes → length c.setup.blocks ≤ length new.blocks →
    Tells (λ p. Some p) c (if faulty then c else if taken then record c { setup = new } else broken line 6 c)
added_told true taken line new c axes grows = quiet_told c c (record { fault = λ h. h; parts = refl; names = refl; before = refl; setup = refl })
added_told false true line new c axes grows = record {
  fault = λ h. h;
  axes = axes;
  shaped = λ h from to is s. record { led = s.led ∙ is; named = s.named; few = s.few; before = omega (arith, s.before, grows) };
}
added_told false false line new c axes grows = told_broken _ c _ (broken_false line 6 c) refl

program_told : (line : ℕ) (c : Checked) → Tells (λ p. Some p) c (declared.program line c)
unfolding declared.program
program_told line c =
    let d = record c { known = []; variables = 0; blocks_before = length c.setup.blocks } in
    told_on (λ p. Some p) (λ p. Some p) c d _ (record {
      fault = λ h. h;
      axes = refl;
      shaped = λ h from to is s. record { led = s.led ∙ is; named = s.named; few = omega (arith, s.few, s.before); before = omega arith };
    }) (quiet_told d _ (broken_is _ line 6 d))

machine_with_task_told : (line : ℕ) (name : List ℕ) (c : Checked) → Tells (λ p. Some p) c (declared.machine_with_task line name c)
unfolding declared.machine_with_task
machine_with_task_told line name c =
    added_told (is_some c.fault) (is_none (task_fault c.setup name)) line (record c.setup { tasks = c.setup.tasks ++ name ∷ [] }) c refl (omega arith)

with_name_told : (name : List ℕ) (c : Checked) → Tells (λ p. after part.Task p) c (declared.with_name name c)
with_name_told name c =
    let names : length (c.names ++ name ∷ []) ≡ length c.names + 1 = length-append c.names (name ∷ []) in
    let more : names_in (c.parts ++ part.Task ∷ []) ≡ names_in c.parts + 1 = names_behind c.parts (part.Task ∷ []) in
    let blocks : blocks_in (c.parts ++ part.Task ∷ []) ≡ blocks_in c.parts + 0 = blocks_behind c.parts (part.Task ∷ []) in
    record {
      fault = λ h. h;
      axes = refl;
      shaped = λ h from to is s. record {
        led = lead_more after Outside c.parts part.Task ∙ ap (option_and_then (after part.Task)) s.led ∙ is;
        named = omega (arith, names, more, s.named);
        few = omega (arith, blocks, s.few);
        before = s.before;
      };
    }

pub with_task_told : (line : ℕ) (name : List ℕ) (c : Checked) → Tells (λ p. after part.Task p) c (declared.with_task line name c)
with_task_told line name c =
    told_on (λ p. Some p) (λ p. after part.Task p) c (declared.machine_with_task line name c) _ (machine_with_task_told line name c) (with_name_told name _)

task_name_told : (line : ℕ) (name : List ℕ) (c : Checked) → Tells (λ p. after part.Task p) c (declared.task_name line name c)
unfolding declared.task_name
task_name_told line name c =
    told_on (λ p. Some p) (λ p. after part.Task p) c _ _ (quiet_told c _ (lost_is _ line c)) (with_task_told line name _)

declares_is : (line : ℕ) (name : List ℕ) (c : Checked) → Quiet c (declared.declares line name c)
unfolding declared.declares
declares_is line name c =
    let q : Quiet c (lost_unless (not (is_taken c name)) line c) = lost_is _ line c in
    record { fault = q.fault; parts = q.parts; names = q.names; before = q.before; setup = q.setup }

with_variable_told : (s : Start) (name : List ℕ) (c : Checked) → Tells (λ p. after (part.Declared (start.Bool false)) p) c (declared.with_variable s name c)
with_variable_told s name c =
    let names : length (c.names ++ name ∷ []) ≡ length c.names + 1 = length-append c.names (name ∷ []) in
    let more : names_in (c.parts ++ part.Declared s ∷ []) ≡ names_in c.parts + 1 = names_behind c.parts (part.Declared s ∷ []) in
    let blocks : blocks_in (c.parts ++ part.Declared s ∷ []) ≡ blocks_in c.parts + 0 = blocks_behind c.parts (part.Declared s ∷ []) in
    record {
      fault = λ h. h;
      axes = refl;
      shaped = λ h from to is t. record {
        led = lead_more after Outside c.parts (part.Declared s) ∙ ap (option_and_then (after (part.Declared s))) t.led ∙ declared_same s (start.Bool false) from ∙ is;
        named = omega (arith, names, more, t.named);
        few = omega (arith, blocks, t.few);
        before = t.before;
      };
    }

variable_by : (s : Start) (o : Option (List ℕ)) (line : ℕ) (c : Checked) →
    Tells (λ p. after (part.Declared (start.Bool false)) p) c (option_map_or (λ name. declared.with_variable s name c) o (lost_unless false line c))
variable_by s (Some name) line c = with_variable_told s name c
variable_by s None line c = told_lost _ line c

pub variable_told : (s : Start) (c : Checked) → Tells (λ p. after (part.Declared (start.Bool false)) p) c (declared.variable s c)
unfolding declared.variable
variable_told s c = variable_by s c.declaration.name c.declaration.line c

dint_told : (line : ℕ) (negative : Bool) (size : ℕ) (c : Checked) → Tells (λ p. after (part.Declared (start.Bool false)) p) c (declared.dint line negative size c)
unfolding declared.dint
dint_told line negative size c =
    told_on (λ p. Some p) (λ p. after (part.Declared (start.Bool false)) p) c _ _ (quiet_told c _ (broken_is _ line 5 c)) (variable_told (start.Dint (declared.signed negative size)) _)

block_is : (kind : BlockKind) (c : Checked) → Quiet c (declared.block kind c)
unfolding declared.block
block_is kind c =
    let q : Quiet c (broken_unless (nat_lt (length c.setup.blocks) 256) c.declaration.line 6 c) = broken_is _ c.declaration.line 6 c in
    record { fault = q.fault; parts = q.parts; names = q.names; before = q.before; setup = q.setup }

machine_with_block_told : (line : ℕ) (b : BlockDef) (c : Checked) → Tells (λ p. Some p) c (declared.machine_with_block line b c)
unfolding declared.machine_with_block
machine_with_block_told line b c =
    let one : length (c.setup.blocks ++ b ∷ []) ≡ length c.setup.blocks + 1 = length-append c.setup.blocks (b ∷ []) in
    added_told (is_some c.fault) (is_none (block_fault c.setup b.name b.task b.kind b.object)) line
    (record c.setup { blocks = c.setup.blocks ++ b ∷ [] }) c refl (omega (arith, one))

with_block_told : (line : ℕ) (b : BlockDef) (c : Checked) → Tells (λ p. Some p) c (declared.with_block line b c)
with_block_told line b c =
    told_on (λ p. Some p) (λ p. Some p) c (declared.machine_with_block line b c) _ (machine_with_block_told line b c)
    (quiet_told _ _ (record { fault = λ h. h; parts = refl; names = refl; before = refl; setup = refl }))

acts_by : (o : Option ℕ) (line : ℕ) (name : List ℕ) (kind : BlockKind) (c : Checked) →
    Tells (λ p. Some p) c (option_map_or (λ place. declared.with_block line (declared.block_of c name kind place) c) o (lost_unless false line c))
acts_by (Some place) line name kind c = with_block_told line (declared.block_of c name kind place) c
acts_by None line name kind c = told_lost _ line c

object_of_kind : (o : Option BlockKind) (line : ℕ) (name n : List ℕ) (c : Checked) →
    Tells (λ p. Some p) c (option_map_or (λ kind. declared.acts_on line name n kind c) o c)
object_of_kind (Some kind) line name n c = acts_by (object_at c.setup kind name) line n kind c
object_of_kind None line name n c = quiet_told c c (record { fault = λ h. h; parts = refl; names = refl; before = refl; setup = refl })

object_by : (o : Option (List ℕ)) (line : ℕ) (name : List ℕ) (c : Checked) →
    Tells (λ p. Some p) c (option_map_or (λ n. option_map_or (λ kind. declared.acts_on line name n kind c) c.declaration.kind c) o c)
object_by (Some n) line name c = object_of_kind c.declaration.kind line name n c
object_by None line name c = quiet_told c c (record { fault = λ h. h; parts = refl; names = refl; before = refl; setup = refl })

object_told : (line : ℕ) (name : List ℕ) (c : Checked) → Tells (λ p. Some p) c (declared.object line name c)
unfolding declared.object
object_told line name c = object_by c.declaration.name line name c

body_told : (c : Checked) → Tells (λ p. after (part.Body 0) p) c (declared.body c)
unfolding declared.body
body_told c =
    let n = length c.setup.blocks - c.blocks_before in
    let more : names_in (c.parts ++ part.Body n ∷ []) ≡ names_in c.parts + 0 = names_behind c.parts (part.Body n ∷ []) in
    let blocks : blocks_in (c.parts ++ part.Body n ∷ []) ≡ blocks_in c.parts + (n + 0) = blocks_behind c.parts (part.Body n ∷ []) in
    record {
      fault = λ h. h;
      axes = refl;
      shaped = λ h from to is s. record {
        led = lead_more after Outside c.parts (part.Body n) ∙ ap (option_and_then (after (part.Body n))) s.led ∙ body_same n 0 from ∙ is;
        named = omega (arith, more, s.named);
        few = omega (arith, blocks, s.few, s.before);
        before = omega arith;
      };
    }

pub end_is : (line : ℕ) (c : Checked) → Quiet c (declared.end line c)
unfolding declared.end
end_is line c = broken_is _ line 6 c

-- ---- all notes

pub noted_told : (line : ℕ) (n : Note) (c : Checked) → Tells (note_leads n) c (noted line n c)
unfolding noted expr.variable expr.flag
noted_told line note.Nothing c = quiet_told c c (record { fault = λ h. h; parts = refl; names = refl; before = refl; setup = refl })
noted_told line note.Program c = program_told line c
noted_told line (note.TaskName n) c = task_name_told line n c
noted_told line (note.Declares n) c = quiet_told c _ (declares_is line n c)
noted_told line (note.Bool b) c = variable_told (start.Bool b) c
noted_told line (note.Dint negative size) c = dint_told line negative size c
noted_told line (note.Block kind) c = quiet_told c _ (block_is kind c)
noted_told line (note.Object n) c = object_told line n c
noted_told line note.Body c = body_told c
noted_told line note.EndProgram c = then_part part.TaskEnd c c refl refl (record { fault = λ h. h; parts = refl; names = refl; before = refl; setup = refl })
noted_told line note.End c = quiet_told c _ (end_is line c)
noted_told line (note.Statement n) c = quiet_told c _ (statement_is line n c)
noted_told line note.Sets c = quiet_told c _ (sets_is c)
noted_told line note.Calls c = told_less (λ p. Some p) (note_leads note.Calls) c _ calls_lead (quiet_told c _ (calls_is c))
noted_told line note.Executed c = executed_told c
noted_told line (note.Key n) c = quiet_told c _ (key_is line n c)
noted_told line (note.Mode n) c = mode_told line n c
noted_told line (note.Master n) c = master_told line n c
noted_told line note.Given c = given_told c
noted_told line note.SetEnd c = set_end_told c
noted_told line note.CallEnd c = call_end_told c
noted_told line note.If c = quiet_told c _ (branches_is line c)
noted_told line note.Then c = then_told c
noted_told line note.Case c = quiet_told c _ (branches_is line c)
noted_told line note.Of c = of_told c
noted_told line (note.Branch negative size) c = branch_told line negative size c
noted_told line note.Else c = else_told c
noted_told line (note.NoElse is_case) c = no_else_told is_case line c
noted_told line (note.Closes is_case) c = closes_told is_case c
noted_told line (note.Number size) c = number_told line size c
noted_told line (note.Truth b) c = truth_told b c
noted_told line (note.Name n) c = quiet_told c _ (name_is line n c)
noted_told line note.Variable c = variable_of_told c.name.sort c
noted_told line (note.Flag f) c = flag_of_told f c.name.sort c
noted_told line note.Opens c = quiet_told c _ (opens_is line c)
noted_told line note.ClosesParenthesis c = quiet_told c _ (closes_is c)
noted_told line note.Minus c = changed_told type.Dint part.Negative c refl refl
noted_told line note.Not c = changed_told type.Bool part.Not c refl refl
noted_told line (note.Join op) c = joined_told op c
