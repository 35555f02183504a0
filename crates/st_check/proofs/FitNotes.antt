-- What each note of the table does with the calls that are read.
-- for: crates above
use Rattle.std.proofs.Common.{◌≡◌, ℕ, zero, suc, pos, ◌+◌, ◌-◌, Bool, true, false, Option, Some, None, List, [], ◌∷◌, ◌++◌, length, length-append, refl, sym, subst, ap, ◌∙◌, arith}
use Rattle.std.specs.Prelude.{is_some, nat_lt, nat_le, max, slice_get, if◌then◌else◌}
use Rattle.std.specs.List.{AllByRecursion}
use Rattle.std.specs.Option.{option_and_then, option_map_or}
use Rattle.std.proofs.lemmas.Bool.{lt-ltb}
use Rattle.plc_types.specs.declared.kind.BlockKind.{BlockKind}
use Rattle.plc_types.specs.declared.kind.BufferMode.{BufferMode}
use Rattle.plc_types.specs.declared.kind.BufferMode.TheVariants as mode
use Rattle.plc_types.specs.Inputs.{is_same}
use Rattle.plc_types.specs.KindNames.{mode_named}
use Rattle.plc_types.specs.declared.flag.Flag.{Flag}
use Rattle.plc_types.specs.declared.inputs.Input.TheVariants as input
use Rattle.machine_words.proofs.Names.{axis-within}
use Rattle.machine_words.specs.Names.{axis_at, object_at}
use Rattle.motion_history.specs.Faults.{block_fault, task_fault}
use Rattle.motion_history.specs.Setup.{Setup}
use Rattle.motion_history.specs.declared.config.BlockDef.{BlockDef}
use Rattle.st_grammar.specs.declared.note.Note.{Note}
use Rattle.st_grammar.specs.declared.note.Note.TheVariants as note
use Rattle.st_check.proofs.Fitting.{CalledBy, Fits, Fitting, IsCallee, IsCalled, IsSlot, IsSort, IsTarget, Said, added_is, all_more, block_grows, broken_calm, broken_fits, call_fits, called_grows, calm, execute_goes, fits_on, given_goes, is_call, is_keys, known_grow, last_there, lost_calm, master_goes, mistyped_calm, mode_goes, one_grows, part_fits, said, sort_known, target_grows, task_grows}
use Rattle.st_check.proofs.Grows.{lead_grows}
use Rattle.st_check.specs.Going.{Going, begun, going_after}
use Rattle.st_check.proofs.Notes.{body_same, branch_same, declared_same, end_case_told, end_if_told, set_same, taken_is, typed_taken, variable_told, with_task_told}
use Rattle.st_check.proofs.Rows.{note_leads}
use Rattle.st_check.proofs.Slots.{Takes, key_fits, master_fits, mode_fits, slot_takes}
use Rattle.st_check.proofs.Tells.{broken_false, lead_more, lost_false}
use Rattle.st_check.specs.Checked.{Checked, broken_unless, lost_unless, with_part}
use Rattle.st_check.specs.Declarations as declared
use Rattle.st_check.specs.Expressions as expr
use Rattle.st_check.specs.Keys.{key_of_slot, rank_of, slot_of}
use Rattle.st_check.specs.Names.{sort_among, sort_of}
use Rattle.st_check.specs.Noted.{noted}
use Rattle.st_check.specs.Statements as stmt
use Rattle.st_check.specs.Typed.{is_same as is_same_type, joins, last_of, rest_of, type_by}
use Rattle.st_check.specs.declared.known.Callee.{Callee}
use Rattle.st_check.specs.declared.known.Known.{Known}
use Rattle.st_check.specs.declared.known.Slot.{Slot}
use Rattle.st_check.specs.declared.known.Sort.{Sort}
use Rattle.st_check.specs.declared.known.Sort.TheVariants as sort
use Rattle.st_check.specs.declared.known.ValueType.{ValueType}
use Rattle.st_check.specs.declared.known.ValueType.TheVariants as type
use Rattle.st_tree.specs.Places.{Inside, Place, after, joined, operand}
use Rattle.st_tree.specs.declared.part.Part.{Part}
use Rattle.st_tree.specs.declared.part.Part.TheVariants as part
use Rattle.st_tree.specs.declared.call.Key.{Key}
use Rattle.st_tree.specs.declared.call.Key.TheVariants as key
use Rattle.st_tree.specs.declared.expression.Operator.{Operator}
use Rattle.st_tree.specs.declared.program.Start.{Start}
use Rattle.st_tree.specs.declared.program.Start.TheVariants as start

-- what leads the same fits the same
fits_same : (l m : Place → Option Place) (c d : Checked) → ((p q : Place) → m p ≡ Some q → l p ≡ Some q) → Fits l c d → Fits m c d
fits_same l m c d same f = record { go = λ h from to is g. f.go h from to (same from to is) g }

-- ---- expressions

taken_calm : (t : ValueType) (c : Checked) → said (expr.taken t c) ≡ said c
unfolding expr.taken
taken_calm t c = mistyped_calm (is_same_type (last_of c.types) t) (record c { types = rest_of c.types })

more_said : (p : Part) (c d : Checked) → said d ≡ said c → record (said d) { parts = d.parts ++ p ∷ [] } ≡ record (said c) { parts = c.parts ++ p ∷ [] }
more_said p c d is = ap (λ (v : Said). record v { parts = v.parts ++ p ∷ [] }) is

operand_fits : (t : ValueType) (p : Part) (c d : Checked) → is_call p ≡ false → said d ≡ said c → Fits (λ q. after p q) c (expr.operand t p d)
unfolding expr.operand
operand_fits t p c d plain is = part_fits p c (record d { types = t ∷ d.types; parts = d.parts ++ p ∷ [] }) plain (more_said p c d is)

number_fits : (line size : ℕ) (c : Checked) → Fits (λ p. operand p) c (expr.number line size c)
unfolding expr.number
number_fits line size c = operand_fits type.Dint (part.Number (declared.signed false size)) c _ refl (broken_calm (declared.fits size) line 5 c)

truth_fits : (b : Bool) (c : Checked) → Fits (λ p. operand p) c (expr.truth b c)
unfolding expr.truth
truth_fits b c = operand_fits type.Bool (part.Truth b) c c refl refl

name_calm : (line : ℕ) (n : List ℕ) (c : Checked) → said (expr.name line n c) ≡ said c
unfolding expr.name
name_calm line n c = lost_calm (is_some (sort_of c n)) line c

variable_of_fits : (o : Option Sort) (c : Checked) → Fits (λ p. operand p) c (expr.variable_of o c)
variable_of_fits (Some (sort.Variable k t)) c = operand_fits t (part.Variable k) c c refl refl
variable_of_fits (Some (sort.Block b)) c = operand_fits type.Dint (part.Variable 0) c _ refl (lost_calm false c.name.line c)
variable_of_fits None c = operand_fits type.Dint (part.Variable 0) c _ refl (lost_calm false c.name.line c)

flag_of_fits : (f : Flag) (o : Option Sort) (c : Checked) → Fits (λ p. operand p) c (expr.flag_of f o c)
flag_of_fits f (Some (sort.Block b)) c = operand_fits type.Bool (part.Flag b.number f) c c refl refl
flag_of_fits f (Some (sort.Variable k t)) c = operand_fits type.Bool (part.Flag 0 f) c _ refl (lost_calm false c.name.line c)
flag_of_fits f None c = operand_fits type.Bool (part.Flag 0 f) c _ refl (lost_calm false c.name.line c)

opens_calm : (line : ℕ) (c : Checked) → said (expr.opens line c) ≡ said c
unfolding expr.opens
opens_calm line c = broken_calm (nat_lt c.nested 32) line 6 _

changed_fits : (t : ValueType) (p : Part) (c : Checked) → is_call p ≡ false → Fits (λ q. after p q) c (expr.changed t p c)
unfolding expr.changed
changed_fits t p c plain = operand_fits t p c _ plain (taken_calm t c)

joined_fits : (op : Operator) (c : Checked) → Fits (λ p. joined p) c (expr.joined op c)
unfolding expr.joined
joined_fits op c =
    operand_fits (type_by op) (part.Join op) c _ refl
    (mistyped_calm (joins op (last_of (rest_of c.types)) (last_of c.types)) (record c { types = rest_of (rest_of c.types) }))

-- ---- statements

typed_calm : (c : Checked) → said (stmt.typed c) ≡ said c
unfolding stmt.typed
typed_calm c = broken_calm _ c.statement.line 4 c

typed_taken_calm : (t : ValueType) (c : Checked) → said (stmt.typed (expr.taken t c)) ≡ said c
typed_taken_calm t c = typed_calm (expr.taken t c) ∙ taken_calm t c

begins_said : (line : ℕ) (target : Option Sort) (c : Checked) → said (stmt.begins line target c) ≡ record (said c) { target = target }
unfolding stmt.begins
begins_said line target c = ap (λ (v : Said). record v { target = target }) (broken_calm (nat_lt c.statements 10000) line 6 c)

target_fits : (c d : Checked) (target : Option Sort) → said d ≡ record (said c) { target = target } → (Setup → AllByRecursion (λ (k : Known). IsSort c.setup k.sort) c.known → IsTarget c.setup target) →
    Fits (λ p. Some p) c d
target_fits c d target is sound = record {
  go = λ h from to at f.
      let same : from ≡ to = cc in
      subst (λ p. Fitting p (said d)) same (subst (Fitting from) (sym is) (record {
        known = f.known;
        target = sound c.setup f.known;
        callee = f.callee;
        slot = f.slot;
        going = f.going;
        led = f.led;
        tasks = f.tasks;
        called = f.called;
      }));
}

statement_fits : (line : ℕ) (n : List ℕ) (c : Checked) → Fits (λ p. Some p) c (stmt.statement line n c)
unfolding stmt.statement sort_of
statement_fits line n c =
    target_fits c _ (sort_among c.known n) (lost_calm (is_some (sort_of c n)) line _ ∙ begins_said line (sort_of c n) c) (λ s all. sort_known c.setup c.known n all)

branches_fits : (line : ℕ) (c : Checked) → Fits (λ p. Some p) c (stmt.branches line c)
unfolding stmt.branches
branches_fits line c = target_fits c _ None (opens_calm line _ ∙ begins_said line None c) (λ s all. tt)

sets_calm : (c : Checked) → said (stmt.sets c) ≡ said c
unfolding stmt.sets
sets_calm c = lost_calm _ c.statement.line c

lost_set_broken : (line : ℕ) (c : Checked) → (stmt.typed (expr.taken type.Dint (lost_unless false line c))).fault ≡ None → ⊥
lost_set_broken line c h = lost_false line c ((typed_taken type.Dint (lost_unless false line c)).fault h)

set_to_fits : (o : Option Sort) (c : Checked) → Fits (λ p. after (part.Set 0) p) c (stmt.set_to o c)
set_to_fits (Some (sort.Variable k t)) c =
    fits_same (λ p. after (part.Set k) p) _ c _ (λ p q is. set_same k 0 p ∙ is) (part_fits (part.Set k) c _ refl (more_said (part.Set k) c (stmt.typed (expr.taken t c)) (typed_taken_calm t c)))
set_to_fits (Some (sort.Block b)) c = broken_fits _ c _ (lost_set_broken c.statement.line c)
set_to_fits None c = broken_fits _ c _ (lost_set_broken c.statement.line c)

callee_sound : (s : Setup) (o : Option Sort) → IsTarget s o → IsCalled s (stmt.callee_of o)
callee_sound s (Some (sort.Block b)) i = i
callee_sound s (Some (sort.Variable k t)) i = tt
callee_sound s None i = tt

not_keys : (p : Place) → note_leads note.Calls p ≡ Some p → is_keys p ≡ true → ⊥
not_keys (Inside zero false a) h k = cc
not_keys _ h k = cc

calls_said : (c : Checked) → said (stmt.calls c) ≡ record (said c) { callee = stmt.callee_of c.statement.target; slot = None }
unfolding stmt.calls
calls_said c =
    ap (λ (v : Said). record v { callee = stmt.callee_of c.statement.target; slot = None })
    (lost_calm (is_some (stmt.callee_of c.statement.target)) c.statement.line c)

calls_leads : (p q : Place) → note_leads note.Calls p ≡ Some q → p ≡ q
calls_leads (Inside zero false a) q h = cc
calls_leads _ q h = absurd (cc)

calls_fits : (c : Checked) → Fits (note_leads note.Calls) c (stmt.calls c)
calls_fits c = record {
  go = λ h from to at f.
      let same : from ≡ to = calls_leads from to at in
      let is : note_leads note.Calls from ≡ Some from = at ∙ ap Some (sym same) in
      subst (λ p. Fitting p (said (stmt.calls c))) same (subst (Fitting from) (sym (calls_said c)) (record {
        known = f.known;
        target = f.target;
        callee = callee_sound c.setup c.statement.target f.target;
        slot = tt;
        going = f.going;
        led = f.led;
        tasks = f.tasks;
        called = λ k. absurd (not_keys from is k);
      }));
}

-- ---- what a call gives

key_said : (line : ℕ) (s : Option Slot) (b : Bool) (next : ℕ) (c : Checked) →
    said (record (broken_unless b line 5 c) { call = record c.call { line = line; next = next; slot = s } }) ≡ record (said c) { slot = s }
key_said line s b next c = ap (λ (v : Said). record v { callee = c.call.callee; slot = s }) (broken_calm b line 5 c)

slot_fits : (c d : Checked) (s : Option Slot) → said d ≡ record (said c) { slot = s } → IsSlot c.call.callee s → Fits (λ p. Some p) c d
slot_fits c d s is sound = record {
  go = λ h from to at f.
      let same : from ≡ to = cc in
      subst (λ p. Fitting p (said d)) same (subst (Fitting from) (sym is) (record {
        known = f.known;
        target = f.target;
        callee = f.callee;
        slot = sound;
        going = f.going;
        led = f.led;
        tasks = f.tasks;
        called = f.called;
      }));
}

is_slot : (o : Option Callee) (b : Callee) (s : Slot) → o ≡ Some b → Takes b s → IsSlot o (Some s)
is_slot None b s at t = absurd (cc)
is_slot (Some d) b s at t = let same : b ≡ d = cc in subst (λ e. Takes e s) same t

no_slot : (o : Option Callee) → IsSlot o None
no_slot None = tt
no_slot (Some b) = tt

slot_by_fits : (line : ℕ) (b : Callee) (word : List ℕ) (o : Option Slot) (c : Checked) → c.call.callee ≡ Some b → slot_of b word ≡ o →
    Fits (λ p. Some p) c (option_map_or (λ s. stmt.with_slot line s c) o (stmt.without_slot line c))
slot_by_fits line b word (Some s) c at is =
    slot_fits c _ (Some s) (key_said line (Some s) (nat_le c.call.next (rank_of s)) (max c.call.next (suc (rank_of s))) c) (is_slot c.call.callee b s at (slot_takes b word s is))
slot_by_fits line b word None c at is = slot_fits c _ None (key_said line None false c.call.next c) (no_slot c.call.callee)

key_by_fits : (line : ℕ) (word : List ℕ) (o : Option Callee) (c : Checked) → c.call.callee ≡ o →
    Fits (λ p. Some p) c (option_map_or (λ b. option_map_or (λ s. stmt.with_slot line s c) (slot_of b word) (stmt.without_slot line c)) o
    (record c { call = record c.call { line = line; slot = None } }))
key_by_fits line word (Some b) c at = slot_by_fits line b word (slot_of b word) c at refl
key_by_fits line word None c at = slot_fits c _ None refl (no_slot c.call.callee)

key_note_fits : (line : ℕ) (word : List ℕ) (c : Checked) → Fits (λ p. Some p) c (stmt.key line word c)
unfolding stmt.key
key_note_fits line word c = key_by_fits line word c.call.callee c refl

-- what a slot says of the block that is called
record Called (s : Setup) (o : Option Callee) (x : Slot) (g : Going) : Type 0 where
  callee : Callee
  sound : IsCallee s callee
  takes : Takes callee x
  block : g.block ≡ slice_get s.blocks callee.number

called_by : (s : Setup) (o : Option Callee) (x : Slot) (g : Going) → IsCalled s o → IsSlot o (Some x) → CalledBy s o g → Called s o x g
called_by s None x g sound slot by = absurd slot
called_by s (Some b) x g sound slot by = record { callee = b; sound = sound; takes = slot; block = by }

called_at : (c : Checked) (x : Slot) (from : Place) → c.call.slot ≡ Some x → is_keys from ≡ true → (f : Fitting from (said c)) → Called c.setup c.call.callee x f.going
called_at c x from at keys f = called_by c.setup c.call.callee x f.going f.callee (subst (IsSlot c.call.callee) at f.slot) (f.called keys)

-- a part of a call that fits
gives_fits : (p : Part) (c d : Checked) (l : Place → Option Place) → said d ≡ record (said c) { parts = c.parts ++ p ∷ [] } →
    ((from : Place) (f : Fitting from (said c)) → is_keys from ≡ true → going_after c.setup p f.going ≡ Some f.going) →
    ((from to : Place) → l from ≡ Some to → is_keys from ≡ true) → Fits l c d
gives_fits p c d l is goes keys = record {
  go = λ h from to at f.
      let k : is_keys from ≡ true = keys from to at in
      subst (Fitting to) (sym is) (record {
        known = f.known;
        target = f.target;
        callee = f.callee;
        slot = f.slot;
        going = f.going;
        led = call_fits p c d f.going (said c) to (goes from f k) f.led;
        tasks = f.tasks;
        called = λ j. f.called k;
      });
}

given_keys : (from to : Place) → after (part.Given key.Velocity) from ≡ Some to → is_keys from ≡ true
given_keys (Inside (suc zero) true a) to h = refl
given_keys _ to h = absurd (cc)

mode_keys : (from to : Place) → after (part.Mode mode.Aborting) from ≡ Some to → is_keys from ≡ true
mode_keys (Inside zero true a) to h = refl
mode_keys _ to h = absurd (cc)

master_keys : (from to : Place) → after (part.Master 0) from ≡ Some to → is_keys from ≡ true
master_keys (Inside zero true a) to h = refl
master_keys _ to h = absurd (cc)

given_key_fits : (o : Option Key) (s : Slot) (c : Checked) → c.call.slot ≡ Some s → key_of_slot s ≡ o →
    Fits (λ p. after (part.Given key.Velocity) p) c (option_map_or (λ k. with_part (part.Given k) (expr.taken type.Dint c)) o (stmt.not_taken (expr.taken type.Dint c)))
given_key_fits (Some k) s c at is =
    gives_fits (part.Given k) c _ _ (more_said (part.Given k) c (expr.taken type.Dint c) (taken_calm type.Dint c))
    (λ from f keys.
    let b = called_at c s from at keys f in
    given_goes c.setup b.callee f.going k b.sound b.block (key_fits b.callee s k is b.takes))
    given_keys
given_key_fits None s c at is = broken_fits _ c _ (broken_false _ 5 (expr.taken type.Dint c))

given_to_fits : (o : Option Slot) (c : Checked) → c.call.slot ≡ o → Fits (λ p. after (part.Given key.Velocity) p) c (stmt.given_to o c)
given_to_fits (Some s) c at = given_key_fits (key_of_slot s) s c at refl
given_to_fits None c at = broken_fits _ c _ (broken_false c.call.line 5 (record c { types = rest_of c.types }))

given_fits : (c : Checked) → Fits (λ p. after (part.Given key.Velocity) p) c (stmt.given c)
unfolding stmt.given
given_fits c = given_to_fits c.call.slot c refl

mode_word_fits : (line : ℕ) (w : Option BufferMode) (s : Slot) (c : Checked) → c.call.slot ≡ Some s → is_same s.input input.Mode ≡ true →
    Fits (λ p. after (part.Mode mode.Aborting) p) c (option_map_or (λ m. with_part (part.Mode m) c) w (lost_unless false line c))
mode_word_fits line (Some m) s c at is =
    gives_fits (part.Mode m) c _ _ refl
    (λ from f keys. let b = called_at c s from at keys f in mode_goes c.setup b.callee f.going m b.sound b.block (mode_fits b.callee s is b.takes))
    mode_keys
mode_word_fits line None s c at is = broken_fits _ c _ (lost_false line c)

mode_by_fits : (b : Bool) (line : ℕ) (w : Option BufferMode) (o : Option Slot) (c : Checked) → c.call.slot ≡ o → stmt.gives input.Mode o ≡ b →
    Fits (λ p. after (part.Mode mode.Aborting) p) c (if b then option_map_or (λ m. with_part (part.Mode m) c) w (lost_unless false line c) else stmt.not_taken c)
mode_by_fits true line w (Some s) c at is = mode_word_fits line w s c at is
mode_by_fits true line w None c at is = absurd (cc)
mode_by_fits false line w o c at is = broken_fits _ c _ (broken_false c.call.line 5 c)

mode_note_fits : (line : ℕ) (word : List ℕ) (c : Checked) → Fits (λ p. after (part.Mode mode.Aborting) p) c (stmt.mode line word c)
unfolding stmt.mode
mode_note_fits line word c = mode_by_fits (stmt.gives input.Mode c.call.slot) line (mode_named word) c.call.slot c refl refl

master_word_fits : (line : ℕ) (word : List ℕ) (w : Option ℕ) (s : Slot) (c : Checked) → c.call.slot ≡ Some s → is_same s.input input.Master ≡ true → axis_at c.setup word ≡ w →
    Fits (λ p. after (part.Master 0) p) c (option_map_or (λ a. with_part (part.Master a) c) w (lost_unless false line c))
master_word_fits line word (Some a) s c at is axis =
    gives_fits (part.Master a) c _ _ refl
    (λ from f keys.
    let b = called_at c s from at keys f in
    master_goes c.setup b.callee f.going a b.sound b.block (master_fits b.callee s is b.takes) (lt-ltb _ _ (axis-within c.setup word a axis)))
    master_keys
master_word_fits line word None s c at is axis = broken_fits _ c _ (lost_false line c)

master_by_fits : (b : Bool) (line : ℕ) (word : List ℕ) (w : Option ℕ) (o : Option Slot) (c : Checked) → c.call.slot ≡ o → stmt.gives input.Master o ≡ b → axis_at c.setup word ≡ w →
    Fits (λ p. after (part.Master 0) p) c (if b then option_map_or (λ a. with_part (part.Master a) c) w (lost_unless false line c) else stmt.not_taken c)
master_by_fits true line word w (Some s) c at is axis = master_word_fits line word w s c at is axis
master_by_fits true line word w None c at is axis = absurd (cc)
master_by_fits false line word w o c at is axis = broken_fits _ c _ (broken_false c.call.line 5 c)

master_note_fits : (line : ℕ) (word : List ℕ) (c : Checked) → Fits (λ p. after (part.Master 0) p) c (stmt.master line word c)
unfolding stmt.master
master_note_fits line word c = master_by_fits (stmt.gives input.Master c.call.slot) line word (axis_at c.setup word) c.call.slot c refl refl refl

-- ---- a block is called

executed_said : (o : Option Callee) (c : Checked) →
    said (with_part (part.Execute (stmt.number_of o)) (expr.taken type.Bool (lost_unless (is_some o) c.statement.line c))) ≡ record (said c) { parts = c.parts ++ part.Execute (stmt.number_of o) ∷ [] }
executed_said o c = more_said (part.Execute (stmt.number_of o)) c (expr.taken type.Bool (lost_unless (is_some o) c.statement.line c)) (taken_calm type.Bool _ ∙ lost_calm (is_some o) c.statement.line c)

executed_by : (o : Option Callee) (c : Checked) → c.call.callee ≡ o →
    Fits (λ p. after (part.Execute 0) p) c (with_part (part.Execute (stmt.number_of o)) (expr.taken type.Bool (lost_unless (is_some o) c.statement.line c)))
executed_by None c at =
    broken_fits _ c _ (λ h. lost_false c.statement.line c ((taken_is type.Bool (lost_unless false c.statement.line c)).fault h))
executed_by (Some b) c at = record {
  go = λ h from to is f.
      let sound : IsCallee c.setup b = subst (IsCalled c.setup) at f.callee in
      subst (Fitting to) (sym (executed_said (Some b) c)) (record {
        known = f.known;
        target = f.target;
        callee = f.callee;
        slot = f.slot;
        going = record { tasks = f.going.tasks; block = slice_get c.setup.blocks b.number };
        led = lead_more (going_after c.setup) begun c.parts (part.Execute b.number) ∙ ap (option_and_then (going_after c.setup (part.Execute b.number))) f.led ∙
            execute_goes c.setup b f.going sound f.tasks;
        tasks = f.tasks;
        called = λ k. subst (λ o. CalledBy c.setup o (record { tasks = f.going.tasks; block = slice_get c.setup.blocks b.number })) (sym at) refl;
      });
}

executed_fits : (c : Checked) → Fits (λ p. after (part.Execute 0) p) c (stmt.executed c)
unfolding stmt.executed
executed_fits c = executed_by c.call.callee c refl

call_end_fits : (c : Checked) → Fits (λ p. after part.CallEnd p) c (stmt.call_end c)
unfolding stmt.call_end
call_end_fits c = part_fits part.CallEnd c _ refl (more_said part.CallEnd c (stmt.typed c) (typed_calm c))

set_end_fits : (c : Checked) → Fits (λ p. after (part.Set 0) p) c (stmt.set_end c)
unfolding stmt.set_end
set_end_fits c = set_to_fits c.statement.target c

then_fits : (c : Checked) → Fits (λ p. after part.If p) c (stmt.then_ c)
unfolding stmt.then_
then_fits c = part_fits part.If c _ refl (more_said part.If c (stmt.typed (expr.taken type.Bool c)) (typed_taken_calm type.Bool c))

of_fits : (c : Checked) → Fits (λ p. after part.Case p) c (stmt.of_ c)
unfolding stmt.of_
of_fits c = part_fits part.Case c _ refl (more_said part.Case c (stmt.typed (expr.taken type.Dint c)) (typed_taken_calm type.Dint c))

branch_fits : (line : ℕ) (negative : Bool) (size : ℕ) (c : Checked) → Fits (λ p. after (part.Branch (pos 0)) p) c (stmt.branch line negative size c)
unfolding stmt.branch
branch_fits line negative size c =
    fits_same (λ p. after (part.Branch (declared.signed negative size)) p) _ c _ (λ p q is. branch_same (declared.signed negative size) (pos 0) p ∙ is)
    (part_fits (part.Branch (declared.signed negative size)) c _ refl (more_said (part.Branch (declared.signed negative size)) c (broken_unless (declared.fits size) line 5 c) (broken_calm (declared.fits size) line 5 c)))

closes_calm : (c : Checked) → said (expr.closes c) ≡ said c
unfolding expr.closes
closes_calm c = refl

end_if_fits : (c : Checked) → Fits (λ p. after part.EndIf p) c (stmt.end_of false c)
unfolding stmt.end_of
end_if_fits c = part_fits part.EndIf c _ refl (more_said part.EndIf c (expr.closes c) (closes_calm c))

end_case_fits : (c : Checked) → Fits (λ p. after part.EndCase p) c (stmt.end_of true c)
unfolding stmt.end_of
end_case_fits c = part_fits part.EndCase c _ refl (more_said part.EndCase c (expr.closes c) (closes_calm c))

else_fits : (c : Checked) → Fits (λ p. after part.Else p) c (with_part part.Else c)
else_fits c = part_fits part.Else c _ refl refl

no_else_fits : (is_case : Bool) (c : Checked) → Fits (note_leads (note.NoElse is_case)) c (stmt.no_else is_case c)
unfolding stmt.no_else
no_else_fits false c = fits_on (λ p. after part.Else p) (λ p. after part.EndIf p) c (with_part part.Else c) _ (end_if_told (with_part part.Else c)).fault (else_fits c) (end_if_fits (with_part part.Else c))
no_else_fits true c = fits_on (λ p. after part.Else p) (λ p. after part.EndCase p) c (with_part part.Else c) _ (end_case_told (with_part part.Else c)).fault (else_fits c) (end_case_fits (with_part part.Else c))

closes_fits : (is_case : Bool) (c : Checked) → Fits (note_leads (note.Closes is_case)) c (stmt.end_of is_case c)
closes_fits false c = end_if_fits c
closes_fits true c = end_case_fits c

-- ---- tasks and declarations

known_fits : (c d : Checked) (known : List Known) → said d ≡ record (said c) { known = known } →
    (AllByRecursion (λ (k : Known). IsSort c.setup k.sort) c.known → AllByRecursion (λ (k : Known). IsSort c.setup k.sort) known) → Fits (λ p. Some p) c d
known_fits c d known is sound = record {
  go = λ h from to at f.
      let same : from ≡ to = cc in
      subst (λ p. Fitting p (said d)) same (subst (Fitting from) (sym is) (record {
        known = sound f.known;
        target = f.target;
        callee = f.callee;
        slot = f.slot;
        going = f.going;
        led = f.led;
        tasks = f.tasks;
        called = f.called;
      }));
}

program_fits : (line : ℕ) (c : Checked) → Fits (λ p. Some p) c (declared.program line c)
unfolding declared.program
program_fits line c = known_fits c _ [] (broken_calm _ line 6 _) (λ all. tt)

task_after : (line : ℕ) (name : List ℕ) (c : Checked) → (declared.machine_with_task line name c).fault ≡ None →
    declared.machine_with_task line name c ≡ record c { setup = record c.setup { tasks = c.setup.tasks ++ name ∷ [] } }
unfolding declared.machine_with_task
task_after line name c h = added_is c.fault (task_fault c.setup name) line _ c refl h

with_task_fits : (line : ℕ) (name : List ℕ) (c : Checked) → Fits (λ p. after part.Task p) c (declared.with_task line name c)
with_task_fits line name c = record {
  go = λ h from to at f.
      let s : Setup = record c.setup { tasks = c.setup.tasks ++ name ∷ [] } in
      let is : declared.machine_with_task line name c ≡ record c { setup = s } = task_after line name c h in
      let more : length (c.setup.tasks ++ name ∷ []) ≡ length c.setup.tasks + 1 = length-append c.setup.tasks (name ∷ []) in
      subst (λ d. Fitting to (said (declared.with_name name d))) (sym is) (record {
        known = tt;
        target = tt;
        callee = tt;
        slot = tt;
        going = record { tasks = suc f.going.tasks; block = f.going.block };
        led = lead_more (going_after s) begun c.parts part.Task ∙ ap (option_and_then (going_after s part.Task)) (lead_grows c.setup s (task_grows c.setup name) c.parts begun f.going f.led);
        tasks = omega (arith, more, f.tasks);
        called = λ k. tt;
      });
}

task_name_fits : (line : ℕ) (name : List ℕ) (c : Checked) → Fits (λ p. after part.Task p) c (declared.task_name line name c)
unfolding declared.task_name
task_name_fits line name c =
    fits_on (λ p. Some p) (λ p. after part.Task p) c _ _ (with_task_told line name _).fault (calm c _ (lost_calm _ line c)) (with_task_fits line name _)

declares_calm : (line : ℕ) (name : List ℕ) (c : Checked) → said (declared.declares line name c) ≡ said c
unfolding declared.declares
declares_calm line name c = lost_calm _ line c

with_known : Start → List ℕ → Checked → Checked
with_known s name c = record c { known = c.known ++ record { name = name; sort = sort.Variable c.variables (declared.type_of s) } ∷ [] }

with_variable_fits : (s : Start) (name : List ℕ) (c : Checked) → Fits (λ p. after (part.Declared (start.Bool false)) p) c (declared.with_variable s name c)
unfolding with_known
with_variable_fits s name c =
    fits_same (λ p. after (part.Declared s) p) _ c _ (λ p q is. declared_same s (start.Bool false) p ∙ is)
    (fits_on (λ p. Some p) (λ p. after (part.Declared s) p) c (with_known s name c) (declared.with_variable s name c) (λ h. h)
    (known_fits c (with_known s name c) _ refl (λ all. all_more c.setup c.known _ all tt))
    (part_fits (part.Declared s) (with_known s name c) (declared.with_variable s name c) refl refl))

variable_by_fits : (s : Start) (o : Option (List ℕ)) (line : ℕ) (c : Checked) →
    Fits (λ p. after (part.Declared (start.Bool false)) p) c (option_map_or (λ name. declared.with_variable s name c) o (lost_unless false line c))
variable_by_fits s (Some name) line c = with_variable_fits s name c
variable_by_fits s None line c = broken_fits _ c _ (lost_false line c)

variable_fits : (s : Start) (c : Checked) → Fits (λ p. after (part.Declared (start.Bool false)) p) c (declared.variable s c)
unfolding declared.variable
variable_fits s c = variable_by_fits s c.declaration.name c.declaration.line c

dint_fits : (line : ℕ) (negative : Bool) (size : ℕ) (c : Checked) → Fits (λ p. after (part.Declared (start.Bool false)) p) c (declared.dint line negative size c)
unfolding declared.dint
dint_fits line negative size c =
    fits_on (λ p. Some p) (λ p. after (part.Declared (start.Bool false)) p) c _ _ (variable_told (start.Dint (declared.signed negative size)) _).fault
    (calm c _ (broken_calm _ line 5 c)) (variable_fits (start.Dint (declared.signed negative size)) _)

block_calm : (kind : BlockKind) (c : Checked) → said (declared.block kind c) ≡ said c
unfolding declared.block
block_calm kind c = broken_calm _ c.declaration.line 6 c

block_after : (line : ℕ) (b : BlockDef) (c : Checked) → (declared.machine_with_block line b c).fault ≡ None →
    declared.machine_with_block line b c ≡ record c { setup = record c.setup { blocks = c.setup.blocks ++ b ∷ [] } }
unfolding declared.machine_with_block
block_after line b c h = added_is c.fault (block_fault c.setup b.name b.task b.kind b.object) line _ c refl h

with_block_fits : (line : ℕ) (b : BlockDef) (c : Checked) → b.task ≡ length c.setup.tasks - 1 → Fits (λ p. Some p) c (declared.with_block line b c)
with_block_fits line b c own = record {
  go = λ h from to at f.
      let same : from ≡ to = cc in
      let s : Setup = record c.setup { blocks = c.setup.blocks ++ b ∷ [] } in
      let grows = one_grows c.setup b in
      let is : declared.machine_with_block line b c ≡ record c { setup = s } = block_after line b c h in
      subst (λ d. Fitting to (said (declared.with_callee b (declared.callee_of c b) d))) (sym is) (record {
        known = all_more s c.known (record { name = b.name; sort = declared.callee_of c b }) (known_grow c.setup s c.known grows refl f.known)
            (record { block = b; there = last_there c.setup.blocks b; own = own; kind = refl; axes = refl });
        target = target_grows c.setup s c.statement.target grows refl f.target;
        callee = called_grows c.setup s c.call.callee grows refl f.callee;
        slot = f.slot;
        going = f.going;
        led = lead_grows c.setup s grows c.parts begun f.going f.led;
        tasks = f.tasks;
        called = λ k. block_grows c.setup s c.call.callee f.going grows f.callee (f.called (subst (λ p. is_keys p ≡ true) (sym same) k));
      });
}

acts_by_fits : (o : Option ℕ) (line : ℕ) (name : List ℕ) (kind : BlockKind) (c : Checked) →
    Fits (λ p. Some p) c (option_map_or (λ place. declared.with_block line (declared.block_of c name kind place) c) o (lost_unless false line c))
acts_by_fits (Some place) line name kind c = with_block_fits line (declared.block_of c name kind place) c refl
acts_by_fits None line name kind c = broken_fits _ c _ (lost_false line c)

object_of_kind_fits : (o : Option BlockKind) (line : ℕ) (name n : List ℕ) (c : Checked) →
    Fits (λ p. Some p) c (option_map_or (λ kind. declared.acts_on line name n kind c) o c)
object_of_kind_fits (Some kind) line name n c = acts_by_fits (object_at c.setup kind name) line n kind c
object_of_kind_fits None line name n c = calm c c refl

object_by_fits : (o : Option (List ℕ)) (line : ℕ) (name : List ℕ) (c : Checked) →
    Fits (λ p. Some p) c (option_map_or (λ n. option_map_or (λ kind. declared.acts_on line name n kind c) c.declaration.kind c) o c)
object_by_fits (Some n) line name c = object_of_kind_fits c.declaration.kind line name n c
object_by_fits None line name c = calm c c refl

object_fits : (line : ℕ) (name : List ℕ) (c : Checked) → Fits (λ p. Some p) c (declared.object line name c)
unfolding declared.object
object_fits line name c = object_by_fits c.declaration.name line name c

body_fits : (c : Checked) → Fits (λ p. after (part.Body 0) p) c (declared.body c)
unfolding declared.body
body_fits c =
    let n = length c.setup.blocks - c.blocks_before in
    fits_same (λ p. after (part.Body n) p) _ c _ (λ p q is. body_same n 0 p ∙ is) (part_fits (part.Body n) c _ refl refl)

end_calm : (line : ℕ) (c : Checked) → said (declared.end line c) ≡ said c
unfolding declared.end
end_calm line c = broken_calm _ line 6 c

-- ---- all notes

pub noted_fits : (line : ℕ) (n : Note) (c : Checked) → Fits (note_leads n) c (noted line n c)
unfolding noted expr.variable expr.flag
noted_fits line note.Nothing c = calm c c refl
noted_fits line note.Program c = program_fits line c
noted_fits line (note.TaskName n) c = task_name_fits line n c
noted_fits line (note.Declares n) c = calm c _ (declares_calm line n c)
noted_fits line (note.Bool b) c = variable_fits (start.Bool b) c
noted_fits line (note.Dint negative size) c = dint_fits line negative size c
noted_fits line (note.Block kind) c = calm c _ (block_calm kind c)
noted_fits line (note.Object n) c = object_fits line n c
noted_fits line note.Body c = body_fits c
noted_fits line note.EndProgram c = part_fits part.TaskEnd c _ refl refl
noted_fits line note.End c = calm c _ (end_calm line c)
noted_fits line (note.Statement n) c = statement_fits line n c
noted_fits line note.Sets c = calm c _ (sets_calm c)
noted_fits line note.Calls c = calls_fits c
noted_fits line note.Executed c = executed_fits c
noted_fits line (note.Key n) c = key_note_fits line n c
noted_fits line (note.Mode n) c = mode_note_fits line n c
noted_fits line (note.Master n) c = master_note_fits line n c
noted_fits line note.Given c = given_fits c
noted_fits line note.SetEnd c = set_end_fits c
noted_fits line note.CallEnd c = call_end_fits c
noted_fits line note.If c = branches_fits line c
noted_fits line note.Then c = then_fits c
noted_fits line note.Case c = branches_fits line c
noted_fits line note.Of c = of_fits c
noted_fits line (note.Branch negative size) c = branch_fits line negative size c
noted_fits line note.Else c = else_fits c
noted_fits line (note.NoElse is_case) c = no_else_fits is_case c
noted_fits line (note.Closes is_case) c = closes_fits is_case c
noted_fits line (note.Number size) c = number_fits line size c
noted_fits line (note.Truth b) c = truth_fits b c
noted_fits line (note.Name n) c = calm c _ (name_calm line n c)
noted_fits line note.Variable c = variable_of_fits c.name.sort c
noted_fits line (note.Flag f) c = flag_of_fits f c.name.sort c
noted_fits line note.Opens c = calm c _ (opens_calm line c)
noted_fits line note.ClosesParenthesis c = calm c _ (closes_calm c)
noted_fits line note.Minus c = changed_fits type.Dint part.Negative c refl
noted_fits line note.Not c = changed_fits type.Bool part.Not c refl
noted_fits line (note.Join op) c = joined_fits op c
