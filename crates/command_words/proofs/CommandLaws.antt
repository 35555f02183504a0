-- The commands find in plain words what the grammar does.
-- for: asked
use Rattle.std.proofs.Common.{◌≡◌, ◌∙◌, ap₂, inl, inr, subst, is_some, ℕ, Bool, true, false, refl, sym, ap, List, [], ◌∷◌, Option, Some, None, codes, true≢false}
use Rattle.std.specs.Str.{bytes_eq}
use Rattle.std.specs.Prelude.{◌==◌, not}
use Rattle.clap.specs.Lexer.{long_of, short_of}
use Rattle.std.specs.List.{fold}
use Rattle.clap.specs.Faults.{check_fault, defaults_fault, entered_fault, fault_of, is_simple_and_free, settle_fault, turn_fault, walk_fault}
use Rattle.clap.specs.Simple.{App, built, entered, is_simple, names_of, subcommand_of}
use Rattle.clap.specs.Walk.{Row, Text, Walk, finished, nothing_held, settled, walk, walk_from, walked}
use Rattle.clap.specs.Kinds.{Kinds, or_else}
use Rattle.clap.proofs.FaultLemmas.{stopped_fault}
use Rattle.clap.proofs.OnLiterals.{clap_on_literals}
use Rattle.clap.proofs.WalkLemmas.{walk_stopped}
use Rattle.std.proofs.lemmas.Bool.{and_parts, cases_Bool}
use Rattle.std.proofs.lemmas.Slice.Eq.{bytes_eq-Decides}
use Rattle.std.specs.List.{list_all}
use Rattle.command_words.specs.Commands.{motion, request_found, request_in}
use Rattle.command_words.specs.Requests.{Asked, asked_by, is_plain}

-- the parse is exact
pub motion_is_free : is_simple_and_free motion ≡ true
motion_is_free = refl

pub motion_is_simple : is_simple motion ≡ true
motion_is_simple = refl

-- the words are plain
abbrev pub ArePlain : List Text → Type 0
ArePlain words = list_all is_plain words ≡ true

-- what a parse asks of a word that is no option
record IsOperand (word : Text) : Type 0 where
  dashes : bytes_eq word (45 ∷ 45 ∷ []) ≡ false
  long : long_of word ≡ None
  short : short_of word ≡ None

plain_first : (c : ℕ) (cs : Text) → (c == 45) ≡ false → IsOperand (c ∷ cs)
plain_first c cs e = record { dashes = rw e refl; long = rw e refl; short = rw e refl }

-- a plain word is no option
plain_operand : (word : Text) → is_plain word ≡ true → IsOperand word
unfolding is_plain
plain_operand [] e = absurd (true≢false (sym e))
plain_operand (c ∷ cs) e = plain_first c cs (go (c == 45) e)
  where
    go : (b : Bool) → not b ≡ true → b ≡ false
    go true n = absurd (true≢false (sym n))
    go false n = refl

-- the program as a parse builds it
abbrev program : App
program = built motion

-- where a walk over the words begins
abbrev start : Walk
start = walk_from nothing_held

-- the walk has met a command, with the words after it
abbrev met_at : Text → List Text → Walk
met_at word words = record start { stopped = Some (word, words) }

-- a walk goes on over one word
abbrev walk_on : Walk → Text → Walk
walk_on = walked program.top.rules (names_of program)

-- the fault of a walk over all the words, by its own and by where it ended
abbrev fault_at : Kinds → Walk → Kinds
fault_at walking end = or_else walking
    (or_else (entered_fault program end.stopped)
    (or_else (settle_fault program.top.rules program.top.args_override_self end.held)
    (or_else (defaults_fault (settled program.top.rules end.held).rows program.top.rules)
    (check_fault program.top (finished program.top.rules end.held)
    (is_some (entered program end.stopped))))))

-- a first word that names a command, and what follows
module _ (word : Text) (words : List Text)
    (passes : turn_fault program.top (names_of program) start word ≡ [])
    (meets : ◌≡◌ {A = Walk} (walk_on start word) (met_at word []))
  where
    -- the walk ends there
    ends : ◌≡◌ {A = Walk} (met_at word words)
        (walk program.top.rules (names_of program) nothing_held (word ∷ words))
    ends = walk_stopped program.top.rules (names_of program) start word [] words
        ∙ ap (λ (w : Walk). fold walk_on w words) (sym meets)

    -- the walk itself passes
    passes_all : walk_fault program.top (names_of program) start (word ∷ words) ≡ []
    unfolding walk_fault
    passes_all = ap₂ or_else passes
        (ap (λ (w : Walk). walk_fault program.top (names_of program) w words) meets
        ∙ stopped_fault program.top (names_of program) start (word, []) words)

    -- only the command can fail
    enters : fault_of motion (word ∷ words) ≡ fault_at [] (met_at word words)
    enters = ap₂ fault_at passes_all (sym ends)

    -- the command has the words after it
    finds : subcommand_of motion (word ∷ words) ≡ entered program (Some (word, words))
    finds = ap (λ (w : Walk). entered program w.stopped) (sym ends)

-- what the words ask for, by the fault of their parse and by what it found
abbrev pub found_by : Kinds → Option (Text × List Row) → Option Asked
found_by [] found = request_found found
found_by (k ∷ ks) found = None

-- the words are read as the grammar says
abbrev pub IsRead : List Text → Type 0
IsRead words = asked_by words ≡ found_by (fault_of motion words) (subcommand_of motion words)

-- the words after a command's name are read as the grammar says
abbrev IsReadBehind : Text → List Text → Type 0
IsReadBehind name words = asked_by (name ∷ words)
    ≡ found_by (fault_at [] (met_at name words)) (entered program (Some (name, words)))

read_behind : (word : Text) (words : List Text)
    → turn_fault program.top (names_of program) start word ≡ []
    → ◌≡◌ {A = Walk} (walk_on start word) (met_at word [])
    → IsReadBehind word words → IsRead (word ∷ words)
read_behind word words passes meets behind =
    behind ∙ sym (ap₂ found_by (enters word words passes meets) (finds word words passes meets))

-- the first of plain words is no option, and those after it are plain
first_operand : (word : Text) (words : List Text) → ArePlain (word ∷ words) → IsOperand word
first_operand word words e = plain_operand word (and_parts _ _ e).0

others_plain : (word : Text) (words : List Text) → ArePlain (word ∷ words) → ArePlain words
others_plain word words e = (and_parts _ _ e).1

-- the words after `bench`
bench_rest : (words : List Text) → ArePlain words → IsReadBehind (codes "bench") words
unfolding clap_on_literals asked_by request_in
bench_rest [] e = refl
bench_rest (a ∷ []) e =
    let h = first_operand a [] e in
    rw (h.dashes, h.long, h.short) refl
bench_rest (a ∷ b ∷ more) e =
    let h = first_operand a (b ∷ more) e in
    let k = first_operand b more (others_plain a (b ∷ more) e) in
    rw (h.dashes, h.long, h.short, k.dashes, k.long, k.short) refl

bench_line : (words : List Text) → ArePlain words → IsRead (codes "bench" ∷ words)
unfolding clap_on_literals
bench_line words e = read_behind (codes "bench") words refl refl (bench_rest words e)

-- the words after `run`
run_rest : (words : List Text) → ArePlain words → IsReadBehind (codes "run") words
unfolding clap_on_literals asked_by request_in
run_rest [] e = refl
run_rest (a ∷ []) e =
    let h = first_operand a [] e in
    rw (h.dashes, h.long, h.short) refl
run_rest (a ∷ b ∷ []) e =
    let h = first_operand a (b ∷ []) e in
    let k = first_operand b [] (others_plain a (b ∷ []) e) in
    rw (h.dashes, h.long, h.short, k.dashes, k.long, k.short) refl
run_rest (a ∷ b ∷ c ∷ more) e =
    let h = first_operand a (b ∷ c ∷ more) e in
    let two = others_plain a (b ∷ c ∷ more) e in
    let k = first_operand b (c ∷ more) two in
    let m = first_operand c more (others_plain b (c ∷ more) two) in
    rw (h.dashes, h.long, h.short, k.dashes, k.long, k.short, m.dashes, m.long, m.short) refl

run_line : (words : List Text) → ArePlain words → IsRead (codes "run" ∷ words)
unfolding clap_on_literals
run_line words e = read_behind (codes "run") words refl refl (run_rest words e)

-- the words after `check`
check_rest : (words : List Text) → ArePlain words → IsReadBehind (codes "check") words
unfolding clap_on_literals asked_by request_in
check_rest [] e = refl
check_rest (a ∷ []) e =
    let h = first_operand a [] e in
    rw (h.dashes, h.long, h.short) refl
check_rest (a ∷ b ∷ more) e =
    let h = first_operand a (b ∷ more) e in
    let k = first_operand b more (others_plain a (b ∷ more) e) in
    rw (h.dashes, h.long, h.short, k.dashes, k.long, k.short) refl

check_line : (words : List Text) → ArePlain words → IsRead (codes "check" ∷ words)
unfolding clap_on_literals
check_line words e = read_behind (codes "check") words refl refl (check_rest words e)

-- the words after `gen`
gen_rest : (words : List Text) → ArePlain words → IsReadBehind (codes "gen") words
unfolding clap_on_literals asked_by request_in
gen_rest [] e = refl
gen_rest (a ∷ []) e =
    let h = first_operand a [] e in
    rw (h.dashes, h.long, h.short) refl
gen_rest (a ∷ b ∷ more) e =
    let h = first_operand a (b ∷ more) e in
    let k = first_operand b more (others_plain a (b ∷ more) e) in
    rw (h.dashes, h.long, h.short, k.dashes, k.long, k.short) refl

gen_line : (words : List Text) → ArePlain words → IsRead (codes "gen" ∷ words)
unfolding clap_on_literals
gen_line words e = read_behind (codes "gen") words refl refl (gen_rest words e)

-- the words after `migrate`
migrate_rest : (words : List Text) → ArePlain words → IsReadBehind (codes "migrate") words
unfolding clap_on_literals asked_by request_in
migrate_rest [] e = refl
migrate_rest (a ∷ []) e =
    let h = first_operand a [] e in
    rw (h.dashes, h.long, h.short) refl
migrate_rest (a ∷ b ∷ more) e =
    let h = first_operand a (b ∷ more) e in
    let k = first_operand b more (others_plain a (b ∷ more) e) in
    rw (h.dashes, h.long, h.short, k.dashes, k.long, k.short) refl

migrate_line : (words : List Text) → ArePlain words → IsRead (codes "migrate" ∷ words)
unfolding clap_on_literals
migrate_line words e = read_behind (codes "migrate") words refl refl (migrate_rest words e)

-- the words after `st`
st_rest : (words : List Text) → ArePlain words → IsReadBehind (codes "st") words
unfolding clap_on_literals asked_by request_in
st_rest [] e = refl
st_rest (a ∷ []) e =
    let h = first_operand a [] e in
    rw (h.dashes, h.long, h.short) refl
st_rest (a ∷ b ∷ []) e =
    let h = first_operand a (b ∷ []) e in
    let k = first_operand b [] (others_plain a (b ∷ []) e) in
    rw (h.dashes, h.long, h.short, k.dashes, k.long, k.short) refl
st_rest (a ∷ b ∷ c ∷ more) e =
    let h = first_operand a (b ∷ c ∷ more) e in
    let two = others_plain a (b ∷ c ∷ more) e in
    let k = first_operand b (c ∷ more) two in
    let m = first_operand c more (others_plain b (c ∷ more) two) in
    rw (h.dashes, h.long, h.short, k.dashes, k.long, k.short, m.dashes, m.long, m.short) refl

st_line : (words : List Text) → ArePlain words → IsRead (codes "st" ∷ words)
unfolding clap_on_literals
st_line words e = read_behind (codes "st") words refl refl (st_rest words e)

-- the words after `switches`
switches_rest : (words : List Text) → ArePlain words → IsReadBehind (codes "switches") words
unfolding clap_on_literals asked_by request_in
switches_rest [] e = refl
switches_rest (a ∷ []) e =
    let h = first_operand a [] e in
    rw (h.dashes, h.long, h.short) refl
switches_rest (a ∷ b ∷ []) e =
    let h = first_operand a (b ∷ []) e in
    let k = first_operand b [] (others_plain a (b ∷ []) e) in
    rw (h.dashes, h.long, h.short, k.dashes, k.long, k.short) refl
switches_rest (a ∷ b ∷ c ∷ more) e =
    let h = first_operand a (b ∷ c ∷ more) e in
    let two = others_plain a (b ∷ c ∷ more) e in
    let k = first_operand b (c ∷ more) two in
    let m = first_operand c more (others_plain b (c ∷ more) two) in
    rw (h.dashes, h.long, h.short, k.dashes, k.long, k.short, m.dashes, m.long, m.short) refl

switches_line : (words : List Text) → ArePlain words → IsRead (codes "switches" ∷ words)
unfolding clap_on_literals
switches_line words e = read_behind (codes "switches") words refl refl (switches_rest words e)

-- the words after `standby`
standby_rest : (words : List Text) → ArePlain words → IsReadBehind (codes "standby") words
unfolding clap_on_literals asked_by request_in
standby_rest [] e = refl
standby_rest (a ∷ []) e =
    let h = first_operand a [] e in
    rw (h.dashes, h.long, h.short) refl
standby_rest (a ∷ b ∷ []) e =
    let h = first_operand a (b ∷ []) e in
    let k = first_operand b [] (others_plain a (b ∷ []) e) in
    rw (h.dashes, h.long, h.short, k.dashes, k.long, k.short) refl
standby_rest (a ∷ b ∷ c ∷ more) e =
    let h = first_operand a (b ∷ c ∷ more) e in
    let two = others_plain a (b ∷ c ∷ more) e in
    let k = first_operand b (c ∷ more) two in
    let m = first_operand c more (others_plain b (c ∷ more) two) in
    rw (h.dashes, h.long, h.short, k.dashes, k.long, k.short, m.dashes, m.long, m.short) refl

standby_line : (words : List Text) → ArePlain words → IsRead (codes "standby" ∷ words)
unfolding clap_on_literals
standby_line words e = read_behind (codes "standby") words refl refl (standby_rest words e)

-- the words after `scope`
scope_rest : (words : List Text) → ArePlain words → IsReadBehind (codes "scope") words
unfolding clap_on_literals asked_by request_in
scope_rest [] e = refl
scope_rest (a ∷ []) e =
    let h = first_operand a [] e in
    rw (h.dashes, h.long, h.short) refl
scope_rest (a ∷ b ∷ []) e =
    let h = first_operand a (b ∷ []) e in
    let k = first_operand b [] (others_plain a (b ∷ []) e) in
    rw (h.dashes, h.long, h.short, k.dashes, k.long, k.short) refl
scope_rest (a ∷ b ∷ c ∷ more) e =
    let h = first_operand a (b ∷ c ∷ more) e in
    let two = others_plain a (b ∷ c ∷ more) e in
    let k = first_operand b (c ∷ more) two in
    let m = first_operand c more (others_plain b (c ∷ more) two) in
    rw (h.dashes, h.long, h.short, k.dashes, k.long, k.short, m.dashes, m.long, m.short) refl

scope_line : (words : List Text) → ArePlain words → IsRead (codes "scope" ∷ words)
unfolding clap_on_literals
scope_line words e = read_behind (codes "scope") words refl refl (scope_rest words e)

-- a first word that is no command's name
no_line : (word : Text) (words : List Text) → IsOperand word
    → bytes_eq (codes "bench") word ≡ false → bytes_eq (codes "run") word ≡ false
    → bytes_eq (codes "check") word ≡ false → bytes_eq (codes "gen") word ≡ false
    → bytes_eq (codes "migrate") word ≡ false → bytes_eq (codes "st") word ≡ false
    → bytes_eq (codes "switches") word ≡ false → bytes_eq (codes "standby") word ≡ false
    → bytes_eq (codes "scope") word ≡ false
    → IsRead (word ∷ words)
unfolding clap_on_literals asked_by
no_line word words h bench run check gen migrate st switches standby scope =
    rw (bench, run, check, gen, migrate, st, switches, standby, scope, h.dashes, h.long, h.short) refl

-- a first word is this name, or another word
named : (name word : Text) (words : List Text) → IsRead (name ∷ words)
    → (bytes_eq name word ≡ false → IsRead (word ∷ words)) → IsRead (word ∷ words)
named name word words here other = elim (cases_Bool (bytes_eq name word)) [
  | inl same ↦ subst (λ w. IsRead (w ∷ words)) ((bytes_eq-Decides name word).0 same) here
  | inr differs ↦ other differs
]

-- plain words are read as the grammar says
pub plain_read : (words : List Text) → ArePlain words → IsRead words
unfolding clap_on_literals asked_by
plain_read [] e = refl
plain_read (word ∷ words) e =
    let plain = others_plain word words e in
    named (codes "bench") word words (bench_line words plain) (λ bench.
    named (codes "run") word words (run_line words plain) (λ run.
    named (codes "check") word words (check_line words plain) (λ check.
    named (codes "gen") word words (gen_line words plain) (λ gen.
    named (codes "migrate") word words (migrate_line words plain) (λ migrate.
    named (codes "st") word words (st_line words plain) (λ st.
    named (codes "switches") word words (switches_line words plain) (λ switches.
    named (codes "standby") word words (standby_line words plain) (λ standby.
    named (codes "scope") word words (scope_line words plain)
    (no_line word words (first_operand word words e) bench run check gen migrate st switches
    standby)))))))))
