-- The command that a controlword gives: by its bits one after the other, and by the patterns.
-- for: commanded_drives_become_enabled, fault_resets_leave_fault
use Rattle.std.specs.Prelude.{ℕ, ◌≡◌, ◌<◌, ◌≤◌, ◌^◌, ◌%◌, ◌&&◌, ◌==◌, ◌↔◌, Bool, true, false, not, List, [], ◌∷◌, length, Option, None, Some, if◌then◌else◌, bit_and, IsTrue}
use Rattle.std.proofs.Common.{ap, sym, ◌∙◌, refl, eq-eqb, lit<, lit≤}
use Rattle.std.proofs.lemmas.Bool.{eqb-true}
use Rattle.std.proofs.lemmas.Nat.{mod_below}
use Rattle.cia402_machine.specs.Words.{fits}
use Rattle.cia402_machine.specs.Controlword.{command_pattern, has_reset_bit, may_follow, gives, first_given, command_of_words}
use Rattle.cia402_machine.proofs.Finite.{all_below, all_below-at, same_bool, same_bool-is, command_number, same_command}
use Rattle.cia402_machine.proofs.LowBits.{and-low, fits-low}
use Rattle.cia402_machine.specs.declared.command.Command.{Command}
use Rattle.cia402_machine.specs.declared.command.Command.TheVariants.{Shutdown, SwitchOn, EnableOperation, DisableVoltage, QuickStop, FaultReset}

-- the command that a controlword gives by whether the last one had the bit of a fault reset
unfoldable pub given : Bool → ℕ → Option Command
given before word = first_given before word (Shutdown ∷ SwitchOn ∷ EnableOperation ∷ DisableVoltage ∷ QuickStop ∷ FaultReset ∷ [])

pub command_of_words-given : (last word : ℕ) → command_of_words last word ≡ given (has_reset_bit last) word
unfolding command_of_words given
command_of_words-given last word = refl

-- the patterns have eight letters
pattern-short : (c : Command) → length (command_pattern c) ≤ 8
pattern-short Shutdown = lit≤ tt
pattern-short SwitchOn = lit≤ tt
pattern-short EnableOperation = lit≤ tt
pattern-short DisableVoltage = lit≤ tt
pattern-short QuickStop = lit≤ tt
pattern-short FaultReset = lit≤ tt

first_given-low : (before : Bool) (word : ℕ) (commands : List Command) →
    first_given before word commands ≡ first_given before (word % 2 ^ 8) commands
first_given-low before word [] = refl
first_given-low before word (c ∷ commands) =
    let this : fits word (command_pattern c) ≡ fits (word % 2 ^ 8) (command_pattern c) = fits-low word 8 (command_pattern c) (pattern-short c) in
    let others : first_given before word commands ≡ first_given before (word % 2 ^ 8) commands = first_given-low before word commands in
    ap (λ b. if b && may_follow before c then Some c else first_given before word commands) this
    ∙ ap (λ o. if fits (word % 2 ^ 8) (command_pattern c) && may_follow before c then Some c else o) others

given-low : (before : Bool) (word : ℕ) → given before word ≡ given before (word % 2 ^ 8)
unfolding given
given-low before word = first_given-low before word
    (Shutdown ∷ SwitchOn ∷ EnableOperation ∷ DisableVoltage ∷ QuickStop ∷ FaultReset ∷ [])

-- the bit of a fault reset by its mask
reset_bit : ℕ → Bool
reset_bit word = same_bool (not (bit_and word 128 == 0)) (has_reset_bit word)

reset_bit-all : all_below 256 reset_bit ≡ true
unfolding reset_bit
reset_bit-all = refl

pub has_reset_bit-masked : (word : ℕ) → not (bit_and word 128 == 0) ≡ has_reset_bit word
unfolding reset_bit
has_reset_bit-masked word =
    let low : word % 2 ^ 8 < 256 = mod_below word (2 ^ 8) (lit< tt) in
    let test : reset_bit (word % 2 ^ 8) ≡ true = all_below-at 256 reset_bit (word % 2 ^ 8) reset_bit-all low in
    ap (λ n. not (n == 0)) (and-low word 128 8 (lit< tt)) ∙ same_bool-is _ _ test
    ∙ sym (fits-low word 8 (command_pattern FaultReset) (lit≤ tt))

-- the command by the masked bits, as the code tests them
abbrev pub by_bits : ℕ → ℕ → ℕ → ℕ → ℕ → Bool → Option Command
by_bits reset voltage stop on operation before =
    if not (reset == 0) then (if not before then Some FaultReset else None) else
    if voltage == 0 then Some DisableVoltage else
    if stop == 0 then Some QuickStop else
    if on == 0 then Some Shutdown else
    if operation == 0 then Some SwitchOn else Some EnableOperation

-- at a word of eight bits the masked bits and the patterns give the same
masked : Bool → ℕ → Bool
unfolding given
masked before word =
    command_number (by_bits (bit_and word 128) (bit_and word 2) (bit_and word 4) (bit_and word 1) (bit_and word 8) before)
    == command_number (given before word)

masked-all : (before : Bool) → all_below 256 (masked before) ≡ true
unfolding masked given
masked-all true = refl
masked-all false = refl

pub given-masked : (before : Bool) (word : ℕ) →
    given before word ≡ by_bits (bit_and word 128) (bit_and word 2) (bit_and word 4) (bit_and word 1) (bit_and word 8) before
unfolding masked
given-masked before word =
    let low : word % 2 ^ 8 < 256 = mod_below word (2 ^ 8) (lit< tt) in
    let test : masked before (word % 2 ^ 8) ≡ true = all_below-at 256 (masked before) (word % 2 ^ 8) (masked-all before) low in
    given-low before word ∙ sym (same_command _ _ (eqb-true _ _ test))
    ∙ rw (and-low word 128 8 (lit< tt), and-low word 2 8 (lit< tt), and-low word 4 8 (lit< tt), and-low word 1 8 (lit< tt), and-low word 8 8 (lit< tt)) refl

-- at a word of eight bits a command is given exactly where its pattern fits and it may follow
gives_one : Bool → Command → ℕ → Bool
unfolding given
gives_one before c word = same_bool (command_number (given before word) == command_number (Some c)) (fits word (command_pattern c) && may_follow before c)

gives_one-all : (before : Bool) (c : Command) → all_below 256 (gives_one before c) ≡ true
unfolding gives_one given
gives_one-all true Shutdown = refl
gives_one-all true SwitchOn = refl
gives_one-all true EnableOperation = refl
gives_one-all true DisableVoltage = refl
gives_one-all true QuickStop = refl
gives_one-all true FaultReset = refl
gives_one-all false Shutdown = refl
gives_one-all false SwitchOn = refl
gives_one-all false EnableOperation = refl
gives_one-all false DisableVoltage = refl
gives_one-all false QuickStop = refl
gives_one-all false FaultReset = refl

gives-one : (before : Bool) (word : ℕ) (c : Command) →
    (command_number (given before word) == command_number (Some c)) ≡ (fits word (command_pattern c) && may_follow before c)
unfolding gives_one
gives-one before word c =
    let low : word % 2 ^ 8 < 256 = mod_below word (2 ^ 8) (lit< tt) in
    let test : gives_one before c (word % 2 ^ 8) ≡ true = all_below-at 256 (gives_one before c) (word % 2 ^ 8) (gives_one-all before c) low in
    ap (λ o. command_number o == command_number (Some c)) (given-low before word)
    ∙ same_bool-is _ _ test
    ∙ ap (λ b. b && may_follow before c) (sym (fits-low word 8 (command_pattern c) (pattern-short c)))

-- a controlword gives a command exactly where it fits the command's pattern and the command may
-- follow
pub gives-is : (last word : ℕ) (c : Command) → (command_of_words last word ≡ Some c) ↔ IsTrue (gives last word c)
gives-is last word c = (
  λ e. sym (gives-one (has_reset_bit last) word c) ∙ eq-eqb _ _ (ap command_number (sym (command_of_words-given last word) ∙ e)),
  λ h. command_of_words-given last word ∙ same_command _ _ (eqb-true _ _ (gives-one (has_reset_bit last) word c ∙ h)),
)

-- the command by the masked bits of a word without the bit of a fault reset
abbrev pub by_plain_bits : ℕ → ℕ → ℕ → ℕ → Option Command
by_plain_bits voltage stop on operation =
    if voltage == 0 then Some DisableVoltage else
    if stop == 0 then Some QuickStop else
    if on == 0 then Some Shutdown else
    if operation == 0 then Some SwitchOn else Some EnableOperation

by_bits-plain : (reset voltage stop on operation : ℕ) (before : Bool) → not (reset == 0) ≡ false →
    by_bits reset voltage stop on operation before ≡ by_plain_bits voltage stop on operation
by_bits-plain reset voltage stop on operation before e = rw e refl

by_bits-reset : (reset voltage stop on operation : ℕ) (before : Bool) → not (reset == 0) ≡ true →
    by_bits reset voltage stop on operation before ≡ (if not before then Some FaultReset else None)
by_bits-reset reset voltage stop on operation before e = rw e refl

-- a word without the bit of a fault reset gives the command of its masked bits
pub plain : (last word : ℕ) → has_reset_bit word ≡ false →
    command_of_words last word ≡ by_plain_bits (bit_and word 2) (bit_and word 4) (bit_and word 1) (bit_and word 8)
plain last word zero =
    command_of_words-given last word ∙ given-masked (has_reset_bit last) word
    ∙ by_bits-plain (bit_and word 128) (bit_and word 2) (bit_and word 4) (bit_and word 1) (bit_and word 8) (has_reset_bit last) (has_reset_bit-masked word ∙ zero)

-- a word with that bit gives a fault reset where the last one was without it
pub reset : (last word : ℕ) → has_reset_bit word ≡ true →
    command_of_words last word ≡ (if not (has_reset_bit last) then Some FaultReset else None)
reset last word one =
    command_of_words-given last word ∙ given-masked (has_reset_bit last) word
    ∙ by_bits-reset (bit_and word 128) (bit_and word 2) (bit_and word 4) (bit_and word 1) (bit_and word 8) (has_reset_bit last) (has_reset_bit-masked word ∙ one)
