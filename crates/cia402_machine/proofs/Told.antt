-- The state that a statusword gives: by its masked bits, and by the patterns.
-- for: state_of
use Rattle.std.specs.Prelude.{ℕ, ◌≡◌, ◌<◌, ◌≤◌, ◌^◌, ◌%◌, ◌==◌, ◌↔◌, Bool, true, false, List, [], ◌∷◌, length, Option, None, Some, if◌then◌else◌, bit_and, IsTrue}
use Rattle.std.proofs.Common.{ap, sym, ◌∙◌, refl, eq-eqb, lit<, lit≤}
use Rattle.std.proofs.lemmas.Bool.{eqb-true}
use Rattle.std.proofs.lemmas.Nat.{mod_below}
use Rattle.cia402_machine.specs.Words.{fits}
use Rattle.cia402_machine.specs.Statusword.{pattern_of, first_fitting, state_of_word}
use Rattle.cia402_machine.proofs.Finite.{all_below, all_below-at, same_bool, same_bool-is, state_number, same_state}
use Rattle.cia402_machine.proofs.LowBits.{and-low, fits-low}
use Rattle.plc_types.specs.declared.drive.DriveState.{DriveState}
use Rattle.plc_types.specs.declared.drive.DriveState.TheVariants.{NotReady, SwitchOnDisabled, ReadyToSwitchOn, SwitchedOn, OperationEnabled, QuickStopActive, FaultReactionActive, Fault}

-- the state by two masked words, as the code tests them
abbrev pub by_masks : ℕ → ℕ → Option DriveState
by_masks with_stop without =
    if with_stop == 0x21 then Some ReadyToSwitchOn else
    if with_stop == 0x23 then Some SwitchedOn else
    if with_stop == 0x27 then Some OperationEnabled else
    if with_stop == 0x07 then Some QuickStopActive else
    if without == 0x00 then Some NotReady else
    if without == 0x40 then Some SwitchOnDisabled else
    if without == 0x0f then Some FaultReactionActive else
    if without == 0x08 then Some Fault else None

-- the patterns have seven letters
pattern-short : (s : DriveState) → length (pattern_of s) ≤ 7
pattern-short NotReady = lit≤ tt
pattern-short SwitchOnDisabled = lit≤ tt
pattern-short ReadyToSwitchOn = lit≤ tt
pattern-short SwitchedOn = lit≤ tt
pattern-short OperationEnabled = lit≤ tt
pattern-short QuickStopActive = lit≤ tt
pattern-short FaultReactionActive = lit≤ tt
pattern-short Fault = lit≤ tt

first_fitting-low : (word : ℕ) (states : List DriveState) → first_fitting word states ≡ first_fitting (word % 2 ^ 7) states
first_fitting-low word [] = refl
first_fitting-low word (s ∷ states) =
    let this : fits word (pattern_of s) ≡ fits (word % 2 ^ 7) (pattern_of s) = fits-low word 7 (pattern_of s) (pattern-short s) in
    let others : first_fitting word states ≡ first_fitting (word % 2 ^ 7) states = first_fitting-low word states in
    ap (λ b. if b then Some s else first_fitting word states) this
    ∙ ap (λ o. if fits (word % 2 ^ 7) (pattern_of s) then Some s else o) others

state_of_word-low : (word : ℕ) → state_of_word word ≡ state_of_word (word % 2 ^ 7)
unfolding state_of_word
state_of_word-low word = first_fitting-low word (NotReady ∷ SwitchOnDisabled ∷ ReadyToSwitchOn ∷ SwitchedOn ∷
    OperationEnabled ∷ QuickStopActive ∷ FaultReactionActive ∷ Fault ∷ [])

-- at a word of seven bits the masked bits and the patterns give the same
masked : ℕ → Bool
unfolding state_of_word
masked word = state_number (by_masks (bit_and word 111) (bit_and word 79)) == state_number (state_of_word word)

masked-all : all_below 128 masked ≡ true
unfolding masked state_of_word
masked-all = refl

pub state_of_word-masked : (word : ℕ) → state_of_word word ≡ by_masks (bit_and word 111) (bit_and word 79)
unfolding masked
state_of_word-masked word =
    let low : word % 2 ^ 7 < 128 = mod_below word (2 ^ 7) (lit< tt) in
    let test : masked (word % 2 ^ 7) ≡ true = all_below-at 128 masked (word % 2 ^ 7) masked-all low in
    let same : by_masks (bit_and (word % 2 ^ 7) 111) (bit_and (word % 2 ^ 7) 79) ≡ state_of_word (word % 2 ^ 7) = same_state _ _ (eqb-true _ _ test) in
    let with_stop : bit_and word 111 ≡ bit_and (word % 2 ^ 7) 111 = and-low word 111 7 (lit< tt) in
    let without : bit_and word 79 ≡ bit_and (word % 2 ^ 7) 79 = and-low word 79 7 (lit< tt) in
    state_of_word-low word ∙ sym same ∙ rw (with_stop, without) refl

-- a word of seven bits gives a state exactly where it fits the state's pattern
tells : DriveState → ℕ → Bool
unfolding state_of_word
tells s word = same_bool (state_number (state_of_word word) == state_number (Some s)) (fits word (pattern_of s))

tells-all : (s : DriveState) → all_below 128 (tells s) ≡ true
unfolding tells state_of_word
tells-all NotReady = refl
tells-all SwitchOnDisabled = refl
tells-all ReadyToSwitchOn = refl
tells-all SwitchedOn = refl
tells-all OperationEnabled = refl
tells-all QuickStopActive = refl
tells-all FaultReactionActive = refl
tells-all Fault = refl

told : (word : ℕ) (s : DriveState) → (state_number (state_of_word word) == state_number (Some s)) ≡ fits word (pattern_of s)
unfolding tells
told word s =
    let low : word % 2 ^ 7 < 128 = mod_below word (2 ^ 7) (lit< tt) in
    let test : tells s (word % 2 ^ 7) ≡ true = all_below-at 128 (tells s) (word % 2 ^ 7) (tells-all s) low in
    ap (λ o. state_number o == state_number (Some s)) (state_of_word-low word)
    ∙ same_bool-is _ _ test ∙ sym (fits-low word 7 (pattern_of s) (pattern-short s))

-- a statusword gives a state exactly where it fits the state's pattern
pub told-is : (word : ℕ) (s : DriveState) → (state_of_word word ≡ Some s) ↔ IsTrue (fits word (pattern_of s))
told-is word s = (
  λ e. sym (told word s) ∙ eq-eqb _ _ (ap state_number e),
  λ h. same_state _ _ (eqb-true _ _ (told word s ∙ h)),
)

-- no state has the number of none
apart : (s : DriveState) → (state_number None == state_number (Some s)) ≡ false
apart NotReady = refl
apart SwitchOnDisabled = refl
apart ReadyToSwitchOn = refl
apart SwitchedOn = refl
apart OperationEnabled = refl
apart QuickStopActive = refl
apart FaultReactionActive = refl
apart Fault = refl

none_of : (o : Option DriveState) → ((s : DriveState) → o ≡ Some s → ⊥) → o ≡ None
none_of None never = refl
none_of (Some s) never = absurd (never s refl)

unfit : (b : Bool) → b ≡ false → IsTrue b → ⊥
unfit b e h = let t : b ≡ true = h in cc

-- a statusword gives no state exactly where it fits no pattern
pub told-none : (word : ℕ) → (state_of_word word ≡ None) ↔ ((s : DriveState) → fits word (pattern_of s) ≡ false)
told-none word = (
  λ none s. sym (told word s) ∙ ap (λ o. state_number o == state_number (Some s)) none ∙ apart s,
  λ misfits. none_of (state_of_word word) (λ s e. unfit (fits word (pattern_of s)) (misfits s) ((told-is word s).0 e)),
)
