-- Lines that make calls.
-- for: next, answered
use Rattle.std.proofs.Common.{◌≡◌, ℕ, true, Option, Some, None, List, [], ◌∷◌, ◌++◌, refl, subst}
use Rattle.std.specs.Prelude.{slice_get}
use Rattle.std.specs.List.{list_all}
use Rattle.plc_program.specs.declared.program.Instruction.{Instruction}
use Rattle.plc_program.specs.declared.program.Instruction.TheVariants.{Call, Wait, Repeat, Again}
use Rattle.task_run.specs.Runs.{is_call_or_none, is_settled}
use Rattle.task_run.specs.Standing.{IsInside, IsOutside, StandsBy, is_plain}
use Rattle.task_run.specs.declared.place.Repetition.{Repetition}

pub plain-line : (l : Instruction) → ((n : ℕ) → l ≡ Repeat n → ⊥) → (l ≡ Again → ⊥) → is_plain l ≡ true
plain-line (Call k i) r a = refl
plain-line (Wait k flag) r a = refl
plain-line (Repeat count) r a = absurd (r count refl)
plain-line Again r a = absurd (a refl)

pub none-line : (o : Option Instruction) → ((l : Instruction) → o ≡ Some l → ⊥) → is_call_or_none o ≡ true
none-line None h = refl
none-line (Some l) h = absurd (h l refl)

pub is-plain : (lines : List Instruction) (n : ℕ) (l : Instruction) → is_settled lines n ≡ true → slice_get lines n ≡ Some l → is_plain l ≡ true
is-plain lines n l settled at = subst (λ o. is_call_or_none o ≡ true) at settled

pub inside-of : (lines : List Instruction) (line : ℕ) (o : Option Repetition) (pass : Repetition) → o ≡ Some pass → (p t : List Instruction) → StandsBy lines line o p t → IsInside lines line pass p t
inside-of lines line o pass is p t s = subst (λ q. StandsBy lines line q p t) is s

pub outside-of : (lines : List Instruction) (line : ℕ) (o : Option Repetition) → ((pass : Repetition) → o ≡ Some pass → ⊥) → (p t : List Instruction) → StandsBy lines line o p t → IsOutside lines line p t
outside-of lines line None none p t s = s
outside-of lines line (Some pass) none p t s = absurd (none pass refl)

-- the first line of a body is plain, or none
plain-head : (body behind : List Instruction) → list_all is_plain body ≡ true → (body ≡ [] → ⊥) → is_call_or_none (slice_get (body ++ (Again ∷ behind)) 0) ≡ true
plain-head [] behind h some = absurd (some refl)
plain-head (Call k i ∷ body) behind h some = refl
plain-head (Wait k flag ∷ body) behind h some = refl
plain-head (Repeat count ∷ body) behind h some = absurd (cc)
plain-head (Again ∷ body) behind h some = absurd (cc)

pub outside-none : (lines : List Instruction) (line : ℕ) (o : Option Repetition) → o ≡ None → (p t : List Instruction) → StandsBy lines line o p t → IsOutside lines line p t
outside-none lines line o is p t s = subst (λ q. StandsBy lines line q p t) is s
