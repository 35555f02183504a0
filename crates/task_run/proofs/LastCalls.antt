-- The last call of a block, in lines and in lines written out.
-- for: next, answered
use Rattle.std.proofs.Common.{◌≡◌, ℕ, ◌-◌, ◌≤◌, zero, suc, true, false, Option, Some, None, List, [], ◌∷◌, ◌++◌, length, refl, sym, ◌∙◌, ap, subst, append_assoc, arith}
use Rattle.std.specs.Prelude.{is_some}
use Rattle.std.specs.List.{AllByRecursion}
use Rattle.plc_types.specs.declared.inputs.Inputs.{Inputs}
use Rattle.plc_program.specs.Programs.{IsCounted, repeating_after}
use Rattle.plc_program.specs.declared.program.Instruction.{Instruction}
use Rattle.plc_program.specs.declared.program.Instruction.TheVariants.{Call, Wait, Repeat, Again}
use Rattle.std.specs.Option.{option_or}
use Rattle.std.specs.Prelude.{drop, take}
use Rattle.std.specs.List.{list_all}
use Rattle.std.proofs.lemmas.List.{length-append, length-drop}
use Rattle.plc_program.specs.Programs.{IsTask}
use Rattle.task_run.specs.Runs.{until_again}
use Rattle.task_run.specs.Standing.{IsInside, IsOutside, is_plain}
use Rattle.task_run.specs.Tasks.{inputs_in, last_call, later_of}
use Rattle.task_run.specs.declared.place.Repetition.{Repetition}
use Rattle.task_run.proofs.Lists.{all-front}
use Rattle.task_run.proofs.Places.{plain-back}
use Rattle.task_run.specs.Written.{Open, times, written_from, written_out}

pub later-assoc : {A : Type 0} (a b c : Option A) → later_of a (later_of b c) ≡ later_of (later_of a b) c
later-assoc a b None = refl
later-assoc a b (Some x) = refl

pub later-none : {A : Type 0} (a : Option A) → later_of None a ≡ a
later-none None = refl
later-none (Some x) = refl

-- a call that comes again after another
pub later-twice : {A : Type 0} (a b : Option A) → later_of b (later_of a b) ≡ later_of a b
later-twice a (Some x) = refl
later-twice None None = refl
later-twice (Some y) None = refl

pub last-join : (k : ℕ) (xs ys : List Instruction) → last_call k (xs ++ ys) ≡ later_of (last_call k xs) (last_call k ys)
last-join k [] ys = sym (later-none (last_call k ys))
last-join k (x ∷ xs) ys = ap (λ o. later_of (inputs_in k x) o) (last-join k xs ys) ∙ later-assoc (inputs_in k x) (last_call k xs) (last_call k ys)

same : {A : Type 0} (a : Option A) → later_of a a ≡ a
same None = refl
same (Some x) = refl

-- lines that are run once or more
pub last-times : (k n : ℕ) (xs : List Instruction) → last_call k (times (suc n) xs) ≡ last_call k xs
last-times k zero xs = last-join k xs []
last-times k (suc n) xs = last-join k xs (times (suc n) xs) ∙ ap (λ o. later_of (last_call k xs) o) (last-times k n xs) ∙ same (last_call k xs)

-- what an open repeat has called last
abbrev last_open : ℕ → Option Open → Option Inputs
last_open k None = None
last_open k (Some o) = last_call k o.lines

abbrev IsSome : Option Open → Type 0
IsSome None = Unit {0}
IsSome (Some o) = 1 ≤ o.count

last-some : (k n : ℕ) (xs : List Instruction) → 1 ≤ n → last_call k (times n xs) ≡ last_call k xs
last-some k zero xs h = absurd (omega arith)
last-some k (suc n) xs h = last-times k n xs

written-last : (k : ℕ) (o : Option Open) (lines : List Instruction) → IsSome o → AllByRecursion IsCounted lines → repeating_after (is_some o) lines ≡ Some false →
    last_call k (written_from o lines) ≡ later_of (last_open k o) (last_call k lines)
written-last k None [] some counted h = refl
written-last k (Some o) [] some counted h = absurd (cc)
written-last k None (Call j i ∷ lines) some counted h =
    ap (λ c. later_of (inputs_in k (Call j i)) c) (written-last k None lines some counted.1 h ∙ later-none (last_call k lines))
    ∙ sym (later-none (later_of (inputs_in k (Call j i)) (last_call k lines)))
written-last k None (Wait j flag ∷ lines) some counted h =
    ap (λ c. later_of None c) (written-last k None lines some counted.1 h)
written-last k None (Repeat count ∷ lines) some counted h =
    written-last k (Some (record { count = count; lines = [] })) lines counted.0.0 counted.1 h ∙ sym (later-none (later_of None (last_call k lines)))
written-last k None (Again ∷ lines) some counted h = absurd (cc)
written-last k (Some o) (Call j i ∷ lines) some counted h =
    written-last k (Some (record o { lines = o.lines ++ Call j i ∷ [] })) lines some counted.1 h
    ∙ ap (λ c. later_of c (last_call k lines)) (last-join k o.lines (Call j i ∷ []))
    ∙ sym (later-assoc (last_call k o.lines) (inputs_in k (Call j i)) (last_call k lines))
written-last k (Some o) (Wait j flag ∷ lines) some counted h =
    written-last k (Some (record o { lines = o.lines ++ Wait j flag ∷ [] })) lines some counted.1 h
    ∙ ap (λ c. later_of c (last_call k lines)) (last-join k o.lines (Wait j flag ∷ []))
    ∙ sym (later-assoc (last_call k o.lines) None (last_call k lines))
written-last k (Some o) (Repeat count ∷ lines) some counted h = absurd (cc)
written-last k (Some o) (Again ∷ lines) some counted h =
    last-join k (times o.count o.lines) (written_from None lines)
    ∙ ap (λ c. later_of c (last_call k (written_from None lines))) (last-some k o.count o.lines some)
    ∙ ap (λ c. later_of (last_call k o.lines) c) (written-last k None lines tt counted.1 h)

-- the last call in lines whose repeats end is that in the lines written out
pub last-written : (k : ℕ) (lines : List Instruction) → AllByRecursion IsCounted lines → repeating_after false lines ≡ Some false →
    last_call k (written_out lines) ≡ last_call k lines
unfolding written_out
last-written k lines counted h = written-last k None lines tt counted h ∙ later-none (last_call k lines)

-- ---- at a place

take-front : (front back : List Instruction) → take (length front) (front ++ back) ≡ front
take-front [] back = refl
take-front (x ∷ front) back = ap (λ ls. x ∷ ls) (take-front front back)

drop-front : (front back : List Instruction) → drop (length front) (front ++ back) ≡ back
drop-front [] back = refl
drop-front (x ∷ front) back = drop-front front back

until-plain : (still behind : List Instruction) → list_all is_plain still ≡ true → until_again (still ++ (Again ∷ behind)) ≡ still
until-plain [] behind h = refl
until-plain (Call k i ∷ still) behind h = ap (λ ls. Call k i ∷ ls) (until-plain still behind h)
until-plain (Wait k flag ∷ still) behind h = ap (λ ls. Wait k flag ∷ ls) (until-plain still behind h)
until-plain (Repeat count ∷ still) behind h = absurd (cc)
until-plain (Again ∷ still) behind h = absurd (cc)

-- outside repeats
pub last-outside : (k : ℕ) (lines : List Instruction) (line : ℕ) (p t : List Instruction) → IsTask lines → IsOutside lines line p t → last_call k (take line lines) ≡ last_call k p
last-outside k lines line p t task s =
    let counted = all-front IsCounted s.front s.back (subst (λ ls. AllByRecursion IsCounted ls) s.split task.counted) in
    rw (s.split, s.line_is, s.passed_is, take-front s.front s.back) (sym (last-written k s.front counted s.closed))

-- what is passed in a repeat
pub inside-front : (lines : List Instruction) (line : ℕ) (pass : Repetition) (p t : List Instruction) (k : ℕ) → IsTask lines → (s : IsInside lines line pass p t) →
    last_call k p ≡ later_of (last_call k s.front) (later_of (last_call k (times pass.made (s.run ++ s.still))) (last_call k s.run))
inside-front lines line pass p t k task s =
    let tail = Repeat s.count ∷ (s.run ++ (s.still ++ (Again ∷ s.behind))) in
    let counted = all-front IsCounted s.front tail (subst (λ ls. AllByRecursion IsCounted ls) s.split task.counted) in
    ap (λ ls. last_call k ls) s.passed_is ∙ last-join k (written_out s.front) (times pass.made (s.run ++ s.still) ++ s.run)
    ∙ ap (λ c. later_of c (last_call k (times pass.made (s.run ++ s.still) ++ s.run))) (last-written k s.front counted s.closed)
    ∙ ap (λ c. later_of (last_call k s.front) c) (last-join k (times pass.made (s.run ++ s.still)) s.run)

-- the lines before this one
pub inside-take : (lines : List Instruction) (line : ℕ) (pass : Repetition) (p t : List Instruction) (s : IsInside lines line pass p t) → take line lines ≡ s.front ++ (Repeat s.count ∷ s.run)
inside-take lines line pass p t s =
    let tail = s.still ++ (Again ∷ s.behind) in
    let front = s.front ++ (Repeat s.count ∷ s.run) in
    let split : lines ≡ front ++ tail = s.split ∙ sym (append_assoc s.front (Repeat s.count ∷ s.run) tail) in
    let long : line ≡ length front = s.line_is ∙ sym (length-append s.front (Repeat s.count ∷ s.run)) in
    rw (split, long) (take-front front tail)

inside-drop : (lines : List Instruction) (line : ℕ) (pass : Repetition) (p t : List Instruction) (s : IsInside lines line pass p t) → drop line lines ≡ s.still ++ (Again ∷ s.behind)
inside-drop lines line pass p t s =
    let tail = s.still ++ (Again ∷ s.behind) in
    let front = s.front ++ (Repeat s.count ∷ s.run) in
    let split : lines ≡ front ++ tail = s.split ∙ sym (append_assoc s.front (Repeat s.count ∷ s.run) tail) in
    let long : line ≡ length front = s.line_is ∙ sym (length-append s.front (Repeat s.count ∷ s.run)) in
    rw (split, long) (drop-front front tail)

-- in the first pass
pub last-first : (k : ℕ) (lines : List Instruction) (line : ℕ) (pass : Repetition) (p t : List Instruction) → IsTask lines → pass.made ≡ 0 → IsInside lines line pass p t →
    last_call k (take line lines) ≡ last_call k p
last-first k lines line pass p t task first s =
    let made : times pass.made (s.run ++ s.still) ≡ [] = ap (λ n. times n (s.run ++ s.still)) first in
    ap (λ ls. last_call k ls) (inside-take lines line pass p t s) ∙ last-join k s.front (Repeat s.count ∷ s.run)
    ∙ sym (inside-front lines line pass p t k task s ∙ ap (λ ls. later_of (last_call k s.front) (later_of (last_call k ls) (last_call k s.run))) made)

both : {A : Type 0} (front run still : Option A) → later_of (later_of front still) run ≡ later_of front (later_of (later_of run still) run)
both front (Some x) still = refl
both front None still = ap (λ c. later_of front c) (sym (later-none still))

-- in a later pass: in this pass, else in the pass before, else before the repeat
pub last-later : (k : ℕ) (lines : List Instruction) (line : ℕ) (pass : Repetition) (p t : List Instruction) → IsTask lines → 1 ≤ pass.made → IsInside lines line pass p t →
    later_of (later_of (last_call k (take pass.start lines)) (last_call k (until_again (drop line lines)))) (last_call k (drop pass.start (take line lines))) ≡ last_call k p
last-later k lines line pass p t task some s =
    let start : take pass.start lines ≡ s.front = rw (s.split, s.start_is) (take-front s.front _) in
    let still : until_again (drop line lines) ≡ s.still = ap until_again (inside-drop lines line pass p t s) ∙ until-plain s.still s.behind (plain-back s.run s.still s.plain) in
    let here : drop pass.start (take line lines) ≡ Repeat s.count ∷ s.run =
    ap (λ n. drop n (take line lines)) s.start_is ∙ ap (λ ls. drop (length s.front) ls) (inside-take lines line pass p t s) ∙ drop-front s.front (Repeat s.count ∷ s.run) in
    let body : last_call k (times pass.made (s.run ++ s.still)) ≡ later_of (last_call k s.run) (last_call k s.still) =
    last-some k pass.made (s.run ++ s.still) some ∙ last-join k s.run s.still in
    let told : last_call k (Repeat s.count ∷ s.run) ≡ last_call k s.run = later-none (last_call k s.run) in
    let front = last_call k s.front in
    rw (start, still, here, told) (both front (last_call k s.run) (last_call k s.still)
    ∙ sym (inside-front lines line pass p t k task s ∙ ap (λ c. later_of front (later_of c (last_call k s.run))) body))

pub or-later : {A : Type 0} (a b c : Option A) → option_or a (option_or b c) ≡ later_of (later_of c b) a
or-later (Some x) b c = refl
or-later None (Some y) c = refl
or-later None None c = refl

pub told : {a b c a' b' c' : Option Inputs} → a ≡ a' → b ≡ b' → c ≡ c' → later_of (later_of c b) a ≡ later_of (later_of c' b') a'
told p q r = λ i. later_of (later_of (r i) (q i)) (p i)

take-whole : (xs : List Instruction) → take (length xs) xs ≡ xs
take-whole [] = refl
take-whole (x ∷ xs) = ap (λ ls. x ∷ ls) (take-whole xs)

-- a slice to the end
pub slice-rest : (xs : List Instruction) (n : ℕ) → take (length xs - n) (drop n xs) ≡ drop n xs
slice-rest xs n = ap (λ m. take m (drop n xs)) (sym (length-drop n xs)) ∙ take-whole (drop n xs)
