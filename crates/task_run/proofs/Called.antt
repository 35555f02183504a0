-- The calls that a task makes stand in its lines, and each wait stands after one of its block.
-- for: next, answered
use Rattle.std.proofs.Common.{◌≡◌, ℕ, zero, suc, ◌==◌, Bool, true, false, ◌||◌, Option, Some, None, List, [], ◌∷◌, ◌++◌, refl, sym, ◌∙◌, ap, subst, append_assoc, inl, inr, arith}
use Rattle.std.specs.Prelude.{cond, is_some, slice_get, take}
use Rattle.std.specs.List.{AllByRecursion, Contains}
use Rattle.std.proofs.lemmas.List.{append-nil}
use Rattle.std.proofs.lemmas.List.Elements.{Contains-append_cases, Contains-append_left, Contains-append_right}
use Rattle.std.proofs.lemmas.Bool.{eqb-true}
use Rattle.plc_types.specs.declared.inputs.Inputs.{Inputs}
use Rattle.plc_program.specs.Programs.{AreBehindTheirCalls, IsBehindItsCall, IsCounted, IsTask, is_call_of, is_called}
use Rattle.plc_types.specs.declared.flag.Flag.{Flag}
use Rattle.plc_program.specs.declared.program.Instruction.{Instruction}
use Rattle.plc_program.specs.declared.program.Instruction.TheVariants.{Call, Wait, Repeat, Again}
use Rattle.task_run.specs.Standing.{IsInside, IsOutside, Stands, StandsBy}
use Rattle.task_run.specs.Tasks.{inputs_in, last_call, later_of}
use Rattle.task_run.specs.Written.{times}
use Rattle.task_run.specs.declared.place.Repetition.{Repetition}
use Rattle.task_run.specs.declared.place.ProgramPosition.{ProgramPosition}
use Rattle.task_run.proofs.LastCalls.{inside-front, inside-take, last-join, last-outside, last-written, later-none}
use Rattle.task_run.proofs.Lists.{all-front}

-- ---- the last call of a block is one of the lines

first-contained : (x : Instruction) (xs : List Instruction) → Contains (x ∷ xs) x
first-contained x xs = (0, omega arith, refl)

-- a line that has inputs for a block is its call
call-of : (k : ℕ) (x : Instruction) (i : Inputs) → inputs_in k x ≡ Some i → x ≡ Call k i
call-of k (Call j m) i h = go (j == k) refl h
  where
    go : (b : Bool) → (j == k) ≡ b → cond b (Some m) None ≡ Some i → Call j m ≡ Call k i
    go true e h = let same : j ≡ k = eqb-true j k e in let inputs : m ≡ i = cc in cc
    go false e h = absurd (cc)
call-of k (Wait j flag) i h = absurd (cc)
call-of k (Repeat count) i h = absurd (cc)
call-of k Again i h = absurd (cc)

last-cases : (k : ℕ) (x : Instruction) (xs : List Instruction) (i : Inputs) (o : Option Inputs) → last_call k xs ≡ o → later_of (inputs_in k x) o ≡ Some i →
    (last_call k xs ≡ Some i → Contains xs (Call k i)) → Contains (x ∷ xs) (Call k i)
last-cases k x xs i (Some j) e h there = Contains-append_right (x ∷ []) xs (Call k i) (there (e ∙ h))
last-cases k x xs i None e h there = subst (λ y. Contains (y ∷ xs) (Call k i)) (sym (call-of k x i h)) (first-contained (Call k i) xs)

pub last-contained : (k : ℕ) (xs : List Instruction) (i : Inputs) → last_call k xs ≡ Some i → Contains xs (Call k i)
last-contained k [] i h = absurd (cc)
last-contained k (x ∷ xs) i h = last-cases k x xs i (last_call k xs) refl h (last-contained k xs i)

times-contained : (n : ℕ) (xs : List Instruction) (x : Instruction) → Contains (times n xs) x → Contains xs x
times-contained zero xs x h = absurd (omega (arith, h.1))
times-contained (suc n) xs x h = elim (Contains-append_cases xs (times n xs) x h) [ inl here ↦ here | inr later ↦ times-contained n xs x later ]

outside-contained : (k : ℕ) (lines : List Instruction) (line : ℕ) (p t : List Instruction) (i : Inputs) → IsTask lines → IsOutside lines line p t → last_call k p ≡ Some i → Contains lines (Call k i)
outside-contained k lines line p t i task s h =
    let counted = all-front IsCounted s.front s.back (subst (λ ls. AllByRecursion IsCounted ls) s.split task.counted) in
    let same : last_call k s.front ≡ Some i = sym (last-written k s.front counted s.closed) ∙ ap (λ ls. last_call k ls) (sym s.passed_is) ∙ h in
    subst (λ ls. Contains ls (Call k i)) (sym s.split) (Contains-append_left s.front s.back (Call k i) (last-contained k s.front i same))

-- a line of the body, or of what stands before its repeat
body-contained : (lines : List Instruction) (line : ℕ) (pass : Repetition) (p t : List Instruction) (x : Instruction) (s : IsInside lines line pass p t) → Contains (s.front ++ (s.run ++ s.still)) x → Contains lines x
body-contained lines line pass p t x s h =
    let tail = s.still ++ (Again ∷ s.behind) in
    let back = Repeat s.count ∷ (s.run ++ tail) in
    let behind : Contains (s.run ++ s.still) x → Contains back x = λ b.
    let whole = Contains-append_left (s.run ++ s.still) (Again ∷ s.behind) x b in
    Contains-append_right (Repeat s.count ∷ []) (s.run ++ tail) x (subst (λ ls. Contains ls x) (append_assoc s.run s.still (Again ∷ s.behind)) whole) in
    subst (λ ls. Contains ls x) (sym s.split)
    (elim (Contains-append_cases s.front (s.run ++ s.still) x h) [ inl first ↦ Contains-append_left s.front back x first | inr b ↦ Contains-append_right s.front back x (behind b) ])

inside-contained : (k : ℕ) (lines : List Instruction) (line : ℕ) (pass : Repetition) (p t : List Instruction) (i : Inputs) → IsTask lines → IsInside lines line pass p t → last_call k p ≡ Some i → Contains lines (Call k i)
inside-contained k lines line pass p t i task s h =
    let body = times pass.made (s.run ++ s.still) in
    let same : last_call k (s.front ++ (body ++ s.run)) ≡ Some i =
    last-join k s.front (body ++ s.run) ∙ ap (λ o. later_of (last_call k s.front) o) (last-join k body s.run) ∙ sym (inside-front lines line pass p t k task s) ∙ h in
    let x = Call k i in
    let there = body-contained lines line pass p t x s in
    let in_body : Contains (body ++ s.run) x → Contains (s.run ++ s.still) x = λ b.
    elim (Contains-append_cases body s.run x b) [ inl many ↦ times-contained pass.made (s.run ++ s.still) x many | inr run ↦ Contains-append_left s.run s.still x run ] in
    elim (Contains-append_cases s.front (body ++ s.run) x (last-contained k (s.front ++ (body ++ s.run)) i same))
    [ inl first ↦ there (Contains-append_left s.front (s.run ++ s.still) x first) | inr b ↦ there (Contains-append_right s.front (s.run ++ s.still) x (in_body b)) ]

contained_by : (k : ℕ) (lines : List Instruction) (line : ℕ) (o : Option Repetition) (p t : List Instruction) (i : Inputs) → IsTask lines → StandsBy lines line o p t → last_call k p ≡ Some i → Contains lines (Call k i)
contained_by k lines line None p t i task s h = outside-contained k lines line p t i task s h
contained_by k lines line (Some pass) p t i task s h = inside-contained k lines line pass p t i task s h

-- the last call of a block that was passed is one of the lines
pub passed-contained : (k : ℕ) (lines : List Instruction) (place : ProgramPosition) (p t : List Instruction) (i : Inputs) → IsTask lines → Stands lines place p t → last_call k p ≡ Some i → Contains lines (Call k i)
passed-contained k lines place p t i task s h = contained_by k lines place.line place.pass p t i task s h

pub line-contained : (lines : List Instruction) (n : ℕ) (x : Instruction) → slice_get lines n ≡ Some x → Contains lines x
line-contained [] n x h = absurd (cc)
line-contained (y ∷ lines) zero x h = let same : y ≡ x = cc in subst (λ z. Contains (z ∷ lines) x) (sym same) (first-contained x lines)
line-contained (y ∷ lines) (suc n) x h = Contains-append_right (y ∷ []) lines x (line-contained lines n x h)

-- ---- a wait stands after a call of its block

-- a wait in lines stands after a call
wait-behind : (above lines : List Instruction) (n k : ℕ) (flag : Flag) → AreBehindTheirCalls above lines → slice_get lines n ≡ Some (Wait k flag) → is_called k (above ++ take n lines) ≡ true
wait-behind above [] n k flag h at = absurd (cc)
wait-behind above (x ∷ lines) zero k flag h at =
    let same : x ≡ Wait k flag = cc in
    let behind : is_called k above ≡ true = subst (λ y. IsBehindItsCall above y) same h.0 in
    ap (λ ls. is_called k ls) (append-nil above) ∙ behind
wait-behind above (x ∷ lines) (suc n) k flag h at =
    ap (λ ls. is_called k ls) (sym (append_assoc above (x ∷ []) (take n lines))) ∙ wait-behind (above ++ x ∷ []) lines n k flag h.1 at

some-later : {A : Type 0} (a b : Option A) → is_some (later_of a b) ≡ is_some a || is_some b
some-later None None = refl
some-later None (Some y) = refl
some-later (Some x) None = refl
some-later (Some x) (Some y) = refl

some-inputs : (k : ℕ) (x : Instruction) → is_some (inputs_in k x) ≡ is_call_of k x
some-inputs k (Call j i) = go (j == k)
  where
    go : (b : Bool) → is_some (cond b (Some i) None) ≡ b
    go true = refl
    go false = refl
some-inputs k (Wait j flag) = refl
some-inputs k (Repeat count) = refl
some-inputs k Again = refl

some-called : (k : ℕ) (xs : List Instruction) → is_some (last_call k xs) ≡ is_called k xs
unfolding is_called
some-called k [] = refl
some-called k (x ∷ xs) =
    some-later (inputs_in k x) (last_call k xs) ∙ ap (λ b. b || is_some (last_call k xs)) (some-inputs k x) ∙ ap (λ b. is_call_of k x || b) (some-called k xs)

more-some : (a b c : Bool) → a || c ≡ true → a || (b || c) ≡ true
more-some true b c h = refl
more-some false true c h = refl
more-some false false c h = h

inside-some : (k : ℕ) (lines : List Instruction) (line : ℕ) (pass : Repetition) (p t : List Instruction) → IsTask lines → IsInside lines line pass p t →
    is_some (last_call k (take line lines)) ≡ true → is_some (last_call k p) ≡ true
inside-some k lines line pass p t task s h =
    let front = last_call k s.front in
    let body = last_call k (times pass.made (s.run ++ s.still)) in
    let run = last_call k s.run in
    let taken : last_call k (take line lines) ≡ later_of front run =
    ap (λ ls. last_call k ls) (inside-take lines line pass p t s) ∙ last-join k s.front (Repeat s.count ∷ s.run) ∙ ap (λ o. later_of front o) (later-none run) in
    let some : is_some front || is_some run ≡ true = sym (some-later front run) ∙ ap is_some (sym taken) ∙ h in
    ap is_some (inside-front lines line pass p t k task s) ∙ some-later front (later_of body run) ∙ ap (λ b. is_some front || b) (some-later body run) ∙ more-some (is_some front) (is_some body) (is_some run) some

some_by : (k : ℕ) (lines : List Instruction) (line : ℕ) (o : Option Repetition) (p t : List Instruction) → IsTask lines → StandsBy lines line o p t → is_some (last_call k (take line lines)) ≡ true → is_some (last_call k p) ≡ true
some_by k lines line None p t task s h = ap is_some (sym (last-outside k lines line p t task s)) ∙ h
some_by k lines line (Some pass) p t task s h = inside-some k lines line pass p t task s h

-- before a wait a call of its block was passed
pub wait-called : (lines : List Instruction) (place : ProgramPosition) (k : ℕ) (flag : Flag) (p t : List Instruction) → IsTask lines → slice_get lines place.line ≡ Some (Wait k flag) → Stands lines place p t →
    is_some (last_call k p) ≡ true
wait-called lines place k flag p t task at s =
    some_by k lines place.line place.pass p t task s (some-called k (take place.line lines) ∙ wait-behind [] lines place.line k flag task.waits at)
