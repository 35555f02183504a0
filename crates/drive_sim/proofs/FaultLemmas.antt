-- Fault steps that rise, and a search among them.
-- for: has_fault
use Rattle.std.specs.Prelude.{ℕ, zero, suc, ◌≡◌, ◌≤◌, ◌<◌, Bool, true, false, ◌==◌, ◌||◌, List, [], ◌∷◌, length}
use Rattle.std.proofs.Common.{arith, refl, get_or, eq-eqb, sym, inl, inr}
use Rattle.std.proofs.lemmas.Bool.{cases_lt, cases_Bool, eqb-true}
use Rattle.std.specs.Prelude.{Result, Ok, Err}
use Rattle.std.specs.Result.{MatchResult, is_ok}
use Rattle.drive_sim.specs.Faults.{RisesAbove, has_step}

-- a step among those that rise lies above
above : (n i : ℕ) (steps : List ℕ) → RisesAbove n steps → i < length steps → n < get_or steps i 0
above n i [] rises below = absurd (omega arith)
above n zero (step ∷ steps) rises below = rises.0
above n (suc i) (step ∷ steps) rises below =
    let more : step < get_or steps i 0 = above step i steps rises.1 (omega arith) in
    let first : n < step = rises.0 in
    let sum : n < get_or steps i 0 = omega arith in
    sum

-- steps that rise are in order
pub ordered : (n : ℕ) (steps : List ℕ) → RisesAbove n steps → (i j : ℕ) → i ≤ j → j < length steps → get_or steps i 0 ≤ get_or steps j 0
ordered n [] rises i j le below = absurd (omega arith)
ordered n (step ∷ steps) rises zero zero le below = omega arith
ordered n (step ∷ steps) rises zero (suc j) le below =
    let more : step < get_or steps j 0 = above step j steps rises.1 (omega arith) in
    let le : step ≤ get_or steps j 0 = omega arith in
    le
ordered n (step ∷ steps) rises (suc i) zero le below = absurd (omega arith)
ordered n (step ∷ steps) rises (suc i) (suc j) le below = ordered step steps rises.1 i j (omega arith) (omega arith)

-- unequal numbers are distinguished
unequal : (a b : ℕ) → (a ≡ b → ⊥) → (a == b) ≡ false
unequal a b apart = elim (cases_Bool (a == b)) [ inl same ↦ absurd (apart (eqb-true a b same)) | inr other ↦ other ]

or-true : (b : Bool) → (b || true) ≡ true
or-true true = refl
or-true false = refl

-- a step at a place is one of the steps
pub has_step-at : (step i : ℕ) (steps : List ℕ) → i < length steps → get_or steps i 0 ≡ step → has_step step steps ≡ true
has_step-at step i [] below same = absurd (omega arith)
has_step-at step zero (first ∷ steps) below same = let e : (first == step) ≡ true = eq-eqb first step same in rw e refl
has_step-at step (suc i) (first ∷ steps) below same =
    let more : has_step step steps ≡ true = has_step-at step i steps (omega arith) same in
    rw more (or-true (first == step))

-- a step that lies at no place is none of the steps
pub has_step-none : (step : ℕ) (steps : List ℕ) → ((i : ℕ) → i < length steps → get_or steps i 0 ≡ step → ⊥) → has_step step steps ≡ false
has_step-none step [] never = refl
has_step-none step (first ∷ steps) never =
    let here : first ≡ step → ⊥ = never 0 (omega arith) in
    let e : (first == step) ≡ false = unequal first step here in
    let more : has_step step steps ≡ false = has_step-none step steps (λ i below. never (suc i) (omega arith)) in
    rw (e, more) refl

-- what a search among steps that rise says
pub search-is : (steps : List ℕ) (step : ℕ) (r : Result ℕ ℕ) →
    MatchResult r (λ i. (i < length steps) × (get_or steps i 0 ≡ step))
    (λ i. (i ≤ length steps) × ((k : ℕ) → k < i → get_or steps k 0 < step) × ((k : ℕ) → i ≤ k → k < length steps → step < get_or steps k 0)) →
    is_ok r ≡ has_step step steps
search-is steps step (Ok i) found = sym (has_step-at step i steps found.0 found.1)
search-is steps step (Err i) missed = sym (has_step-none step steps (λ k below same.
    elim (cases_lt k i) [
      | inl less ↦ (let h : get_or steps k 0 < step = missed.1 k less in omega arith)
      | inr le ↦ (let h : step < get_or steps k 0 = missed.2 k le below in omega arith)
    ]))
