-- What holds of each place of a list holds of the list.
-- for: numbers_have_bits
use Rattle.std.specs.Prelude.{◌≡◌, refl, ℕ, zero, suc, ◌+◌, ◌<◌, ◌≤◌, nat_le, ◌&&◌, true, IsTrue, pos, ℤ, unsigned_abs, IfSome, List, [], ◌∷◌, length, slice_get}
use Rattle.std.specs.List.{AllByRecursion, list_all}
use Rattle.std.proofs.Common.{arith, inl, inr, subst}
use Rattle.std.proofs.lemmas.Bool.{cases_lt, le-leb}
use Rattle.command_pool.specs.Waiting.{queue_of}
use Rattle.command_pool.specs.declared.wanted.Wanted.{Wanted}
use Rattle.linear_path.specs.Line.{AreInRange}
use Rattle.motion_numbers.specs.declared.TheConstants.{MOST_PLACE}
use Rattle.motion_numbers.specs.Ranges.{IsPlace}
use Rattle.segment_text.specs.Held.{AreWaiting}
use Rattle.segment_text.specs.reading.Groups.{are_places}

-- each place
pub all_places : {X : Type 0} (P : X → Type 0) (xs : List X) →
    ((n : ℕ) → n < length xs → IfSome (slice_get xs n) P) → AllByRecursion P xs
all_places P [] h = tt
all_places P (x ∷ xs) h =
    (h zero (omega arith), all_places P xs (λ n l. h (suc n) (omega arith)))

-- one place more
pub one_more : {X : Type 0} (P : X → Type 0) (xs : List X) (k : ℕ) →
    ((n : ℕ) → n < k → IfSome (slice_get xs n) P) → IfSome (slice_get xs k) P →
    (n : ℕ) → n < k + 1 → IfSome (slice_get xs n) P
one_more P xs k h here n l = elim (cases_lt n k) [
  | inl below ↦ h n below
  | inr at ↦
      let same : k ≡ n = omega arith in
      subst (λ i. IfSome (slice_get xs i) P) same here
]

-- each list of commands
pub all_lists : (lists : List (List Wanted)) →
    ((n : ℕ) → n < length lists → AreWaiting (queue_of lists n)) → AllByRecursion AreWaiting lists
all_lists [] h = tt
all_lists (q ∷ qs) h = (h zero (omega arith), all_lists qs (λ n l. h (suc n) (omega arith)))

-- one list more
pub one_list_more : (lists : List (List Wanted)) (k : ℕ) →
    ((n : ℕ) → n < k → AreWaiting (queue_of lists n)) → AreWaiting (queue_of lists k) →
    (n : ℕ) → n < k + 1 → AreWaiting (queue_of lists n)
one_list_more lists k h here n l = elim (cases_lt n k) [
  | inl below ↦ h n below
  | inr at ↦
      let same : k ≡ n = omega arith in
      subst (λ i. AreWaiting (queue_of lists i)) same here
]

-- places within 10^15
pub are_all_places : (xs : List ℤ) → AreInRange xs → IsTrue (are_places xs)
unfolding are_places
are_all_places [] h = refl
are_all_places (x ∷ xs) h =
    let first : unsigned_abs x ≤ MOST_PLACE = (h zero) in
    rw (le-leb (unsigned_abs x) MOST_PLACE first) (are_all_places xs (λ n. h (suc n)))
