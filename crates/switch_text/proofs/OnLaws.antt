-- A switch is on as it is said, and goes on by one setpoint more.
-- for: on_is_as_said
use Rattle.std.proofs.Common.{◌≡◌, ◌↔◌, ℕ, zero, suc, ◌<◌, ◌≤◌, Bool, true, false, ◌&&◌, ◌||◌, ℤ, pos, List, [], ◌∷◌, ◌++◌, length, slice_index_or, refl, ap, ◌∙◌, arith, inl, inr}
use Rattle.std.specs.List.{list_all}
use Rattle.std.proofs.Math.Bool.{and-true}
use Rattle.std.proofs.lemmas.List.Folds.{list_all-append}
use Rattle.std.proofs.lemmas.Grind.{common_steps}
use Rattle.std.proofs.lemmas.Bool.{and_parts, or_cases, or_left, or_right}
use Rattle.switch_text.specs.Switches.{IsOn, is_inside, is_on, is_on_after, is_within}
use Rattle.switch_text.specs.declared.switch.Switch.{Switch}

-- ---- one setpoint more

-- a, w and n are about the one more: inside and within; i and all of the first and those before
bools : (i all w o n : Bool) → ((i && (all && w)) || (w && (o || n))) ≡ (w && ((i && all || o) || n))
bools true true true o n = refl
bools true true false o n = refl
bools true false true o n = refl
bools true false false o n = refl
bools false all true o n = refl
bools false all false o n = refl

bare : (n w : Bool) → ((n && (w && true)) || false) ≡ (w && (false || n))
bare true true = refl
bare true false = refl
bare false true = refl
bare false false = refl

all-one-more : (f : ℤ → Bool) (ps : List ℤ) (p : ℤ) →
    list_all f (ps ++ p ∷ []) ≡ list_all f ps && f p
all-one-more f ps p = list_all-append f ps (p ∷ []) ∙ ap (λ b. list_all f ps && b) (and-true (f p))

-- a switch is on after one setpoint more by whether it was
pub on-one-more : (s : Switch) (ps : List ℤ) (p : ℤ) →
    is_on s (ps ++ p ∷ []) ≡ is_on_after s (is_on s ps) p
on-one-more s [] p = bare (is_inside s p) (is_within s p)
on-one-more s (q ∷ qs) p =
    ap (λ b. (is_inside s q && b) || is_on s (qs ++ p ∷ [])) (all-one-more (is_within s) (q ∷ qs) p)
    ∙ ap (λ o. (is_inside s q && (list_all (is_within s) (q ∷ qs) && is_within s p)) || o)
    (on-one-more s qs p)
    ∙ bools (is_inside s q) (list_all (is_within s) (q ∷ qs)) (is_within s p) (is_on s qs)
    (is_inside s p)

-- ---- by the numbers of the setpoints

both : {a b : Bool} → a ≡ true → b ≡ true → (a && b) ≡ true
both {a} {b} x y = ap (λ c. c && b) x ∙ y

-- each item is as said
every : (f : ℤ → Bool) (xs : List ℤ) → list_all f xs ≡ true → (i : ℕ) → i < length xs →
    f (slice_index_or xs i (pos 0)) ≡ true
every f xs h i lt = grind (arith, common_steps)

every_back : (f : ℤ → Bool) (xs : List ℤ) →
    ((i : ℕ) → i < length xs → f (slice_index_or xs i (pos 0)) ≡ true) → list_all f xs ≡ true
every_back f [] h = refl
every_back f (x ∷ xs) h =
    both (h 0 (omega arith)) (every_back f xs (λ i lt. h (suc i) (omega arith)))

later : (s : Switch) (p : ℤ) (ps : List ℤ) (o : IsOn s ps) (i : ℕ) → suc o.since ≤ i →
    i < length (p ∷ ps) → is_within s (slice_index_or (p ∷ ps) i (pos 0)) ≡ true
later s p ps o zero le lt = absurd (omega arith)
later s p ps o (suc i) le lt = o.within i (omega arith) (omega arith)

from_rest : (s : Switch) (p : ℤ) (ps : List ℤ) → IsOn s ps → IsOn s (p ∷ ps)
from_rest s p ps o = record {
  since = suc o.since;
  there = omega (arith, o.there);
  inside = o.inside;
  within = later s p ps o;
}

from_on : (s : Switch) (column : List ℤ) → is_on s column ≡ true → IsOn s column
from_on s [] h = absurd (cc)
from_on s (p ∷ ps) h =
    elim (or_cases (is_inside s p && list_all (is_within s) (p ∷ ps)) (is_on s ps) h) [
      | inl a ↦ record {
        since = 0;
        there = omega arith;
        inside = (and_parts (is_inside s p) _ a).0;
        within = (λ i le lt. every (is_within s) (p ∷ ps)
            (and_parts (is_inside s p) (list_all (is_within s) (p ∷ ps)) a).1 i lt);
      }
      | inr r ↦ from_rest s p ps (from_on s ps r)
    ]

to_on : (s : Switch) (column : List ℤ) (k : ℕ) → k < length column →
    is_inside s (slice_index_or column k (pos 0)) ≡ true →
    ((i : ℕ) → k ≤ i → i < length column →
    is_within s (slice_index_or column i (pos 0)) ≡ true) → is_on s column ≡ true
to_on s [] k lt inside within = absurd (omega arith)
to_on s (p ∷ ps) zero lt inside within =
    or_left (is_inside s p && list_all (is_within s) (p ∷ ps)) (is_on s ps)
    (both inside (every_back (is_within s) (p ∷ ps) (λ i l. within i (omega arith) l)))
to_on s (p ∷ ps) (suc k) lt inside within =
    or_right (is_inside s p && list_all (is_within s) (p ∷ ps)) (is_on s ps)
    (to_on s ps k (omega arith) inside (λ i le l. within (suc i) (omega arith) (omega arith)))

-- a switch is on exactly where there is a setpoint since which it is
pub as_said : (s : Switch) (column : List ℤ) → (is_on s column ≡ true) ↔ IsOn s column
as_said s column = (from_on s column, λ o. to_on s column o.since o.there o.inside o.within)
