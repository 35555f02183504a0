-- Where the axes of a straight line stand, and how long it is.
-- for: path_limits
use Rattle.std.proofs.Common.{◌≡◌, ℕ, zero, suc, ◌+◌, ◌<◌, ◌≤◌, max, refl, ◌∙◌, ap, inl, inr, arith, add-one, true, false, ℤ, pos, ◌+ℤ◌, ◌-ℤ◌, ◌≤ℤ◌, ◌<ℤ◌, int_lt, unsigned_abs, List}
use Rattle.std.proofs.lemmas.Bool.{cases_eq}
use Rattle.std.proofs.lemmas.Int.{ints, clamps, by_lt_z}
use Rattle.linear_path.specs.Line.{way_of, longest_way_of, part_of, place_between}
use Rattle.linear_path.specs.Path.{IsBetween}
use Rattle.linear_path.proofs.PartLaws.{part_start, part_end, part_within}

true_below : (a b : ℤ) → a <ℤ b → int_lt a b ≡ true
true_below a b h = grind (arith, ints)

false_above : (a b : ℤ) → b ≤ℤ a → int_lt a b ≡ false
false_above a b h = grind (arith, ints)

-- forward, a place is the start and the part
pub place_forward : (start target : ℤ) (length s : ℕ) → start ≤ℤ target →
    place_between start target length s
    ≡ start +ℤ pos (part_of (unsigned_abs (target -ℤ start)) length s)
unfolding place_between
place_forward start target length s forward = rw (false_above target start forward) refl

-- backward, the start less the part
pub place_backward : (start target : ℤ) (length s : ℕ) → target <ℤ start →
    place_between start target length s
    ≡ start -ℤ pos (part_of (unsigned_abs (target -ℤ start)) length s)
unfolding place_between
place_backward start target length s backward = rw (true_below target start backward) refl

-- no way is longer than the longest
pub way_within : (count : ℕ) (starts targets : List ℤ) (axis : ℕ) → axis < count →
    way_of starts targets axis ≤ longest_way_of count starts targets
unfolding longest_way_of
way_within zero starts targets axis within = absurd (omega arith)
way_within (suc n) starts targets axis within =
    elim (cases_eq axis n) [
      | inl last ↦ (let same : way_of starts targets axis ≡ way_of starts targets n =
          ap (way_of starts targets) last in omega arith)
      | inr before ↦ omega (arith, way_within n starts targets axis (omega arith))
    ]

-- the start, from either side
pub place_start : (start target : ℤ) (length : ℕ) → place_between start target length 0 ≡ start
place_start start target length =
    by_lt_z target start
    (λ backward. place_backward start target length 0 backward
    ∙ rw (part_start (unsigned_abs (target -ℤ start)) length) (omega (arith, ints)))
    (λ forward. place_forward start target length 0 forward
    ∙ rw (part_start (unsigned_abs (target -ℤ start)) length) (omega (arith, ints)))

-- the target, from either side
pub place_end : (start target : ℤ) (length : ℕ) → unsigned_abs (target -ℤ start) ≤ length →
    place_between start target length length ≡ target
place_end start target length within =
    by_lt_z target start
    (λ backward. place_backward start target length length backward
    ∙ rw (part_end (unsigned_abs (target -ℤ start)) length within) (omega (arith, ints)))
    (λ forward. place_forward start target length length forward
    ∙ rw (part_end (unsigned_abs (target -ℤ start)) length within) (omega (arith, ints)))

-- every place lies between start and target
pub place_within : (start target : ℤ) (length s : ℕ) → unsigned_abs (target -ℤ start) ≤ length →
    s ≤ length → IsBetween start target (place_between start target length s)
place_within start target length s longest within =
    let part : part_of (unsigned_abs (target -ℤ start)) length s ≤ unsigned_abs (target -ℤ start) =
    part_within (unsigned_abs (target -ℤ start)) length s longest within in
    by_lt_z target start
    (λ backward. rw (place_backward start target length s backward)
    (record { above = omega (arith, ints, clamps); below = omega (arith, ints, clamps) }))
    (λ forward. rw (place_forward start target length s forward)
    (record { above = omega (arith, ints, clamps); below = omega (arith, ints, clamps) }))

pub longest_first : (starts targets : List ℤ) → 0 ≡ longest_way_of 0 starts targets
unfolding longest_way_of
longest_first starts targets = refl

pub longest_more : (n longest way next : ℕ) (starts targets : List ℤ) →
    longest ≡ longest_way_of n starts targets → way ≡ way_of starts targets n →
    next ≡ max way longest → next ≡ longest_way_of (n + 1) starts targets
unfolding longest_way_of
longest_more n longest way next starts targets is own both =
    let more : longest_way_of (n + 1) starts targets
    ≡ max (longest_way_of n starts targets) (way_of starts targets n) = rw add-one refl in
    omega arith
