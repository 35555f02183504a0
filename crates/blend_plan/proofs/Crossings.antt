-- Which taken steps cross.
-- for: crossings_have_the_target_between, blends_go_on_until_they_cross, blends_without_steps_brake
use Rattle.std.proofs.Common.{◌≡◌, ◌↔◌, Bool, true, false, ◌&&◌, int_le, ℤ, pos, ◌≤ℤ◌, unsigned_abs, arith, ◌∙◌, sym, refl}
use Rattle.std.proofs.lemmas.Bool.{and_parts, and_from}
use Rattle.std.proofs.lemmas.Int.{ints}
use Rattle.motion_numbers.specs.Run.{run_of}
use Rattle.command_pool.specs.declared.rates.Rates.{Rates}
use Rattle.blend_plan.specs.BlendStep.{Crosses, crosses_at}

-- what the test says
pub crosses-says : (l1 l2 : ℤ) (second : Rates) (vb u : ℤ) → (crosses_at l1 l2 second vb u ≡ true) ↔ Crosses l1 l2 second vb u
crosses-says l1 l2 second vb u = (
  λ h.
      let all = and_parts (int_le u vb && int_le l1 u) (int_le (pos (run_of (unsigned_abs u) (unsigned_abs second.d))) l2) h in
      let two = and_parts (int_le u vb) (int_le l1 u) all.0 in
      let slow : int_le u vb ≡ true = two.0 in
      let far : int_le l1 u ≡ true = two.1 in
      let fits : int_le (pos (run_of (unsigned_abs u) (unsigned_abs second.d))) l2 ≡ true = all.1 in
      record { velocity = omega (arith, ints); reached = omega (arith, ints); run = omega (arith, ints) },
  λ crosses.
      let slow : int_le u vb ≡ true = grind (arith, ints) in
      let far : int_le l1 u ≡ true = grind (arith, ints) in
      let fits : int_le (pos (run_of (unsigned_abs u) (unsigned_abs second.d))) l2 ≡ true = grind (arith, ints) in
      and_from _ _ (and_from _ _ slow far) fits,
)

-- the last of three tests decides where the others hold
last-decides : (a b c : Bool) → a ≡ true → b ≡ true → c ≡ (a && b && c)
last-decides true true c p q = refl
last-decides true false c p q = cc
last-decides false b c p q = cc

-- the last part decides where the others hold
pub crosses-last : (l1 l2 : ℤ) (second : Rates) (vb u : ℤ) → u ≤ℤ vb → l1 ≤ℤ u →
    int_le (pos (run_of (unsigned_abs u) (unsigned_abs second.d))) l2 ≡ crosses_at l1 l2 second vb u
crosses-last l1 l2 second vb u slow reached =
    let is_slow : int_le u vb ≡ true = grind (arith, ints) in
    let is_far : int_le l1 u ≡ true = grind (arith, ints) in
    last-decides _ _ _ is_slow is_far

-- an answer that is the test is right
pub crosses-defined : (answer : Bool) (l1 l2 : ℤ) (second : Rates) (vb u : ℤ) → answer ≡ crosses_at l1 l2 second vb u →
    (answer ≡ true) ↔ Crosses l1 l2 second vb u
crosses-defined answer l1 l2 second vb u is =
    (λ h. (crosses-says l1 l2 second vb u).0 (sym is ∙ h), λ crosses. is ∙ (crosses-says l1 l2 second vb u).1 crosses)
