-- What tests decide.
-- for: refusals_are_the_first, errors_have_causes
use Rattle.std.specs.Prelude.{◌≡◌, ◌≢◌, refl, ℕ, ℤ, ◌≤ℤ◌, pos, Bool, true, false, not, ◌||◌, int_le, int_lt, Option, Some, None, is_some, List}
use Rattle.std.specs.Bool.{Decides}
use Rattle.std.specs.Ordering.{int_eq}
use Rattle.std.proofs.Common.{arith, subst, inl, inr}
use Rattle.std.proofs.lemmas.Bool.{cases_Bool}
use Rattle.std.proofs.lemmas.Bool.Decides.{Decides-int_eq, Decides-not}
use Rattle.std.proofs.lemmas.Int.{ints}
use Rattle.axis_core.specs.Ranges.{IsBetween}
use Rattle.buffer_modes.specs.Queue.{is_aborting}
use Rattle.plc_types.specs.declared.kind.BufferMode.{BufferMode}
use Rattle.plc_types.specs.declared.kind.BufferMode.TheVariants as mode
use Rattle.motion_numbers.specs.Ranges.{is_outside}
use Rattle.motion_laws.proofs.causes.Answers.{inside}
use Rattle.motion_laws.specs.error_ids.First.{HoldsOfNone, IsFirst}

-- a test that is false says that what it decides isn't so
pub fails : {P : Type 0} (b : Bool) → Decides b P → b ≡ false → P → ⊥
fails b d h p = let yes = d.1 p in cc

-- a number that lies outside two others
pub not_or : (x y : Bool) → (x || y) ≡ false → (x ≡ false) × (y ≡ false)
not_or true y h = absurd (cc)
not_or false y h = (refl, h)

at_least : (x y : ℤ) → int_lt x y ≡ false → y ≤ℤ x
at_least x y h = grind (arith, ints)

pub within : (lo z hi : ℤ) → is_outside lo z hi ≡ false → IsBetween lo z hi
within lo z hi h =
    let parts = not_or (int_lt z lo) (int_lt hi z) h in
    record { above = at_least z lo parts.0; below = at_least hi z parts.1 }

pub outside : (lo z hi : ℤ) → Decides (is_outside lo z hi) (IsBetween lo z hi → ⊥)
outside lo z hi = (λ h b. let no = inside lo z hi b in cc, by)
  where
    by : (IsBetween lo z hi → ⊥) → is_outside lo z hi ≡ true
    by far = elim (cases_Bool (is_outside lo z hi)) [
      | inl h ↦ h
      | inr h ↦ absurd (far (within lo z hi h))
    ]

pub at_most : (x y : ℤ) → Decides (int_le x y) (x ≤ℤ y)
at_most x y = (λ h. grind (arith, ints), λ h. grind (arith, ints))

pub nothing_of : (jerk : ℤ) → Decides (not (int_eq jerk (pos 0))) (jerk ≢ pos 0)
nothing_of jerk = Decides-not (int_eq jerk (pos 0)) (Decides-int_eq jerk (pos 0))

pub waits : (m : BufferMode) → Decides (not (is_aborting m)) (m ≢ mode.Aborting)
waits mode.Aborting = (λ h. absurd (cc), λ h. absurd (h refl))
waits _ = (λ h e. cc, λ h. refl)

pub there : {A : Type 0} (o : Option A) → Decides (is_some o) (o ≢ None)
there None = (λ h. absurd (cc), λ h. absurd (h refl))
there (Some x) = (λ h e. cc, λ h. refl)

-- the first of some numbers stays so where the numbers, or what holds of them, are the same
pub first_same : (P : ℕ → Type 0) (ns ms : List ℕ) (n m : ℕ) → ns ≡ ms → n ≡ m →
    IsFirst P ns n → IsFirst P ms m
first_same P ns ms n m e f h = subst (λ xs. IsFirst P xs m) e (subst (IsFirst P ns) f h)

-- so does that something holds of none of them
pub none_same : (P : ℕ → Type 0) (ns ms : List ℕ) → ns ≡ ms → HoldsOfNone P ns → HoldsOfNone P ms
none_same P ns ms e h = subst (HoldsOfNone P) e h
