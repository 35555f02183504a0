-- What ends at a type's bounds is the nearest value of it.
-- for: numbers_are_exact, results_are_of_their_types
use Rattle.std.proofs.Common.{◌≡◌, ◌≤◌, ℤ, pos, ◌-ℤ◌, ◌≤ℤ◌, unsigned_abs, arith}
use Rattle.std.specs.Int.{int_min, int_max}
use Rattle.std.proofs.lemmas.Int.{ints, clamps}
use Rattle.iec_tree.specs.declared.elementary.Elementary.{Elementary}
use Rattle.iec_tree.specs.declared.elementary.Elementary.TheVariants.{Bool as BOOL}
use Rattle.iec_values.specs.Numbers.{nearest}
use Rattle.iec_values.specs.Types.{Holds, least_of, greatest_of}

-- there are values of each type
some : (t : Elementary) → least_of t ≤ℤ greatest_of t
some BOOL = record { le = tt }
some _ = record { le = tt }

pub nearest-held : (t : Elementary) (z : ℤ) → Holds t (nearest t z)
unfolding nearest
nearest-held t z = record { above = low _ _ z (some t); below = high _ _ z (some t) }
  where
    low : (l h z : ℤ) → l ≤ℤ h → l ≤ℤ int_max l (int_min z h)
    low l h z e = omega (arith, ints, clamps)

    high : (l h z : ℤ) → l ≤ℤ h → int_max l (int_min z h) ≤ℤ h
    high l h z e = omega (arith, ints, clamps)

pub nearest-near : (t : Elementary) (y z : ℤ) → Holds t y → unsigned_abs (nearest t z -ℤ z) ≤ unsigned_abs (y -ℤ z)
unfolding nearest
nearest-near t y z h = near _ _ y z h.above h.below
  where
    near : (l h y z : ℤ) → l ≤ℤ y → y ≤ℤ h → unsigned_abs (int_max l (int_min z h) -ℤ z) ≤ unsigned_abs (y -ℤ z)
    near l h y z e f = omega (arith, ints, clamps)

pub nearest-stays : (t : Elementary) (z : ℤ) → Holds t z → nearest t z ≡ z
unfolding nearest
nearest-stays t z h = stays _ _ z h.above h.below
  where
    stays : (l h z : ℤ) → l ≤ℤ z → z ≤ℤ h → int_max l (int_min z h) ≡ z
    stays l h z e f = omega (arith, ints, clamps)

-- the less and the greater of two values of a type
pub min-held : (t : Elementary) (a b : ℤ) → Holds t a → Holds t b → Holds t (int_min a b)
min-held t a b p q = record { above = low _ a b p.above q.above; below = high _ a b p.below q.below }
  where
    low : (l a b : ℤ) → l ≤ℤ a → l ≤ℤ b → l ≤ℤ int_min a b
    low l a b e f = omega (arith, ints, clamps)

    high : (h a b : ℤ) → a ≤ℤ h → b ≤ℤ h → int_min a b ≤ℤ h
    high h a b e f = omega (arith, ints, clamps)

pub max-held : (t : Elementary) (a b : ℤ) → Holds t a → Holds t b → Holds t (int_max a b)
max-held t a b p q = record { above = low _ a b p.above q.above; below = high _ a b p.below q.below }
  where
    low : (l a b : ℤ) → l ≤ℤ a → l ≤ℤ b → l ≤ℤ int_max a b
    low l a b e f = omega (arith, ints, clamps)

    high : (h a b : ℤ) → a ≤ℤ h → b ≤ℤ h → int_max a b ≤ℤ h
    high h a b e f = omega (arith, ints, clamps)

-- 0 is a value of each type
pub zero-held : (t : Elementary) → Holds t (pos 0)
zero-held BOOL = record { above = record { le = tt }; below = record { le = tt } }
zero-held _ = record { above = record { le = tt }; below = record { le = tt } }
