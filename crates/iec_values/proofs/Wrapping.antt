-- What is left in a type's bits is the value of it that differs by a multiple.
-- for: numbers_are_exact, results_are_of_their_types
use Rattle.std.proofs.Common.{◌≡◌, ◌∙◌, ap, ℕ, suc, ◌+◌, ◌-◌, ◌/◌, ◌%◌, ◌^◌, ◌<◌, ◌≤◌, ℤ, pos, negsuc, neg_ℤ, ◌⊎◌, inl, inr, arith, FitsSigned}
use Rattle.std.specs.Int.{int_wrap, cast_signed, w16, w32}
use Rattle.std.proofs.lemmas.Bool.{cases_lt}
use Rattle.std.proofs.lemmas.Int.{ints, SFits-int_wrap, int_wrap_fits}
use Rattle.std.proofs.Math.Facts.{to_z-neg}
use Rattle.std.proofs.Math.Nat.{div-add-mod'}
use Rattle.iec_tree.specs.declared.elementary.Elementary.TheVariants.{Int, Dint}
use Rattle.iec_values.specs.Laws.{DifferBy}
use Rattle.iec_values.specs.Types.{Holds}

fits-int : (z : ℤ) → FitsSigned w16 z → Holds Int z
fits-int z f = record { above = omega (arith, ints); below = omega (arith, ints) }

fits-dint : (z : ℤ) → FitsSigned w32 z → Holds Dint z
fits-dint z f = record { above = omega (arith, ints); below = omega (arith, ints) }

pub holds-int : (z : ℤ) → Holds Int (int_wrap w16 z)
holds-int z = fits-int _ (SFits-int_wrap w16 z)

pub holds-dint : (z : ℤ) → Holds Dint (int_wrap w32 z)
holds-dint z = fits-dint _ (SFits-int_wrap w32 z)

pub stays-int : (z : ℤ) → Holds Int z → int_wrap w16 z ≡ z
stays-int z h = let f : FitsSigned w16 z = omega (arith, ints, h.above, h.below) in int_wrap_fits w16 z f

pub stays-dint : (z : ℤ) → Holds Dint z → int_wrap w32 z ≡ z
stays-dint z h = let f : FitsSigned w32 z = omega (arith, ints, h.above, h.below) in int_wrap_fits w32 z f

-- the bits of a number, read with their sign, differ from it by a multiple
high-int : (n : ℕ) → 32768 ≤ n → n < 65536 → cast_signed w16 n ≡ negsuc (65535 - n)
high-int n h k =
    let e : n ≡ 65536 - suc (65535 - n) = omega arith in
    ap (cast_signed w16) e ∙ to_z-neg w16 (65535 - n) (omega arith)

above-int : (a : ℕ) → DifferBy 65536 (pos a) (cast_signed w16 (a % 65536))
above-int a = by (cases_lt (a % 65536) 32768)
  where
    by : (a % 65536 < 32768) ⊎ (32768 ≤ a % 65536) → DifferBy 65536 (pos a) (cast_signed w16 (a % 65536))
    by (inl low) = record { times = pos (a / 65536); same = omega (arith, ints, div-add-mod' a 65536) }
    by (inr high) =
        let e : cast_signed w16 (a % 65536) ≡ negsuc (65535 - a % 65536) = high-int (a % 65536) high (omega arith) in
        record { times = pos (a / 65536 + 1); same = omega (arith, ints, div-add-mod' a 65536, e) }

below-int : (a : ℕ) → DifferBy 65536 (negsuc a) (cast_signed w16 (65535 - a % 65536))
below-int a = by (cases_lt (65535 - a % 65536) 32768)
  where
    by : (65535 - a % 65536 < 32768) ⊎ (32768 ≤ 65535 - a % 65536) → DifferBy 65536 (negsuc a) (cast_signed w16 (65535 - a % 65536))
    by (inl low) = record { times = negsuc (a / 65536); same = omega (arith, ints, div-add-mod' a 65536) }
    by (inr high) =
        let e : cast_signed w16 (65535 - a % 65536) ≡ negsuc (65535 - (65535 - a % 65536)) = high-int (65535 - a % 65536) high (omega arith) in
        record { times = neg_ℤ (pos (a / 65536)); same = omega (arith, ints, div-add-mod' a 65536, e) }

pub differs-int : (z : ℤ) → DifferBy (2 ^ 16) z (int_wrap w16 z)
unfolding int_wrap
differs-int (pos a) = above-int a
differs-int (negsuc a) = below-int a

high-dint : (n : ℕ) → 2147483648 ≤ n → n < 4294967296 → cast_signed w32 n ≡ negsuc (4294967295 - n)
high-dint n h k =
    let e : n ≡ 4294967296 - suc (4294967295 - n) = omega arith in
    ap (cast_signed w32) e ∙ to_z-neg w32 (4294967295 - n) (omega arith)

above-dint : (a : ℕ) → DifferBy 4294967296 (pos a) (cast_signed w32 (a % 4294967296))
above-dint a = by (cases_lt (a % 4294967296) 2147483648)
  where
    by : (a % 4294967296 < 2147483648) ⊎ (2147483648 ≤ a % 4294967296) → DifferBy 4294967296 (pos a) (cast_signed w32 (a % 4294967296))
    by (inl low) = record { times = pos (a / 4294967296); same = omega (arith, ints, div-add-mod' a 4294967296) }
    by (inr high) =
        let e : cast_signed w32 (a % 4294967296) ≡ negsuc (4294967295 - a % 4294967296) = high-dint (a % 4294967296) high (omega arith) in
        record { times = pos (a / 4294967296 + 1); same = omega (arith, ints, div-add-mod' a 4294967296, e) }

below-dint : (a : ℕ) → DifferBy 4294967296 (negsuc a) (cast_signed w32 (4294967295 - a % 4294967296))
below-dint a = by (cases_lt (4294967295 - a % 4294967296) 2147483648)
  where
    by : (4294967295 - a % 4294967296 < 2147483648) ⊎ (2147483648 ≤ 4294967295 - a % 4294967296) → DifferBy 4294967296 (negsuc a) (cast_signed w32 (4294967295 - a % 4294967296))
    by (inl low) = record { times = negsuc (a / 4294967296); same = omega (arith, ints, div-add-mod' a 4294967296) }
    by (inr high) =
        let e : cast_signed w32 (4294967295 - a % 4294967296) ≡ negsuc (4294967295 - (4294967295 - a % 4294967296)) = high-dint (4294967295 - a % 4294967296) high (omega arith) in
        record { times = neg_ℤ (pos (a / 4294967296)); same = omega (arith, ints, div-add-mod' a 4294967296, e) }

pub differs-dint : (z : ℤ) → DifferBy (2 ^ 32) z (int_wrap w32 z)
unfolding int_wrap
differs-dint (pos a) = above-dint a
differs-dint (negsuc a) = below-dint a
