-- Products and quotients of LREALs that don't end at a bound.
-- for: numbers_are_exact
use Rattle.std.proofs.Common.{◌≢◌, sym, subst, ℤ, pos, ◌*ℤ◌, ◌^◌}
use Rattle.iec_tree.specs.declared.elementary.Elementary.TheVariants.{Lreal}
use Rattle.iec_values.specs.Laws.{IsTowardZero}
use Rattle.iec_values.specs.Numbers.{nearest, quotient, remainder}
use Rattle.iec_values.specs.Types.{Holds}
use Rattle.iec_values.proofs.Bounds.{nearest-stays}
use Rattle.iec_values.proofs.Division.{toward_zero}

not_zero : pos (10 ^ 9) ≢ pos 0
not_zero e = absurd (cc)

ended : (n d : ℤ) → d ≢ pos 0 → Holds Lreal (quotient n d) → IsTowardZero n d (nearest Lreal (quotient n d)) (remainder n d)
ended n d some h = subst (λ q. IsTowardZero n d q (remainder n d)) (sym (nearest-stays Lreal (quotient n d) h)) (toward_zero n d some)

pub product-exact : (a b : ℤ) → Holds Lreal (quotient (a *ℤ b) (pos (10 ^ 9))) → IsTowardZero (a *ℤ b) (pos (10 ^ 9)) (nearest Lreal (quotient (a *ℤ b) (pos (10 ^ 9)))) (remainder (a *ℤ b) (pos (10 ^ 9)))
product-exact a b h = ended _ _ not_zero h

pub quotient-exact : (a b : ℤ) → b ≢ pos 0 → Holds Lreal (quotient (a *ℤ pos (10 ^ 9)) b) → IsTowardZero (a *ℤ pos (10 ^ 9)) b (nearest Lreal (quotient (a *ℤ pos (10 ^ 9)) b)) (remainder (a *ℤ pos (10 ^ 9)) b)
quotient-exact a b some h = ended _ _ some h
