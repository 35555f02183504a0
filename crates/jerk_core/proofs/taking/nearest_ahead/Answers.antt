-- Going on and turning, the greatest speed up to the wanted one is the nearest.
use Rattle.std.proofs.Common.{◌≡◌, ℕ, ◌≤◌, pos, neg_ℤ, ◌-ℤ◌, unsigned_abs, to_z, of_z, w64, FitsSigned, to_z-of_z, refl, arith}
use Rattle.std.proofs.lemmas.Int.{ints}
use Rattle.jerk_core.specs.declared.rates.JerkRates.{JerkRates}
use Rattle.jerk_core.specs.Rates.{AreJerkRates, IsSafeBy, IsLeftBy}
use Rattle.jerk_core.specs.Taken.IsSafeFrom.{goes_on, turns}
use Rattle.jerk_core.proofs.Nearest.{nearest_on, nearest_back}
use Rattle.jerk_core.proofs.taking.nearest_ahead.Goals as goal

-- a safe speed as a signed number
signed : (rates : JerkRates) (room w v g : ℕ) → AreJerkRates rates → IsSafeBy rates room w v g → to_z w64 g ≡ pos g
signed rates room w v g ok safe = let slow : g ≤ rates.v = safe.after.kept.speed in let most = ok.v_most in omega (arith, ints)

-- and one back
signed_back : (rates : JerkRates) (room g : ℕ) → AreJerkRates rates → IsLeftBy rates room 0 g →
    to_z w64 (of_z w64 (pos 0 -ℤ to_z w64 g)) ≡ neg_ℤ (pos g)
signed_back rates room g ok left = let slow : g ≤ rates.v = left.kept.speed in let most = ok.v_most in omega (arith, ints)

pub returns-then-wanted-ge0-clause-safe : goal.returns-then-wanted-ge0-clause-safe
returns-then-wanted-ge0-clause-safe g c =
    goes_on c.greatest_safe.result (signed c.args.rates.now _ _ _ c.greatest_safe.result c.requires.rates c.greatest_safe.ensures.safe) c.greatest_safe.ensures.safe

pub returns-then-wanted-ge0-clause-nearest : goal.returns-then-wanted-ge0-clause-nearest
returns-then-wanted-ge0-clause-nearest g c =
    let same : to_z w64 c.greatest_safe.result ≡ pos c.greatest_safe.result =
    signed c.args.rates.now _ _ _ c.greatest_safe.result c.requires.rates c.greatest_safe.ensures.safe in
    rw same (nearest_on c.args.rates.now c.args.motion.now c.args.wanted (unsigned_abs (to_z w64 (of_z w64 c.args.wanted))) c.greatest_safe.result c.requires.rates c.requires.kept
    (λ up. omega (arith, ints)) (λ down. omega (arith, ints)) (λ stands. omega (arith, ints))
    c.greatest_safe.ensures.safe c.greatest_safe.ensures.greatest c.greatest_safe.ensures.within)

pub returns-then-motion-gt0-clause-safe : goal.returns-then-motion-gt0-clause-safe
returns-then-motion-gt0-clause-safe g c =
    goes_on c.greatest_safe-then-motion-gt0.result
    (signed c.args.rates.now _ _ _ c.greatest_safe-then-motion-gt0.result c.requires.rates c.greatest_safe-then-motion-gt0.ensures.safe)
    c.greatest_safe-then-motion-gt0.ensures.safe

pub returns-then-motion-gt0-clause-nearest : goal.returns-then-motion-gt0-clause-nearest
returns-then-motion-gt0-clause-nearest g c =
    let same : to_z w64 c.greatest_safe-then-motion-gt0.result ≡ pos c.greatest_safe-then-motion-gt0.result =
    signed c.args.rates.now _ _ _ c.greatest_safe-then-motion-gt0.result c.requires.rates c.greatest_safe-then-motion-gt0.ensures.safe in
    rw same (nearest_on c.args.rates.now c.args.motion.now c.args.wanted 0 c.greatest_safe-then-motion-gt0.result c.requires.rates c.requires.kept
    (λ up. omega (arith, ints)) (λ down. refl) (λ stands. omega (arith, ints))
    c.greatest_safe-then-motion-gt0.ensures.safe c.greatest_safe-then-motion-gt0.ensures.greatest c.greatest_safe-then-motion-gt0.ensures.within)

pub returns-else-motion-gt0-clause-safe : goal.returns-else-motion-gt0-clause-safe
returns-else-motion-gt0-clause-safe g c =
    turns c.greatest_back.result (signed_back c.args.rates.now _ c.greatest_back.result c.requires.rates c.greatest_back.ensures.left) (omega arith)
    c.greatest_back.ensures.bends c.greatest_back.ensures.left

pub returns-else-motion-gt0-clause-nearest : goal.returns-else-motion-gt0-clause-nearest
returns-else-motion-gt0-clause-nearest g c =
    let same : to_z w64 (of_z w64 (pos 0 -ℤ to_z w64 c.greatest_back.result)) ≡ neg_ℤ (pos c.greatest_back.result) =
    signed_back c.args.rates.now _ c.greatest_back.result c.requires.rates c.greatest_back.ensures.left in
    let wanted_fits : FitsSigned w64 c.args.wanted = c.ranges.wanted in
    let size : c.unsigned_abs.result ≡ unsigned_abs c.args.wanted = simp to_z-of_z at c.unsigned_abs.ensures.value in
    rw same (nearest_back c.args.rates.now c.args.motion.now c.args.wanted c.unsigned_abs.result c.greatest_back.result c.requires.rates
    (omega (arith, ints)) c.greatest_back.ensures.left c.greatest_back.ensures.bends c.greatest_back.ensures.within c.greatest_back.ensures.greatest)
