-- Each bound by itself, over whole numbers.
use Rattle.std.proofs.Common.{◌≡◌, ◌↔◌, ℤ, pos, neg_ℤ, ◌+ℤ◌, ◌-ℤ◌, ◌≤ℤ◌, unsigned_abs, arith}
use Rattle.std.specs.Int.{int_min, int_max}
use Rattle.std.proofs.lemmas.Int.{ints, clamps}
use Rattle.kin_core.proofs.laws.steps_follow_by_direction.Goals as goal

-- the bounds from above and below, counted the other way round
turned : (v u a d : ℤ) → pos 1 ≤ℤ a → a ≤ℤ d → v ≤ℤ pos 0 →
    ((int_max (v -ℤ d) (int_min (v -ℤ a) (pos 0)) ≤ℤ u) × (u ≤ℤ int_min (v +ℤ d) (int_max (v +ℤ a) (pos 0)))) ↔
    ((int_max (neg_ℤ v -ℤ d) (int_min (pos 0) (neg_ℤ v -ℤ a)) ≤ℤ neg_ℤ u) × (neg_ℤ u ≤ℤ (neg_ℤ v +ℤ a)))
turned v u a d some less down = (
  λ h. (omega (arith, ints, clamps, h.0, h.1), omega (arith, ints, clamps, h.0, h.1)),
  λ h. (omega (arith, ints, clamps, h.0, h.1), omega (arith, ints, clamps, h.0, h.1)),
)

-- with one bound for both
level : (v u a d : ℤ) → pos 1 ≤ℤ a → d ≡ a →
    ((int_max (v -ℤ d) (int_min (v -ℤ a) (pos 0)) ≤ℤ u) × (u ≤ℤ int_min (v +ℤ d) (int_max (v +ℤ a) (pos 0)))) ↔
    (pos (unsigned_abs (u -ℤ v)) ≤ℤ a)
level v u a d some same = (
  λ h. omega (arith, ints, clamps, h.0, h.1),
  λ h. (omega (arith, ints, clamps), omega (arith, ints, clamps)),
)

pub returns-clause-backward : goal.returns-clause-backward
returns-clause-backward c = λ limits old new ok down. turned old new limits.amax limits.dmax ok.amax_positive ok.amax_within_dmax down

pub returns-clause-equal_limits : goal.returns-clause-equal_limits
returns-clause-equal_limits c = λ limits old new ok same. level old new limits.amax limits.dmax ok.amax_positive same
