-- Halts come to rest in time.
-- for: halts_come_to_rest_in_time
use Rattle.std.proofs.Common.{◌≡◌, ℕ, zero, suc, ◌+◌, ◌-◌, ◌*◌, ◌/◌, ◌%◌, ◌≤◌, ◌<◌, ℤ, pos, ◌≤ℤ◌, ◌-ℤ◌, ◌+ℤ◌, unsigned_abs, arith, inl, inr}
use Rattle.std.proofs.lemmas.Int.{ints}
use Rattle.std.proofs.lemmas.Nat.{div-add-mod', mod_below}
use Rattle.plc_types.specs.declared.limits.Limits.{Limits}
use Rattle.plc_types.specs.Limits.{AreLimits}
use Rattle.kin_core.specs.Admissible.{IsKept}
use Rattle.std.proofs.lemmas.Bool.{cases_lt}
use Rattle.trapezoid_plan.specs.MoveRun.{halt_taken_of, IsAtRestWithin}
use Rattle.kin_core.specs.Laws.{AreSafeSteps}

module _ (steps : AreSafeSteps) where
  open steps use {braking.{slower as braking_is_slower}, taken.{kept as taken_step_keeps}}

  -- the taken step of a halt is at most the old one slowed
  halt-cut : (limits : Limits) (d before now : ℤ) → AreLimits limits → pos 1 ≤ℤ d → d ≤ℤ limits.dmax →
      IsKept limits before now →
      unsigned_abs (halt_taken_of limits d before now) ≤ unsigned_abs (now -ℤ before) - unsigned_abs d
  unfolding halt_taken_of
  halt-cut limits d before now ok some gentle kept = braking_is_slower limits before now d ok kept (omega (arith, ints)) gentle

  halt-keeps : (limits : Limits) (d before now : ℤ) → AreLimits limits → IsKept limits before now →
      IsKept limits now (now +ℤ halt_taken_of limits d before now)
  unfolding halt_taken_of
  halt-keeps limits d before now ok kept = taken_step_keeps limits before now _ ok kept

  -- a step below m times d comes to rest within m cycles
  rests : (m : ℕ) (limits : Limits) (d before now : ℤ) → AreLimits limits → pos 1 ≤ℤ d → d ≤ℤ limits.dmax →
      IsKept limits before now → unsigned_abs (now -ℤ before) < m * unsigned_abs d →
      IsAtRestWithin m limits d before now
  rests zero limits d before now ok some gentle kept short = absurd (omega arith)
  rests (suc m) limits d before now ok some gentle kept short =
      let cut : unsigned_abs (halt_taken_of limits d before now) ≤ unsigned_abs (now -ℤ before) - unsigned_abs d =
      halt-cut limits d before now ok some gentle kept in
      elim (cases_lt (unsigned_abs (now -ℤ before)) (unsigned_abs d)) [
        | inl last ↦ inl (omega (arith, ints))
        | inr more ↦ inr (rests m limits d now (now +ℤ halt_taken_of limits d before now) ok some gentle
            (halt-keeps limits d before now ok kept)
            (slower (now -ℤ before) (halt_taken_of limits d before now)
            (now +ℤ halt_taken_of limits d before now -ℤ now) m (unsigned_abs d)
            (omega (arith, ints)) cut short more))
      ]
    where
      slower : (v t z : ℤ) (m d : ℕ) → z ≡ t → unsigned_abs t ≤ unsigned_abs v - d →
          unsigned_abs v < suc m * d → d ≤ unsigned_abs v → unsigned_abs z < m * d
      slower v t z m d is less short more = omega (arith, ints)

  pub halt-rests : (limits : Limits) (d before now : ℤ) → AreLimits limits → pos 1 ≤ℤ d → d ≤ℤ limits.dmax →
      IsKept limits before now →
      IsAtRestWithin (unsigned_abs (now -ℤ before) / unsigned_abs d + 1) limits d before now
  halt-rests limits d before now ok some gentle kept =
      let parts : unsigned_abs (now -ℤ before) / unsigned_abs d * unsigned_abs d + unsigned_abs
      (now -ℤ before) % unsigned_abs d ≡ unsigned_abs (now -ℤ before) =
      div-add-mod' (unsigned_abs (now -ℤ before)) (unsigned_abs d) in
      let below : unsigned_abs (now -ℤ before) % unsigned_abs d < unsigned_abs d =
      mod_below (unsigned_abs (now -ℤ before)) (unsigned_abs d) (omega (arith, ints)) in
      rests (unsigned_abs (now -ℤ before) / unsigned_abs d + 1) limits d before now ok some gentle kept
      (omega arith)
