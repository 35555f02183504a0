-- A move whose slowed step's way fits heads for its target, and goes on so.
-- for: moves_head_for_their_targets, moves_that_head_away_brake
use Rattle.std.proofs.Common.{◌≡◌, ℕ, ◌+◌, ◌-◌, ◌≤◌, ◌<◌, ℤ, pos, neg_ℤ, ◌+ℤ◌, ◌-ℤ◌, unsigned_abs, max, min, arith, refl, sym, inl, inr}
use Rattle.std.proofs.lemmas.Bool.{cases_lt}
use Rattle.std.proofs.lemmas.Int.{ints}
use Rattle.plc_types.specs.declared.limits.Limits.{Limits}
use Rattle.plc_types.specs.Limits.{AreLimits}
use Rattle.kin_core.specs.Admissible.{IsKept}
use Rattle.kin_core.specs.Toward.{toward_zero, IsTowards}
use Rattle.motion_numbers.specs.Run.{run_of, reach_of}
use Rattle.command_pool.specs.declared.rates.Rates.{Rates}
use Rattle.command_pool.specs.Rates.{AreRates}
use Rattle.trapezoid_plan.specs.MoveStep.{step_ahead_of, move_step_of}
use Rattle.trapezoid_plan.specs.MoveRun.{IsMoveWithin, HeadsFor, HeadsAway, move_taken_of}
use Rattle.trapezoid_plan.proofs.StepsAhead.{MayFollowSize, move_step-slowed}
use Rattle.trapezoid_plan.proofs.MoveSteps.{ahead-closed}
use Rattle.trapezoid_plan.proofs.TakenMoves.{IsUnderWay, LiesAhead, upward, downward, IsBraked, taken-up, taken-down, under-way-next, slowed-taken}
use Rattle.motion_numbers.specs.Laws.{AreWays, AreSearches}
use Rattle.kin_core.specs.Laws.{AreSafeSteps}

-- where a move heads for its target: how far it lies, and that the slowed step's run fits the way
pub record IsHeaded (limits : Limits) (rates : Rates) (target before now : ℤ) : Type 0 where
  pub goes : IsUnderWay limits rates target before now
  pub way : ℕ
  pub speed : ℕ
  pub lies : LiesAhead target before now way speed
  pub fits : run_of (speed - unsigned_abs rates.d) (unsigned_abs rates.d) ≤ way

-- after a cycle it still does, and nearer
pub record StillHeads (limits : Limits) (rates : Rates) (target before now : ℤ) : Type 0 where
  pub towards : IsTowards target now (now +ℤ move_taken_of limits rates target before now)
  pub next : IsHeaded limits rates target now (now +ℤ move_taken_of limits rates target before now)

-- the same, by the direction in which the move heads
headed : (limits : Limits) (rates : Rates) (target before now : ℤ) → IsUnderWay limits rates target before now →
    HeadsFor rates target before now → IsHeaded limits rates target before now
headed limits rates target before now goes (inl heads) = record {
  goes = goes;
  way = unsigned_abs (target -ℤ now);
  speed = unsigned_abs (now -ℤ before);
  lies = upward (omega (arith, ints, heads.way)) (omega (arith, ints, heads.old_step));
  fits = omega (arith, ints, heads.run);
}
headed limits rates target before now goes (inr heads) = record {
  goes = goes;
  way = unsigned_abs (now -ℤ target);
  speed = unsigned_abs (before -ℤ now);
  lies = downward (omega (arith, ints, heads.way)) (omega (arith, ints, heads.old_step));
  fits = omega (arith, ints, heads.run);
}

by-direction : (rates : Rates) (target before now : ℤ) (l w : ℕ) → LiesAhead target before now l w →
    run_of (w - unsigned_abs rates.d) (unsigned_abs rates.d) ≤ l → HeadsFor rates target before now
by-direction rates target before now l w (upward way speed) fits =
    let size : unsigned_abs (now -ℤ before) ≡ w = omega (arith, ints) in
    inl (record { way = omega (arith, ints); old_step = omega (arith, ints); run = rw size (omega (arith, ints)) })
by-direction rates target before now l w (downward way speed) fits =
    let size : unsigned_abs (before -ℤ now) ≡ w = omega (arith, ints) in
    inr (record { way = omega (arith, ints); old_step = omega (arith, ints); run = rw size (omega (arith, ints)) })

module _ (ways : AreWays) where
  open ways use {run_unfold}

  -- after a first step the rest of its run
  run-rest : (u d l : ℕ) → 0 < d → run_of u d ≤ l → run_of (u - d) d ≤ l - u
  run-rest u d l some fits = omega (arith, run_unfold u d some)

module _ (steps : AreSafeSteps) where
  -- a move that heads away brakes
  pub away-brakes : (limits : Limits) (rates : Rates) (target before now : ℤ) → IsUnderWay limits rates target before now →
      HeadsAway target before now → IsBraked (now -ℤ before) (move_taken_of limits rates target before now) rates.d
  away-brakes limits rates target before now goes (inl away) =
      slowed-taken steps limits rates target before now goes
      (sym (move_step-slowed rates (target -ℤ now) (now -ℤ before) _ (λ p q. omega (arith, ints, away.0)) (λ p q. omega (arith, ints, away.1)) refl))
  away-brakes limits rates target before now goes (inr away) =
      slowed-taken steps limits rates target before now goes
      (sym (move_step-slowed rates (target -ℤ now) (now -ℤ before) _ (λ p q. omega (arith, ints, away.1)) (λ p q. omega (arith, ints, away.0)) refl))

module _ (ways : AreWays) (searches : AreSearches) where
  open ways use {fits_below_reach, reach_greatest}

  -- where the slowed step's run fits the way, the step ahead is within the window and its run fits
  heading-step : (rates : Rates) (vmax l w : ℕ) → AreRates rates → unsigned_abs rates.v ≤ vmax → w ≤ vmax →
      run_of (w - unsigned_abs rates.d) (unsigned_abs rates.d) ≤ l →
      MayFollowSize vmax (unsigned_abs rates.a) (unsigned_abs rates.d) l w (step_ahead_of l w rates)
  heading-step rates vmax l w ok fast old fits =
      let some : 0 < unsigned_abs rates.d = omega (arith, ints) in
      let closed : step_ahead_of l w rates ≡ max
      (min (min (unsigned_abs rates.v) (w + unsigned_abs rates.a)) (reach_of l (unsigned_abs rates.d)))
      (w - unsigned_abs rates.d) =
      ahead-closed ways searches rates l w ok in
      let slowed : w - unsigned_abs rates.d ≤ reach_of l (unsigned_abs rates.d) =
      reach_greatest (w - unsigned_abs rates.d) l (unsigned_abs rates.d) some fits in
      record {
        velocity = omega arith;
        deceleration = omega arith;
        acceleration = omega arith;
        run = fits_below_reach (step_ahead_of l w rates) l (unsigned_abs rates.d) some (omega arith);
      }

module _ (ways : AreWays) (steps : AreSafeSteps) where
  open ways use {run_ge, run_zero}

  -- at the target
  rests-there : (limits : Limits) (rates : Rates) (target before now : ℤ) (w : ℕ) →
      IsUnderWay limits rates target before now → (target -ℤ now) ≡ pos 0 → unsigned_abs (now -ℤ before) ≡ w →
      run_of (w - unsigned_abs rates.d) (unsigned_abs rates.d) ≤ 0 → StillHeads limits rates target before now
  rests-there limits rates target before now w goes there speed fits =
      let rates_ok : AreRates rates = goes.rates_ok in
      let falls : 0 < unsigned_abs rates.d = omega (arith, ints) in
      let slow : w ≤ unsigned_abs rates.d = omega (arith, run_ge (w - unsigned_abs rates.d) (unsigned_abs rates.d) falls) in
      let slows : move_step_of (target -ℤ now) (now -ℤ before) rates ≡ toward_zero (now -ℤ before) rates.d =
      sym (move_step-slowed rates (target -ℤ now) (now -ℤ before) _ (λ p q. omega (arith, ints)) (λ p q. omega (arith, ints)) refl) in
      let parts = slowed-taken steps limits rates target before now goes slows in
      let rest : move_taken_of limits rates target before now ≡ pos 0 =
      omega (arith, ints, parts.slower) in
      record {
        towards = inl (omega (arith, ints), omega (arith, ints));
        next = record {
          goes = under-way-next steps limits rates target before now goes;
          way = 0;
          speed = 0;
          lies = upward (omega (arith, ints)) (omega (arith, ints));
          fits = run-rest ways 0 (unsigned_abs rates.d) 0 falls (omega (arith, run_zero (unsigned_abs rates.d)));
        };
      }

module _ (ways : AreWays) (searches : AreSearches) (steps : AreSafeSteps) where
  open ways use {run_ge}

  -- on the way
  heads-on : (limits : Limits) (rates : Rates) (target before now : ℤ) (l w : ℕ) →
      IsUnderWay limits rates target before now → LiesAhead target before now l w → 0 < l →
      run_of (w - unsigned_abs rates.d) (unsigned_abs rates.d) ≤ l → StillHeads limits rates target before now
  heads-on limits rates target before now l w goes (upward way speed) some fits =
      let limits_ok : AreLimits limits = goes.limits_ok in
      let rates_ok : AreRates rates = goes.rates_ok in
      let within : IsMoveWithin limits rates target = goes.within in
      let kept : IsKept limits before now = goes.kept in
      let falls : 0 < unsigned_abs rates.d = omega (arith, ints) in
      let heads : MayFollowSize (unsigned_abs limits.vmax) (unsigned_abs rates.a) (unsigned_abs rates.d) l w (step_ahead_of l w rates) =
      heading-step ways searches rates (unsigned_abs limits.vmax) l w rates_ok (omega (arith, ints, within.velocity)) (omega (arith, ints, kept.speed)) fits in
      let taken : move_taken_of limits rates target before now ≡ pos (step_ahead_of l w rates) =
      taken-up steps limits rates target before now (unsigned_abs limits.vmax) l w goes (omega arith) way speed some heads in
      let short : step_ahead_of l w rates ≤ l = omega (arith, run_ge (step_ahead_of l w rates) (unsigned_abs rates.d) falls, heads.run) in
      record {
        towards = inl (omega (arith, ints), omega (arith, ints));
        next = record {
          goes = under-way-next steps limits rates target before now goes;
          way = l - step_ahead_of l w rates;
          speed = step_ahead_of l w rates;
          lies = upward (omega (arith, ints)) (omega (arith, ints));
          fits = run-rest ways (step_ahead_of l w rates) (unsigned_abs rates.d) l falls heads.run;
        };
      }
  heads-on limits rates target before now l w goes (downward way speed) some fits =
      let limits_ok : AreLimits limits = goes.limits_ok in
      let rates_ok : AreRates rates = goes.rates_ok in
      let within : IsMoveWithin limits rates target = goes.within in
      let kept : IsKept limits before now = goes.kept in
      let falls : 0 < unsigned_abs rates.d = omega (arith, ints) in
      let heads : MayFollowSize (unsigned_abs limits.vmax) (unsigned_abs rates.a) (unsigned_abs rates.d) l w (step_ahead_of l w rates) =
      heading-step ways searches rates (unsigned_abs limits.vmax) l w rates_ok (omega (arith, ints, within.velocity)) (omega (arith, ints, kept.speed)) fits in
      let taken : move_taken_of limits rates target before now ≡ neg_ℤ (pos (step_ahead_of l w rates)) =
      taken-down steps limits rates target before now (unsigned_abs limits.vmax) l w goes (omega arith) way speed some heads in
      let short : step_ahead_of l w rates ≤ l = omega (arith, run_ge (step_ahead_of l w rates) (unsigned_abs rates.d) falls, heads.run) in
      record {
        towards = inr (omega (arith, ints), omega (arith, ints));
        next = record {
          goes = under-way-next steps limits rates target before now goes;
          way = l - step_ahead_of l w rates;
          speed = step_ahead_of l w rates;
          lies = downward (omega (arith, ints)) (omega (arith, ints));
          fits = run-rest ways (step_ahead_of l w rates) (unsigned_abs rates.d) l falls heads.run;
        };
      }

  pub still-heads : (limits : Limits) (rates : Rates) (target before now : ℤ) (l w : ℕ) →
      IsUnderWay limits rates target before now → LiesAhead target before now l w →
      run_of (w - unsigned_abs rates.d) (unsigned_abs rates.d) ≤ l → StillHeads limits rates target before now
  still-heads limits rates target before now l w goes (upward way speed) fits =
      elim (cases_lt 0 l) [
        | inl some ↦ heads-on limits rates target before now l w goes (upward way speed) some fits
        | inr none ↦ let here : l ≡ 0 = omega arith in
            rests-there ways steps limits rates target before now w goes (omega (arith, ints)) (omega (arith, ints)) (omega arith)
      ]
  still-heads limits rates target before now l w goes (downward way speed) fits =
      elim (cases_lt 0 l) [
        | inl some ↦ heads-on limits rates target before now l w goes (downward way speed) some fits
        | inr none ↦ let here : l ≡ 0 = omega arith in
            rests-there ways steps limits rates target before now w goes (omega (arith, ints)) (omega (arith, ints)) (omega arith)
      ]

  still : (limits : Limits) (rates : Rates) (target before now : ℤ) → IsUnderWay limits rates target before now →
      HeadsFor rates target before now → StillHeads limits rates target before now
  still limits rates target before now goes heads =
      let is : IsHeaded limits rates target before now = headed limits rates target before now goes heads in
      still-heads limits rates target before now is.way is.speed goes is.lies is.fits

  -- a move that heads for its target goes toward it
  pub goes-toward : (limits : Limits) (rates : Rates) (target before now : ℤ) → IsUnderWay limits rates target before now →
      HeadsFor rates target before now → IsTowards target now (now +ℤ move_taken_of limits rates target before now)
  goes-toward limits rates target before now goes heads = (still limits rates target before now goes heads).towards

  -- and heads for it after the step
  pub heads-next : (limits : Limits) (rates : Rates) (target before now : ℤ) → IsUnderWay limits rates target before now →
      HeadsFor rates target before now → HeadsFor rates target now (now +ℤ move_taken_of limits rates target before now)
  heads-next limits rates target before now goes heads =
      let next = (still limits rates target before now goes heads).next in
      by-direction rates target now _ next.way next.speed next.lies next.fits
