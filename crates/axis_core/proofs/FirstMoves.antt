-- A first move whose second one waits to be blended always ends.
-- for: first_moves_end
use Rattle.std.proofs.Common.{◌≡◌, ℕ, zero, suc, ◌+◌, ◌-◌, ◌/◌, ◌≤◌, max, false, ℤ, pos, ◌+ℤ◌, ◌-ℤ◌, ◌<ℤ◌, ◌≤ℤ◌, unsigned_abs, arith, ◌∙◌, inl, inr}
use Rattle.std.proofs.lemmas.Bool.{cases_Bool, cond-true, cond-false, false_from_ne_true, both_ways}
use Rattle.std.proofs.lemmas.Int.{ints, by_lt_z}
use Rattle.plc_types.specs.declared.limits.Limits.{Limits}
use Rattle.kin_core.specs.Toward.{IsTowards}
use Rattle.motion_numbers.specs.Laws.{AreWays}
use Rattle.command_pool.specs.declared.rates.Rates.{Rates}
use Rattle.command_pool.specs.Rates.{AreRates}
use Rattle.trapezoid_plan.specs.CyclesBound.{cycles_bound_of}
use Rattle.trapezoid_plan.specs.MoveRun.{IsHeading, HeadsFor, IsDoneWithin, move_taken_of}
use Rattle.blend_plan.specs.Blends.{BlendApplies, blend_applies}
use Rattle.blend_plan.specs.BlendRun.{HasBlend, SettlesWithin, CrossesWithin, blend_taken_of, has_crossed}
use Rattle.axis_core.specs.FirstMove.{FirstEnds, FirstEndsWithin, crossing_bound_of, first_bound_of, first_taken_of}
use Rattle.axis_core.specs.BlendGiven.{IsUnderWay, AreUnderWay, AreMoves, AreBlends}

-- after some number of cycles the first move ends
pub record Ends (limits : Limits) (target1 target2 before now : ℤ) (first second : Rates) (vb : ℤ) : Type 0 where
  pub cycles : ℕ
  pub ends : FirstEndsWithin cycles limits target1 target2 before now first second vb

ends-here : (limits : Limits) (target1 target2 before now : ℤ) (first second : Rates) (vb : ℤ) →
    FirstEnds limits target1 target2 before now first second vb → Ends limits target1 target2 before now first second vb
ends-here limits target1 target2 before now first second vb here = record { cycles = suc zero; ends = inl here }

ends-next : (limits : Limits) (target1 target2 before now : ℤ) (first second : Rates) (vb : ℤ) →
    Ends limits target1 target2 now (now +ℤ first_taken_of limits target1 target2 before now first second vb) first second vb →
    Ends limits target1 target2 before now first second vb
ends-next limits target1 target2 before now first second vb next = record { cycles = suc next.cycles; ends = inr next.ends }

-- the first move by itself
first-of : (limits : Limits) (target1 target2 before now : ℤ) (first second : Rates) (vb : ℤ) →
    AreUnderWay limits target1 target2 before now first second vb → IsUnderWay limits first target1 before now
first-of limits target1 target2 before now first second vb go = record {
  limits_ok = go.limits_ok;
  rates_ok = go.first_ok;
  within = record {
    above = go.within.first_above;
    below = go.within.first_below;
    velocity = go.within.velocity;
    acceleration = go.within.acceleration;
    deceleration = go.within.first_deceleration;
  };
  kept = go.kept;
}

-- a blend that has a step applies
applies-of : (target1 target2 before now : ℤ) (first second : Rates) (vb : ℤ) →
    HasBlend target1 target2 before now first second vb → BlendApplies target1 target2 before now
applies-of target1 target2 before now first second vb (inl has) = inl has.ahead
applies-of target1 target2 before now first second vb (inr has) = inr has.ahead

-- the first move on its way back from after the first target
data ComesBack (rates : Rates) (target1 target2 before now : ℤ) : Type 0 where
  from_above : target1 <ℤ target2 → target1 <ℤ before → IsHeading rates (now -ℤ target1) (before -ℤ now) →
      ComesBack rates target1 target2 before now
  from_below : target2 <ℤ target1 → before <ℤ target1 → IsHeading rates (target1 -ℤ now) (now -ℤ before) →
      ComesBack rates target1 target2 before now

-- no blend applies there
back-off : (rates : Rates) (target1 target2 before now : ℤ) → ComesBack rates target1 target2 before now →
    BlendApplies target1 target2 before now → ⊥
back-off rates target1 target2 before now (from_above order past heads) (inl ahead) =
    omega (arith, ints, ahead.first, ahead.old_step, heads.way)
back-off rates target1 target2 before now (from_above order past heads) (inr ahead) = omega (arith, ints, ahead.second)
back-off rates target1 target2 before now (from_below order past heads) (inl ahead) = omega (arith, ints, ahead.second)
back-off rates target1 target2 before now (from_below order past heads) (inr ahead) =
    omega (arith, ints, ahead.first, ahead.old_step, heads.way)

-- after a cycle it stands at the target, or is still on its way back
data BackNext (rates : Rates) (target1 target2 before now taken : ℤ) : Type 0 where
  there : now ≡ target1 → taken ≡ pos 0 → BackNext rates target1 target2 before now taken
  on : ComesBack rates target1 target2 now (now +ℤ taken) → BackNext rates target1 target2 before now taken

-- at the target the step is 0
rests-there : (target now taken : ℤ) → now ≡ target → IsTowards target now (now +ℤ taken) → taken ≡ pos 0
rests-there target now taken at (inl towards) = omega (arith, ints, towards.0, towards.1)
rests-there target now taken at (inr towards) = omega (arith, ints, towards.0, towards.1)

above-next : (rates : Rates) (target1 target2 before now taken : ℤ) → target1 <ℤ target2 → target1 <ℤ now →
    IsTowards target1 now (now +ℤ taken) → HeadsFor rates target1 now (now +ℤ taken) → BackNext rates target1 target2 before now taken
above-next rates target1 target2 before now taken order some (inl towards) heads = absurd (omega (arith, ints, towards.0, towards.1))
above-next rates target1 target2 before now taken order some (inr towards) (inl heads) = absurd (omega (arith, ints, towards.0, heads.way, heads.old_step))
above-next rates target1 target2 before now taken order some (inr towards) (inr heads) = on (from_above order some heads)

below-next : (rates : Rates) (target1 target2 before now taken : ℤ) → target2 <ℤ target1 → now <ℤ target1 →
    IsTowards target1 now (now +ℤ taken) → HeadsFor rates target1 now (now +ℤ taken) → BackNext rates target1 target2 before now taken
below-next rates target1 target2 before now taken order some (inr towards) heads = absurd (omega (arith, ints, towards.0, towards.1))
below-next rates target1 target2 before now taken order some (inl towards) (inr heads) = absurd (omega (arith, ints, towards.0, heads.way, heads.old_step))
below-next rates target1 target2 before now taken order some (inl towards) (inl heads) = on (from_below order some heads)

-- the first move beyond the first target, still going on
data Overshot (target1 target2 before now : ℤ) : Type 0 where
  above : target1 <ℤ target2 → target1 <ℤ now → before ≤ℤ now → Overshot target1 target2 before now
  below : target2 <ℤ target1 → now <ℤ target1 → now ≤ℤ before → Overshot target1 target2 before now

overshot-off : (target1 target2 before now : ℤ) → Overshot target1 target2 before now →
    BlendApplies target1 target2 before now → ⊥
overshot-off target1 target2 before now (above order past forward) (inl ahead) = omega (arith, ints, ahead.first)
overshot-off target1 target2 before now (above order past forward) (inr ahead) = omega (arith, ints, ahead.second)
overshot-off target1 target2 before now (below order past forward) (inl ahead) = omega (arith, ints, ahead.second)
overshot-off target1 target2 before now (below order past forward) (inr ahead) = omega (arith, ints, ahead.first)

-- it brakes, still beyond the target, or comes back from rest
data OvershotNext (rates : Rates) (target1 target2 before now taken : ℤ) : Type 0 where
  turns : ComesBack rates target1 target2 before now → OvershotNext rates target1 target2 before now taken
  slows : Overshot target1 target2 now (now +ℤ taken) → OvershotNext rates target1 target2 before now taken

module _ (ways : AreWays) where
  open ways use {run_zero}

  -- an axis that stands heads for any target
  still-heading : (rates : Rates) (l w : ℤ) → pos 0 ≤ℤ l → w ≡ pos 0 → IsHeading rates l w
  still-heading rates l w way still =
      let none : unsigned_abs w - unsigned_abs rates.d ≡ 0 = omega (arith, ints) in
      record { way = way; old_step = omega (arith, ints); run = rw (none, run_zero (unsigned_abs rates.d)) way }

module _ (blends : AreBlends) where
  -- the taken step is that of the blend or that of the move
  taken-applying : (limits : Limits) (target1 target2 before now : ℤ) (first second : Rates) (vb : ℤ) →
      BlendApplies target1 target2 before now →
      first_taken_of limits target1 target2 before now first second vb ≡ blend_taken_of limits target1 target2 before now first second vb
  unfolding first_taken_of
  taken-applying limits target1 target2 before now first second vb applies =
      cond-true _ _ _ ((blends.by_test target1 target2 before now).1 applies)

  taken-off : (limits : Limits) (target1 target2 before now : ℤ) (first second : Rates) (vb : ℤ) →
      (BlendApplies target1 target2 before now → ⊥) →
      first_taken_of limits target1 target2 before now first second vb ≡ move_taken_of limits first target1 before now
  unfolding first_taken_of
  taken-off limits target1 target2 before now first second vb none =
      cond-false _ _ _ (false_from_ne_true _ (λ holds. none ((blends.by_test target1 target2 before now).0 holds)))

  -- a test that fails is of a blend that doesn't apply
  off-by-test : (target1 target2 before now : ℤ) → blend_applies target1 target2 before now ≡ false → BlendApplies target1 target2 before now → ⊥
  off-by-test target1 target2 before now fails applies = both_ways _ fails ((blends.by_test target1 target2 before now).1 applies)

  -- a blend that crosses within some cycles ends the first move
  cross-ends : (n : ℕ) (limits : Limits) (target1 target2 before now : ℤ) (first second : Rates) (vb : ℤ) →
      AreUnderWay limits target1 target2 before now first second vb → HasBlend target1 target2 before now first second vb →
      CrossesWithin n limits target1 target2 before now first second vb →
      FirstEndsWithin n limits target1 target2 before now first second vb
  cross-ends zero limits target1 target2 before now first second vb go has within = absurd within
  cross-ends (suc n) limits target1 target2 before now first second vb go has (inl crossed) =
      let applies : BlendApplies target1 target2 before now = applies-of target1 target2 before now first second vb has in
      inl (inl (applies, rw (taken-applying limits target1 target2 before now first second vb applies) crossed))
  cross-ends (suc n) limits target1 target2 before now first second vb go has (inr more) =
      let applies : BlendApplies target1 target2 before now = applies-of target1 target2 before now first second vb has in
      let taken : first_taken_of limits target1 target2 before now first second vb ≡ blend_taken_of limits target1 target2 before now first second vb =
      taken-applying limits target1 target2 before now first second vb applies in
      elim (cases_Bool (has_crossed target1 target2 now second vb (blend_taken_of limits target1 target2 before now first second vb))) [
        | inl crossed ↦ inl (inl (applies, rw taken crossed))
        | inr goes ↦ inr (rw taken (cross-ends n limits target1 target2 now _ first second vb
            (blends.kept limits target1 target2 before now first second vb go)
            (blends.persists limits target1 target2 before now first second vb go has goes) more))
      ]

  -- where no blend applies after a step that doesn't turn back, the first target is after
  passed : (limits : Limits) (target1 target2 before now : ℤ) (first second : Rates) (vb : ℤ) →
      AreUnderWay limits target1 target2 before now first second vb → BlendApplies target1 target2 before now →
      (BlendApplies target1 target2 now (now +ℤ blend_taken_of limits target1 target2 before now first second vb) → ⊥) →
      Overshot target1 target2 now (now +ℤ blend_taken_of limits target1 target2 before now first second vb)
  passed limits target1 target2 before now first second vb go (inl ahead) none =
      let forward : pos 0 ≤ℤ blend_taken_of limits target1 target2 before now first second vb =
      blends.upward limits target1 target2 before now first second vb go ahead in
      by_lt_z target1 (now +ℤ blend_taken_of limits target1 target2 before now first second vb)
      (λ past. above (omega (arith, ints, ahead.second)) past (omega (arith, ints)))
      (λ before_it. absurd (none (inl (record {
        first = omega (arith, ints);
        second = omega (arith, ints, ahead.second);
        old_step = omega (arith, ints);
      }))))
  passed limits target1 target2 before now first second vb go (inr ahead) none =
      let forward : blend_taken_of limits target1 target2 before now first second vb ≤ℤ pos 0 =
      blends.downward limits target1 target2 before now first second vb go ahead in
      by_lt_z (now +ℤ blend_taken_of limits target1 target2 before now first second vb) target1
      (λ past. below (omega (arith, ints, ahead.second)) past (omega (arith, ints)))
      (λ before_it. absurd (none (inr (record {
        first = omega (arith, ints);
        second = omega (arith, ints, ahead.second);
        old_step = omega (arith, ints);
      }))))

  -- a blend that has a step ends the first move within its bound
  pub blend-ends : (limits : Limits) (target1 target2 before now : ℤ) (first second : Rates) (vb : ℤ) →
      AreUnderWay limits target1 target2 before now first second vb → HasBlend target1 target2 before now first second vb →
      FirstEndsWithin (crossing_bound_of target1 now) limits target1 target2 before now first second vb
  unfolding crossing_bound_of
  blend-ends limits target1 target2 before now first second vb go has =
      cross-ends _ limits target1 target2 before now first second vb go has (blends.crosses limits target1 target2 before now first second vb go has)

  -- while a blend applies, its first target comes no further away
  comes-nearer : (limits : Limits) (target1 target2 before now : ℤ) (first second : Rates) (vb : ℤ) →
      AreUnderWay limits target1 target2 before now first second vb → BlendApplies target1 target2 before now →
      BlendApplies target1 target2 now (now +ℤ blend_taken_of limits target1 target2 before now first second vb) →
      crossing_bound_of target1 (now +ℤ blend_taken_of limits target1 target2 before now first second vb) ≤ crossing_bound_of target1 now
  unfolding crossing_bound_of
  comes-nearer limits target1 target2 before now first second vb go (inl ahead) (inl next) =
      omega (arith, ints, ahead.first, next.first, blends.upward limits target1 target2 before now first second vb go ahead)
  comes-nearer limits target1 target2 before now first second vb go (inl ahead) (inr next) = absurd (omega (arith, ints, ahead.second, next.second))
  comes-nearer limits target1 target2 before now first second vb go (inr ahead) (inl next) = absurd (omega (arith, ints, ahead.second, next.second))
  comes-nearer limits target1 target2 before now first second vb go (inr ahead) (inr next) =
      omega (arith, ints, ahead.first, next.first, blends.downward limits target1 target2 before now first second vb go ahead)

-- what ends within some cycles ends within more
ends-sooner : (m n : ℕ) (limits : Limits) (target1 target2 before now : ℤ) (first second : Rates) (vb : ℤ) → m ≤ n →
    FirstEndsWithin m limits target1 target2 before now first second vb → FirstEndsWithin n limits target1 target2 before now first second vb
ends-sooner zero n limits target1 target2 before now first second vb l ends = absurd ends
ends-sooner (suc m) zero limits target1 target2 before now first second vb l ends = absurd (omega arith)
ends-sooner (suc m) (suc n) limits target1 target2 before now first second vb l (inl here) = inl here
ends-sooner (suc m) (suc n) limits target1 target2 before now first second vb l (inr more) =
    inr (ends-sooner m n limits target1 target2 now _ first second vb (omega arith) more)

-- a step that leads past the first target leads at most itself past it
past-short : (target1 target2 before now next : ℤ) → BlendApplies target1 target2 before now → Overshot target1 target2 now next →
    unsigned_abs (target1 -ℤ next) ≤ unsigned_abs (next -ℤ now)
past-short target1 target2 before now next (inl ahead) (above order past forward) = omega (arith, ints, ahead.first)
past-short target1 target2 before now next (inl ahead) (below order past forward) = absurd (omega (arith, ints, ahead.second))
past-short target1 target2 before now next (inr ahead) (above order past forward) = absurd (omega (arith, ints, ahead.second))
past-short target1 target2 before now next (inr ahead) (below order past forward) = omega (arith, ints, ahead.first)

module _ (moves : AreMoves) where
  -- the way back from there takes no more cycles than from as far as the old step
  back-in-time : (target1 target2 before now : ℤ) (first : Rates) (next : ℤ) → AreRates first → BlendApplies target1 target2 before now →
      Overshot target1 target2 now next → unsigned_abs (next -ℤ now) ≤ unsigned_abs (now -ℤ before) →
      cycles_bound_of (target1 -ℤ next) (next -ℤ now) first ≤ cycles_bound_of (now -ℤ before) (now -ℤ before) first
  back-in-time target1 target2 before now first next ok applies past slower =
      let short = past-short target1 target2 before now next applies past in
      moves.grows (target1 -ℤ next) (now -ℤ before) (next -ℤ now) (now -ℤ before) first ok (omega arith) slower

  -- nor does it from a lesser step
  slower-bound : (before now next : ℤ) (first : Rates) → AreRates first → unsigned_abs (next -ℤ now) ≤ unsigned_abs (now -ℤ before) →
      cycles_bound_of (next -ℤ now) (next -ℤ now) first ≤ cycles_bound_of (now -ℤ before) (now -ℤ before) first
  slower-bound before now next first ok slower = moves.grows (next -ℤ now) (now -ℤ before) (next -ℤ now) (now -ℤ before) first ok slower slower

module _ (ways : AreWays) (moves : AreMoves) (blends : AreBlends) where
  back-next : (limits : Limits) (rates : Rates) (target1 target2 before now : ℤ) →
      IsUnderWay limits rates target1 before now → ComesBack rates target1 target2 before now →
      BackNext rates target1 target2 before now (move_taken_of limits rates target1 before now)
  back-next limits rates target1 target2 before now goes (from_above order past heads) =
      let towards = moves.heading.toward limits rates target1 before now goes (inr heads) in
      by_lt_z target1 now
      (λ some. above-next rates target1 target2 before now _ order some towards (moves.heading.heads limits rates target1 before now goes (inr heads)))
      (λ none. let at : now ≡ target1 = omega (arith, ints, heads.way) in there at (rests-there target1 now _ at towards))
  back-next limits rates target1 target2 before now goes (from_below order past heads) =
      let towards = moves.heading.toward limits rates target1 before now goes (inl heads) in
      by_lt_z now target1
      (λ some. below-next rates target1 target2 before now _ order some towards (moves.heading.heads limits rates target1 before now goes (inl heads)))
      (λ none. let at : now ≡ target1 = omega (arith, ints, heads.way) in there at (rests-there target1 now _ at towards))

  -- a move that comes back ends at its target
  back-ends : (m : ℕ) (limits : Limits) (target1 target2 before now : ℤ) (first second : Rates) (vb : ℤ) →
      IsUnderWay limits first target1 before now → ComesBack first target1 target2 before now →
      IsDoneWithin m limits first target1 before now →
      FirstEndsWithin m limits target1 target2 before now first second vb
  back-ends zero limits target1 target2 before now first second vb goes back done = absurd done
  back-ends (suc m) limits target1 target2 before now first second vb goes back (inl done) =
      inl (inr (done.0, taken-off blends limits target1 target2 before now first second vb (back-off first target1 target2 before now back) ∙ done.1))
  back-ends (suc m) limits target1 target2 before now first second vb goes back (inr more) =
      let taken : first_taken_of limits target1 target2 before now first second vb ≡ move_taken_of limits first target1 before now =
      taken-off blends limits target1 target2 before now first second vb (back-off first target1 target2 before now back) in
      elim (back-next limits first target1 target2 before now goes back) [
        | there at rest ↦ inl (inr (at, taken ∙ rest))
        | on next ↦ inr (rw taken (back-ends m limits target1 target2 now _ first second vb
            (moves.heading.kept limits first target1 before now goes) next more))
      ]

  overshot-next : (limits : Limits) (rates : Rates) (target1 target2 before now : ℤ) →
      IsUnderWay limits rates target1 before now → Overshot target1 target2 before now →
      OvershotNext rates target1 target2 before now (move_taken_of limits rates target1 before now)
  overshot-next limits rates target1 target2 before now goes (above order past forward) =
      by_lt_z before now
      (λ moving.
      let ahead : pos 0 ≤ℤ move_taken_of limits rates target1 before now =
      moves.forward limits rates target1 before now goes (inl (omega (arith, ints), moving)) forward in
      slows (above order (omega (arith, ints)) (omega (arith, ints))))
      (λ still. turns (from_above order (omega (arith, ints)) (still-heading ways rates _ _ (omega (arith, ints)) (omega (arith, ints)))))
  overshot-next limits rates target1 target2 before now goes (below order past forward) =
      by_lt_z now before
      (λ moving.
      let ahead : move_taken_of limits rates target1 before now ≤ℤ pos 0 =
      moves.backward limits rates target1 before now goes (inr (omega (arith, ints), moving)) forward in
      slows (below order (omega (arith, ints)) (omega (arith, ints))))
      (λ still. turns (from_below order (omega (arith, ints)) (still-heading ways rates _ _ (omega (arith, ints)) (omega (arith, ints)))))

  overshot-ends : (m : ℕ) (limits : Limits) (target1 target2 before now : ℤ) (first second : Rates) (vb : ℤ) →
      IsUnderWay limits first target1 before now → Overshot target1 target2 before now →
      IsDoneWithin m limits first target1 before now →
      FirstEndsWithin m limits target1 target2 before now first second vb
  overshot-ends zero limits target1 target2 before now first second vb goes past done = absurd done
  overshot-ends (suc m) limits target1 target2 before now first second vb goes past (inl done) =
      inl (inr (done.0, taken-off blends limits target1 target2 before now first second vb (overshot-off target1 target2 before now past) ∙ done.1))
  overshot-ends (suc m) limits target1 target2 before now first second vb goes past (inr more) =
      let taken : first_taken_of limits target1 target2 before now first second vb ≡ move_taken_of limits first target1 before now =
      taken-off blends limits target1 target2 before now first second vb (overshot-off target1 target2 before now past) in
      elim (overshot-next limits first target1 target2 before now goes past) [
        | turns back ↦ back-ends (suc m) limits target1 target2 before now first second vb goes back (inr more)
        | slows next ↦ inr (rw taken (overshot-ends m limits target1 target2 now _ first second vb
            (moves.heading.kept limits first target1 before now goes) next more))
      ]

  arrives : (limits : Limits) (target1 target2 before now : ℤ) (first second : Rates) (vb : ℤ) →
      AreUnderWay limits target1 target2 before now first second vb →
      IsDoneWithin (cycles_bound_of (target1 -ℤ now) (now -ℤ before) first) limits first target1 before now
  arrives limits target1 target2 before now first second vb go =
      moves.arrives limits first target1 before now (first-of limits target1 target2 before now first second vb go) go.room

  -- while a blend applies, until it has a step or doesn't apply any more
  applying-ends : (n : ℕ) (limits : Limits) (target1 target2 before now : ℤ) (first second : Rates) (vb : ℤ) →
      AreUnderWay limits target1 target2 before now first second vb → BlendApplies target1 target2 before now →
      SettlesWithin n limits target1 target2 before now first second vb → Ends limits target1 target2 before now first second vb
  applying-ends zero limits target1 target2 before now first second vb go applies settles = absurd settles
  applying-ends (suc n) limits target1 target2 before now first second vb go applies (inl (inl has)) = record {
    cycles = _;
    ends = cross-ends blends _ limits target1 target2 before now first second vb go has (blends.crosses limits target1 target2 before now first second vb go has);
  }
  applying-ends (suc n) limits target1 target2 before now first second vb go applies (inl (inr none)) = absurd (none applies)
  applying-ends (suc n) limits target1 target2 before now first second vb go applies (inr more) =
      let taken : first_taken_of limits target1 target2 before now first second vb ≡ blend_taken_of limits target1 target2 before now first second vb =
      taken-applying blends limits target1 target2 before now first second vb applies in
      let next : AreUnderWay limits target1 target2 now (now +ℤ blend_taken_of limits target1 target2 before now first second vb) first second vb =
      blends.kept limits target1 target2 before now first second vb go in
      ends-next limits target1 target2 before now first second vb (rw taken
      (elim (cases_Bool (blend_applies target1 target2 now (now +ℤ blend_taken_of limits target1 target2 before now first second vb))) [
        | inl holds ↦ applying-ends n limits target1 target2 now _ first second vb next ((blends.by_test target1 target2 now _).0 holds) more
        | inr fails ↦ record {
          cycles = _;
          ends = overshot-ends _ limits target1 target2 now _ first second vb
              (first-of limits target1 target2 now _ first second vb next)
              (passed blends limits target1 target2 before now first second vb go applies (off-by-test blends target1 target2 now _ fails))
              (arrives limits target1 target2 now _ first second vb next);
        }
      ]))

  -- the same within a bound: a blend's step or the way back, whichever takes longer, after the
  -- braking
  applying-in-time : (n k most : ℕ) (limits : Limits) (target1 target2 before now : ℤ) (first second : Rates) (vb : ℤ) →
      AreUnderWay limits target1 target2 before now first second vb → BlendApplies target1 target2 before now →
      SettlesWithin n limits target1 target2 before now first second vb →
      crossing_bound_of target1 now ≤ most → cycles_bound_of (now -ℤ before) (now -ℤ before) first ≤ most → n + most ≤ k →
      FirstEndsWithin k limits target1 target2 before now first second vb
  applying-in-time zero k most limits target1 target2 before now first second vb go applies settles near back room = absurd settles
  applying-in-time (suc n) zero most limits target1 target2 before now first second vb go applies settles near back room = absurd (omega arith)
  applying-in-time (suc n) (suc k) most limits target1 target2 before now first second vb go applies (inl (inl has)) near back room =
      ends-sooner (crossing_bound_of target1 now) (suc k) limits target1 target2 before now first second vb (omega arith)
      (blend-ends blends limits target1 target2 before now first second vb go has)
  applying-in-time (suc n) (suc k) most limits target1 target2 before now first second vb go applies (inl (inr none)) near back room = absurd (none applies)
  applying-in-time (suc n) (suc k) most limits target1 target2 before now first second vb go applies (inr more) near back room =
      elim (blends.brakes limits target1 target2 before now first second vb go applies) [
        | inl has ↦ ends-sooner (crossing_bound_of target1 now) (suc k) limits target1 target2 before now first second vb (omega arith)
            (blend-ends blends limits target1 target2 before now first second vb go has)
        | inr slower ↦
            (let taken : first_taken_of limits target1 target2 before now first second vb ≡ blend_taken_of limits target1 target2 before now first second vb =
            taken-applying blends limits target1 target2 before now first second vb applies in
            let next : AreUnderWay limits target1 target2 now (now +ℤ blend_taken_of limits target1 target2 before now first second vb) first second vb =
            blends.kept limits target1 target2 before now first second vb go in
            let slow : unsigned_abs ((now +ℤ blend_taken_of limits target1 target2 before now first second vb) -ℤ now) ≤ unsigned_abs (now -ℤ before) =
            omega (arith, ints, slower) in
            let least = slower-bound moves before now _ first go.first_ok slow in
            inr (rw taken (elim (cases_Bool (blend_applies target1 target2 now (now +ℤ blend_taken_of limits target1 target2 before now first second vb))) [
              | inl holds ↦
                  (let applying = (blends.by_test target1 target2 now _).0 holds in
                  let nearer = comes-nearer blends limits target1 target2 before now first second vb go applies applying in
                  applying-in-time n k most limits target1 target2 now _ first second vb next applying more (omega (arith, nearer)) (omega (arith, least)) (omega arith))
              | inr fails ↦
                  (let past = passed blends limits target1 target2 before now first second vb go applies (off-by-test blends target1 target2 now _ fails) in
                  let sooner = back-in-time moves target1 target2 before now first _ go.first_ok applies past slow in
                  ends-sooner _ k limits target1 target2 now _ first second vb (omega (arith, sooner))
                  (overshot-ends _ limits target1 target2 now _ first second vb
                  (first-of limits target1 target2 now _ first second vb next) past (arrives limits target1 target2 now _ first second vb next)))
            ])))
      ]

  -- from where a blend applies
  pub blend-ends-in-time : (limits : Limits) (target1 target2 before now : ℤ) (first second : Rates) (vb : ℤ) →
      AreUnderWay limits target1 target2 before now first second vb → BlendApplies target1 target2 before now →
      FirstEndsWithin (first_bound_of target1 before now first) limits target1 target2 before now first second vb
  unfolding first_bound_of
  blend-ends-in-time limits target1 target2 before now first second vb go applies =
      let most : ℕ = max (crossing_bound_of target1 now) (cycles_bound_of (now -ℤ before) (now -ℤ before) first) in
      applying-in-time (unsigned_abs (now -ℤ before) / unsigned_abs first.d + 1) _ most
      limits target1 target2 before now first second vb go applies (blends.settles limits target1 target2 before now first second vb go)
      (omega arith) (omega arith) (omega arith)

  -- the next cycle of a move by itself
  off-next : (limits : Limits) (target1 target2 before now : ℤ) (first second : Rates) (vb : ℤ) →
      AreUnderWay limits target1 target2 before now first second vb →
      AreUnderWay limits target1 target2 now (now +ℤ move_taken_of limits first target1 before now) first second vb
  off-next limits target1 target2 before now first second vb go = record {
    limits_ok = go.limits_ok;
    first_ok = go.first_ok;
    second_ok = go.second_ok;
    within = go.within;
    kept = (moves.heading.kept limits first target1 before now (first-of limits target1 target2 before now first second vb go)).kept;
    room = go.room;
  }

  -- the move arrives, or a blend applies before
  first-ends : (m : ℕ) (limits : Limits) (target1 target2 before now : ℤ) (first second : Rates) (vb : ℤ) →
      AreUnderWay limits target1 target2 before now first second vb → IsDoneWithin m limits first target1 before now →
      Ends limits target1 target2 before now first second vb
  first-ends zero limits target1 target2 before now first second vb go done = absurd done
  first-ends (suc m) limits target1 target2 before now first second vb go done =
      elim (cases_Bool (blend_applies target1 target2 before now)) [
        | inl holds ↦ applying-ends _ limits target1 target2 before now first second vb go
            ((blends.by_test target1 target2 before now).0 holds) (blends.settles limits target1 target2 before now first second vb go)
        | inr fails ↦
            (let taken : first_taken_of limits target1 target2 before now first second vb ≡ move_taken_of limits first target1 before now =
            taken-off blends limits target1 target2 before now first second vb (off-by-test blends target1 target2 before now fails) in
            elim done [
              | inl at ↦ ends-here limits target1 target2 before now first second vb (inr (at.0, taken ∙ at.1))
              | inr more ↦ ends-next limits target1 target2 before now first second vb (rw taken
                  (first-ends m limits target1 target2 now _ first second vb
                  (off-next limits target1 target2 before now first second vb go) more))
            ])
      ]

  pub moves-end : (limits : Limits) (target1 target2 before now : ℤ) (first second : Rates) (vb : ℤ) →
      AreUnderWay limits target1 target2 before now first second vb → Ends limits target1 target2 before now first second vb
  moves-end limits target1 target2 before now first second vb go =
      first-ends _ limits target1 target2 before now first second vb go (arrives limits target1 target2 before now first second vb go)
