-- The steps that may follow in a blend in whole numbers, and the blend step among them.
-- for: blend_step, blend_steps_are_safe, crossings_have_the_target_between and others
use Rattle.std.proofs.Common.{◌≡◌, ◌⊎◌, ℕ, ◌+◌, ◌-◌, ◌≤◌, unwrap_or, ℤ, pos, ◌≤ℤ◌, unsigned_abs, arith, refl, ◌∙◌, ap, sym, inl, inr}
use Rattle.std.proofs.lemmas.Int.{ints, clamps}
use Rattle.motion_numbers.specs.Greatest.{greatest, IsFound}
use Rattle.motion_numbers.specs.Greatest.IsFound.{found_at, found_none}
use Rattle.motion_numbers.specs.Run.{run_of}
use Rattle.command_pool.specs.declared.rates.Rates.{Rates}
use Rattle.command_pool.specs.Rates.{AreRates}
use Rattle.blend_plan.specs.Sums.{rise_of, above_of}
use Rattle.blend_plan.specs.BlendStep.{StopsAtFirst, PassesFirst, MayBlend, IsBlendStep, may_blend, blend_size_of, blend_step_of}
use Rattle.blend_plan.proofs.BlendSizes.{StopsSize, PassesSize, BlendsSize, blends-says, blends-holds}
use Rattle.motion_numbers.specs.Laws.{AreSearches}
use Rattle.kin_core.specs.Laws.{AreTowardZero}

-- s is the size of the blend step
pub record IsBlendSize (v a d e l1 l2 w vb s : ℕ) : Type 0 where
  pub follows : (u : ℕ) → BlendsSize v a d e l1 l2 w vb u → BlendsSize v a d e l1 l2 w vb s
  pub greatest : (u : ℕ) → BlendsSize v a d e l1 l2 w vb u → u ≤ s
  pub none : ((u : ℕ) → BlendsSize v a d e l1 l2 w vb u → ⊥) → s ≡ w - d

-- the numbers of a blend are in range
pub record AreBlended (l1 l2 old : ℤ) (first second : Rates) (vb : ℤ) : Type 0 where
  pub first_rates : AreRates first
  pub second_rates : AreRates second
  pub first_target : pos 0 ≤ℤ l1
  pub second_target : pos 0 ≤ℤ l2
  pub forward : pos 0 ≤ℤ old
  pub velocity : pos 0 ≤ℤ vb

-- a step may follow in whole numbers where its size may
pub may-sizes : (l1 l2 old : ℤ) (first second : Rates) (vb u : ℤ) → AreBlended l1 l2 old first second vb →
    MayBlend l1 l2 old first second vb u →
    BlendsSize (unsigned_abs first.v) (unsigned_abs first.a) (unsigned_abs first.d) (unsigned_abs second.d)
    (unsigned_abs l1) (unsigned_abs l2) (unsigned_abs old) (unsigned_abs vb) (unsigned_abs u)
may-sizes l1 l2 old first second vb u ok may =
    let first_ok : AreRates first = ok.first_rates in
    let second_ok : AreRates second = ok.second_rates in
    record {
      deceleration = omega (arith, ints, clamps);
      acceleration = omega (arith, ints);
      way = ways may.way;
    }
  where
    faster-size : (u ≤ℤ first.v) ⊎ (l1 ≤ℤ pos (rise_of (unsigned_abs u) (unsigned_abs vb) (unsigned_abs first.a))) →
        (unsigned_abs u ≤ unsigned_abs first.v)
        ⊎ (unsigned_abs l1 ≤ rise_of (unsigned_abs u) (unsigned_abs vb) (unsigned_abs first.a))
    faster-size (inl own) = inl (let first_ok : AreRates first = ok.first_rates in let ahead : pos 0 ≤ℤ u = may.ahead in omega (arith, ints))
    faster-size (inr rise) = inr (let way : pos 0 ≤ℤ l1 = ok.first_target in omega (arith, ints))

    ways : StopsAtFirst l1 first u ⊎ PassesFirst l1 l2 first second vb u →
        StopsSize (unsigned_abs first.v) (unsigned_abs first.d) (unsigned_abs l1) (unsigned_abs u)
        ⊎ PassesSize (unsigned_abs first.v) (unsigned_abs first.a) (unsigned_abs first.d) (unsigned_abs second.d)
        (unsigned_abs l1) (unsigned_abs l2) (unsigned_abs vb) (unsigned_abs u)
    ways (inl stops) =
        let first_ok : AreRates first = ok.first_rates in
        let ahead : pos 0 ≤ℤ u = may.ahead in
        inl (record { run = omega (arith, ints); velocity = omega (arith, ints) })
    ways (inr passes) =
        let first_ok : AreRates first = ok.first_rates in
        let ahead : pos 0 ≤ℤ u = may.ahead in
        inr (record {
          faster = faster-size passes.faster;
          velocity = omega (arith, ints, clamps);
          slowed = omega (arith, ints);
          run = omega (arith, ints);
        })

pub sizes-may : (l1 l2 old : ℤ) (first second : Rates) (vb : ℤ) (u : ℕ) → AreBlended l1 l2 old first second vb →
    BlendsSize (unsigned_abs first.v) (unsigned_abs first.a) (unsigned_abs first.d) (unsigned_abs second.d)
    (unsigned_abs l1) (unsigned_abs l2) (unsigned_abs old) (unsigned_abs vb) u →
    MayBlend l1 l2 old first second vb (pos u)
sizes-may l1 l2 old first second vb u ok blends =
    let first_ok : AreRates first = ok.first_rates in
    let second_ok : AreRates second = ok.second_rates in
    record {
      ahead = omega (arith, ints);
      deceleration = omega (arith, ints, clamps);
      acceleration = omega (arith, ints);
      way = ways blends.way;
    }
  where
    faster-size : (u ≤ unsigned_abs first.v) ⊎ (unsigned_abs l1 ≤ rise_of u (unsigned_abs vb) (unsigned_abs first.a)) →
        (pos u ≤ℤ first.v) ⊎ (l1 ≤ℤ pos (rise_of u (unsigned_abs vb) (unsigned_abs first.a)))
    faster-size (inl own) = inl (let first_ok : AreRates first = ok.first_rates in omega (arith, ints))
    faster-size (inr rise) = inr (let way : pos 0 ≤ℤ l1 = ok.first_target in omega (arith, ints))

    ways : StopsSize (unsigned_abs first.v) (unsigned_abs first.d) (unsigned_abs l1) u
        ⊎ PassesSize (unsigned_abs first.v) (unsigned_abs first.a) (unsigned_abs first.d) (unsigned_abs second.d)
        (unsigned_abs l1) (unsigned_abs l2) (unsigned_abs vb) u →
        StopsAtFirst l1 first (pos u) ⊎ PassesFirst l1 l2 first second vb (pos u)
    ways (inl stops) =
        let first_ok : AreRates first = ok.first_rates in
        let way : pos 0 ≤ℤ l1 = ok.first_target in
        let fits : run_of u (unsigned_abs first.d) ≤ unsigned_abs l1 = stops.run in
        inl (record { run = omega (arith, ints); velocity = omega (arith, ints) })
    ways (inr passes) =
        let first_ok : AreRates first = ok.first_rates in
        let way : pos 0 ≤ℤ l1 = ok.first_target in
        let further : pos 0 ≤ℤ l2 = ok.second_target in
        let passing : pos 0 ≤ℤ vb = ok.velocity in
        let slows : above_of u (unsigned_abs vb) (unsigned_abs first.d) ≤ unsigned_abs l1 = passes.slowed in
        let fits : run_of u (unsigned_abs second.d) ≤ unsigned_abs l2 = passes.run in
        inr (record {
          faster = faster-size passes.faster;
          velocity = omega (arith, ints, clamps);
          slowed = omega (arith, ints);
          run = omega (arith, ints);
        })

module _ (searches : AreSearches) where
  open searches use {search_finds}

  pub is-blend-size : (first second : Rates) (l1 l2 w vb : ℕ) →
      IsBlendSize (unsigned_abs first.v) (unsigned_abs first.a) (unsigned_abs first.d) (unsigned_abs second.d) l1 l2 w vb
      (blend_size_of l1 l2 w first second vb)
  unfolding blend_size_of
  is-blend-size first second l1 l2 w vb = by_search (search_finds (w + unsigned_abs first.a) (may_blend l1 l2 w first second vb))
    where
      by_search : IsFound (w + unsigned_abs first.a) (may_blend l1 l2 w first second vb)
          (greatest (w + unsigned_abs first.a) (may_blend l1 l2 w first second vb)) →
          IsBlendSize (unsigned_abs first.v) (unsigned_abs first.a) (unsigned_abs first.d) (unsigned_abs second.d) l1 l2 w vb
          (unwrap_or (greatest (w + unsigned_abs first.a) (may_blend l1 l2 w first second vb)) (w - unsigned_abs first.d))
      by_search (found_at g is passes most) = rw is (record {
        follows = λ u blends. blends-says first second l1 l2 w vb g passes;
        greatest = λ u blends. most u blends.acceleration (blends-holds first second l1 l2 w vb u blends);
        none = λ no_step. absurd (no_step g (blends-says first second l1 l2 w vb g passes));
      })
      by_search (found_none is fails) = rw is (record {
        follows = λ u blends. absurd (fails u blends.acceleration (blends-holds first second l1 l2 w vb u blends));
        greatest = λ u blends. absurd (fails u blends.acceleration (blends-holds first second l1 l2 w vb u blends));
        none = λ no_step. refl;
      })

module _ (searches : AreSearches) (toward : AreTowardZero) where
  open toward use {ahead as toward_zero-ahead}

  -- the blend step is the one that the definition asks for
  pub is-blend-step : (l1 l2 old : ℤ) (first second : Rates) (vb : ℤ) → AreBlended l1 l2 old first second vb →
      IsBlendStep l1 l2 old first second vb (blend_step_of l1 l2 old first second vb)
  unfolding blend_step_of
  is-blend-step l1 l2 old first second vb ok =
      let size : IsBlendSize (unsigned_abs first.v) (unsigned_abs first.a) (unsigned_abs first.d) (unsigned_abs second.d)
      (unsigned_abs l1) (unsigned_abs l2) (unsigned_abs old) (unsigned_abs vb)
      (blend_size_of (unsigned_abs l1) (unsigned_abs l2) (unsigned_abs old) first second (unsigned_abs vb)) =
      is-blend-size searches first second _ _ _ _ in
      record {
        follows = λ k may. sizes-may l1 l2 old first second vb _ ok
            (size.follows _ (may-sizes l1 l2 old first second vb k ok may));
        greatest = λ k may.
            let ahead : pos 0 ≤ℤ k = may.ahead in
            let under : unsigned_abs k ≤ blend_size_of (unsigned_abs l1) (unsigned_abs l2) (unsigned_abs old) first second (unsigned_abs vb) =
            size.greatest _ (may-sizes l1 l2 old first second vb k ok may) in
            omega (arith, ints);
        none = λ no_step.
            let slowed : blend_size_of (unsigned_abs l1) (unsigned_abs l2) (unsigned_abs old) first second (unsigned_abs vb) ≡ unsigned_abs old - unsigned_abs first.d =
            size.none (λ u blends. no_step (pos u) (sizes-may l1 l2 old first second vb u ok blends)) in
            let first_ok : AreRates first = ok.first_rates in
            ap pos slowed ∙ sym (toward_zero-ahead old first.d ok.forward (omega (arith, ints)));
      }
