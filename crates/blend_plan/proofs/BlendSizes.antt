-- The steps that stop at the first target or pass it, in sizes, and the greatest of them.
-- for: blend_step, blend_steps_are_safe, crossings_have_the_target_between and others
use Rattle.std.proofs.Common.{◌≡◌, ◌⊎◌, ℕ, ◌+◌, ◌-◌, ◌≤◌, ◌<◌, Bool, true, false, nat_le, ◌&&◌, ◌||◌, unwrap_or, unsigned_abs, max, min, arith, refl, ◌∙◌, ap, sym, inl, inr}
use Rattle.std.proofs.lemmas.Bool.{leb-true, le-leb, and_from, or_left, or_right, cases_lt}
use Rattle.motion_numbers.specs.Greatest.{greatest, IsFound}
use Rattle.motion_numbers.specs.Greatest.IsFound.{found_at, found_none}
use Rattle.motion_numbers.specs.Run.{run_of, reach_of}
use Rattle.command_pool.specs.declared.rates.Rates.{Rates}
use Rattle.blend_plan.specs.Sums.{rise_of, above_of}
use Rattle.blend_plan.specs.BlendStep.{stops_at_first, passes_first, stops_or_passes, may_blend, blend_size_of}
use Rattle.blend_plan.proofs.Slowings.{above-zero}
use Rattle.motion_numbers.specs.Laws.{AreWays, AreSearches}

-- what the tests say: v, a and d are the first rates, and e is the second deceleration
pub record StopsSize (v d l1 u : ℕ) : Type 0 where
  pub run : run_of u d ≤ l1
  pub velocity : u ≤ v

pub record PassesSize (v a d e l1 l2 vb u : ℕ) : Type 0 where
  pub faster : (u ≤ v) ⊎ (l1 ≤ rise_of u vb a)
  pub velocity : u ≤ max v vb
  pub slowed : above_of u vb d ≤ l1
  pub run : run_of u e ≤ l2

pub record BlendsSize (v a d e l1 l2 w vb u : ℕ) : Type 0 where
  pub deceleration : w - max d e ≤ u
  pub acceleration : u ≤ w + a
  pub way : StopsSize v d l1 u ⊎ PassesSize v a d e l1 l2 vb u

-- what a test that holds says of its parts
both-say : {P : Type 0} (a b : Bool) → (a && b) ≡ true → (a ≡ true → b ≡ true → P) → P
both-say true true h k = k refl refl
both-say true false h k = cc
both-say false b h k = cc

pub either-says : {P : Type 0} (a b : Bool) → (a || b) ≡ true → (a ≡ true → P) → (b ≡ true → P) → P
either-says true b h k m = k refl
either-says false true h k m = m refl
either-says false false h k m = cc

pub stops-says : (first : Rates) (l1 u : ℕ) → stops_at_first l1 first u ≡ true →
    StopsSize (unsigned_abs first.v) (unsigned_abs first.d) l1 u
stops-says first l1 u h =
    both-say _ _ h (λ run velocity. record { run = leb-true _ _ run; velocity = leb-true _ _ velocity })

pub stops-holds : (first : Rates) (l1 u : ℕ) → StopsSize (unsigned_abs first.v) (unsigned_abs first.d) l1 u →
    stops_at_first l1 first u ≡ true
stops-holds first l1 u h = and_from _ _ (le-leb _ _ h.run) (le-leb _ _ h.velocity)

pub passes-says : (first second : Rates) (l1 l2 vb u : ℕ) → passes_first l1 l2 first second vb u ≡ true →
    PassesSize (unsigned_abs first.v) (unsigned_abs first.a) (unsigned_abs first.d) (unsigned_abs second.d) l1 l2 vb u
passes-says first second l1 l2 vb u h =
    both-say _ _ h (λ three run.
    both-say _ _ three (λ two slowed.
    both-say _ _ two (λ faster velocity. record {
      faster = either-says _ _ faster (λ own. inl (leb-true _ _ own)) (λ rise. inr (leb-true _ _ rise));
      velocity = leb-true _ _ velocity;
      slowed = leb-true _ _ slowed;
      run = leb-true _ _ run;
    })))

pub passes-holds : (first second : Rates) (l1 l2 vb u : ℕ) →
    PassesSize (unsigned_abs first.v) (unsigned_abs first.a) (unsigned_abs first.d) (unsigned_abs second.d) l1 l2 vb u →
    passes_first l1 l2 first second vb u ≡ true
passes-holds first second l1 l2 vb u h =
    and_from _ _ (and_from _ _ (and_from _ _ (faster-holds h.faster) (le-leb _ _ h.velocity))
    (le-leb _ _ h.slowed)) (le-leb _ _ h.run)
  where
    faster-holds : (u ≤ unsigned_abs first.v) ⊎ (l1 ≤ rise_of u vb (unsigned_abs first.a)) →
        (nat_le u (unsigned_abs first.v) || nat_le l1 (rise_of u vb (unsigned_abs first.a))) ≡ true
    faster-holds (inl own) = or_left _ _ (le-leb _ _ own)
    faster-holds (inr rise) = or_right _ _ (le-leb _ _ rise)

pub blends-says : (first second : Rates) (l1 l2 w vb u : ℕ) → may_blend l1 l2 w first second vb u ≡ true →
    BlendsSize (unsigned_abs first.v) (unsigned_abs first.a) (unsigned_abs first.d) (unsigned_abs second.d) l1 l2 w vb u
blends-says first second l1 l2 w vb u h =
    both-say _ _ h (λ two way.
    both-say _ _ two (λ deceleration acceleration. record {
      deceleration = leb-true _ _ deceleration;
      acceleration = leb-true _ _ acceleration;
      way = either-says _ _ way (λ stops. inl (stops-says first l1 u stops))
          (λ passes. inr (passes-says first second l1 l2 vb u passes));
    }))

pub blends-holds : (first second : Rates) (l1 l2 w vb u : ℕ) →
    BlendsSize (unsigned_abs first.v) (unsigned_abs first.a) (unsigned_abs first.d) (unsigned_abs second.d) l1 l2 w vb u →
    may_blend l1 l2 w first second vb u ≡ true
blends-holds first second l1 l2 w vb u h =
    and_from _ _ (and_from _ _ (le-leb _ _ h.deceleration) (le-leb _ _ h.acceleration)) (way-holds h.way)
  where
    way-holds : StopsSize (unsigned_abs first.v) (unsigned_abs first.d) l1 u
        ⊎ PassesSize (unsigned_abs first.v) (unsigned_abs first.a) (unsigned_abs first.d) (unsigned_abs second.d) l1 l2 vb u →
        (stops_at_first l1 first u || passes_first l1 l2 first second vb u) ≡ true
    way-holds (inl stops) = or_left _ _ (stops-holds first l1 u stops)
    way-holds (inr passes) = or_right _ _ (passes-holds first second l1 l2 vb u passes)

-- r is the greatest step up to n that passes
pub record IsGreatestPassing (v a d e l1 l2 vb n r : ℕ) : Type 0 where
  pub within : r ≤ n
  pub passes : PassesSize v a d e l1 l2 vb r
  pub greatest : (u : ℕ) → u ≤ n → PassesSize v a d e l1 l2 vb u → u ≤ r

-- in the words of the tests
pub record IsPassingTop (l1 l2 : ℕ) (first second : Rates) (vb n r : ℕ) : Type 0 where
  pub within : r ≤ n
  pub passes : passes_first l1 l2 first second vb r ≡ true
  pub greatest : (u : ℕ) → u ≤ n → passes_first l1 l2 first second vb u ≡ true → u ≤ r

pub passing-top : (l1 l2 : ℕ) (first second : Rates) (v a d e vb w r : ℕ) → v ≡ unsigned_abs first.v →
    a ≡ unsigned_abs first.a → d ≡ unsigned_abs first.d → e ≡ unsigned_abs second.d →
    IsGreatestPassing v a d e l1 l2 vb (w + a) r → IsPassingTop l1 l2 first second vb (w + unsigned_abs first.a) r
passing-top l1 l2 first second v a d e vb w r p q s t top =
    let own : IsGreatestPassing (unsigned_abs first.v) (unsigned_abs first.a) (unsigned_abs first.d)
    (unsigned_abs second.d) l1 l2 vb (w + unsigned_abs first.a) r = rw (p, q, s, t) at top in
    record {
      within = own.within;
      passes = passes-holds first second l1 l2 vb r own.passes;
      greatest = λ u small passes. own.greatest u small (passes-says first second l1 l2 vb u passes);
    }

-- r is the greatest step up to n that stops or passes
pub record IsLeadingTop (l1 l2 : ℕ) (first second : Rates) (vb n r : ℕ) : Type 0 where
  pub within : r ≤ n
  pub leads : stops_or_passes l1 l2 first second vb r ≡ true
  pub greatest : (u : ℕ) → u ≤ n → stops_or_passes l1 l2 first second vb u ≡ true → u ≤ r

-- where the greatest that passes is not below the fastest step of the first move
pub leading-passing : (l1 l2 : ℕ) (first second : Rates) (vb n f r : ℕ) → IsPassingTop l1 l2 first second vb n r →
    f ≡ min (unsigned_abs first.v) n → f ≤ r → IsLeadingTop l1 l2 first second vb n r
leading-passing l1 l2 first second vb n f r top is over = record {
  within = top.within;
  leads = or_right _ _ top.passes;
  greatest = λ u small leads. either-says _ _ leads
      (λ stops.
      let says : StopsSize (unsigned_abs first.v) (unsigned_abs first.d) l1 u = stops-says first l1 u stops in
      omega (arith, says.velocity))
      (λ passes. top.greatest u small passes);
}

-- a step that may follow is at most that one, and at least the old step slowed
in-window : (l1 l2 w : ℕ) (first second : Rates) (vb g u : ℕ) →
    IsLeadingTop l1 l2 first second vb (w + unsigned_abs first.a) g →
    may_blend l1 l2 w first second vb u ≡ true →
    (u ≤ g) × (w - max (unsigned_abs first.d) (unsigned_abs second.d) ≤ u)
in-window l1 l2 w first second vb g u top may =
    both-say _ _ may (λ window leads. both-say _ _ window (λ low high.
    (top.greatest u (leb-true _ _ high) leads, leb-true _ _ low)))

-- what a search finds is the size
size-found : (l1 l2 w : ℕ) (first second : Rates) (vb g r : ℕ) →
    IsFound (w + unsigned_abs first.a) (may_blend l1 l2 w first second vb) (greatest (w + unsigned_abs first.a) (may_blend l1 l2 w first second vb)) →
    IsLeadingTop l1 l2 first second vb (w + unsigned_abs first.a) g →
    (w - max (unsigned_abs first.d) (unsigned_abs second.d) ≤ g → r ≡ g) →
    (g < w - max (unsigned_abs first.d) (unsigned_abs second.d) → r ≡ w - unsigned_abs first.d) →
    r ≡ unwrap_or (greatest (w + unsigned_abs first.a) (may_blend l1 l2 w first second vb)) (w - unsigned_abs first.d)
size-found l1 l2 w first second vb g r found top inside outside = by_search found
  where
    own : w - max (unsigned_abs first.d) (unsigned_abs second.d) ≤ g → may_blend l1 l2 w first second vb g ≡ true
    own above = and_from _ _ (and_from _ _ (le-leb _ _ above) (le-leb _ _ top.within)) top.leads

    by_search : IsFound (w + unsigned_abs first.a) (may_blend l1 l2 w first second vb) (greatest (w + unsigned_abs first.a) (may_blend l1 l2 w first second vb)) →
        r ≡ unwrap_or (greatest (w + unsigned_abs first.a) (may_blend l1 l2 w first second vb)) (w - unsigned_abs first.d)
    by_search (found_at k is passes most) =
        let bounds : (k ≤ g) × (w - max (unsigned_abs first.d) (unsigned_abs second.d) ≤ k) =
        in-window l1 l2 w first second vb g k top passes in
        let above : w - max (unsigned_abs first.d) (unsigned_abs second.d) ≤ g = omega (arith, bounds.0, bounds.1) in
        let over : g ≤ k = most g top.within (own above) in
        let here : r ≡ k = omega (arith, inside above, bounds.0) in
        here ∙ sym (ap (λ o. unwrap_or o (w - unsigned_abs first.d)) is)
    by_search (found_none is fails) =
        elim (cases_lt g (w - max (unsigned_abs first.d) (unsigned_abs second.d))) [
          | inl below ↦ outside below ∙ sym (ap (λ o. unwrap_or o (w - unsigned_abs first.d)) is)
          | inr above ↦ absurd (fails g top.within (own above))
        ]

module _ (ways : AreWays) where
  open ways use {fits_below_reach, reach_greatest}

  -- at a blend velocity that is not above the first velocity
  pub passing-slow : (v a d e l1 l2 vb n h r : ℕ) → 0 < e → vb ≤ v → h ≡ min (min n (max v vb)) (reach_of l2 e) →
      r ≤ h → above_of r vb d ≤ l1 → ((u : ℕ) → u ≤ h → above_of u vb d ≤ l1 → u ≤ r) →
      IsGreatestPassing v a d e l1 l2 vb n r
  passing-slow v a d e l1 l2 vb n h r hard slow is below slowed most = record {
    within = omega arith;
    passes = record {
      faster = inl (omega arith);
      velocity = omega arith;
      slowed = slowed;
      run = fits_below_reach r l2 e hard (omega arith);
    };
    greatest = λ u small passes.
        let under : u ≤ reach_of l2 e = reach_greatest u l2 e hard passes.run in
        most u (omega (arith, passes.velocity)) passes.slowed;
  }

  -- at a greater one, with a room for no more than the first velocity
  pub passing-short : (v a d e l1 l2 vb n h : ℕ) → 0 < e → v < vb → h ≡ min (min n (max v vb)) (reach_of l2 e) →
      h ≤ v → IsGreatestPassing v a d e l1 l2 vb n h
  passing-short v a d e l1 l2 vb n h hard fast is short = record {
    within = omega arith;
    passes = record {
      faster = inl short;
      velocity = omega arith;
      slowed = omega (arith, above-zero h vb d (omega arith));
      run = fits_below_reach h l2 e hard (omega arith);
    };
    greatest = λ u small passes.
        let under : u ≤ reach_of l2 e = reach_greatest u l2 e hard passes.run in
        omega (arith, passes.velocity);
  }

  -- and with more room
  pub passing-fast : (v a d e l1 l2 vb n h r : ℕ) → 0 < e → v < vb → h ≡ min (min n (max v vb)) (reach_of l2 e) →
      v ≤ r → r ≤ h → (v < r → l1 ≤ rise_of r vb a) →
      ((u : ℕ) → v < u → u ≤ h → l1 ≤ rise_of u vb a → u ≤ r) → IsGreatestPassing v a d e l1 l2 vb n r
  passing-fast v a d e l1 l2 vb n h r hard fast is above below risen most = record {
    within = omega arith;
    passes = record {
      faster = elim (cases_lt v r) [
        | inl over ↦ inr (risen over)
        | inr own ↦ inl own
      ];
      velocity = omega arith;
      slowed = omega (arith, above-zero r vb d (omega arith));
      run = fits_below_reach r l2 e hard (omega arith);
    };
    greatest = λ u small passes.
        let under : u ≤ reach_of l2 e = reach_greatest u l2 e hard passes.run in
        elim passes.faster [
          | inl own ↦ omega arith
          | inr rise ↦ elim (cases_lt v u) [
            | inl over ↦ most u over (omega (arith, passes.velocity)) rise
            | inr own ↦ omega arith
          ]
        ];
  }

  -- and else the greater of the two greatest
  pub leading-both : (l1 l2 : ℕ) (first second : Rates) (d vb n f p s r : ℕ) → IsPassingTop l1 l2 first second vb n p →
      d ≡ unsigned_abs first.d → 0 < d → f ≡ min (unsigned_abs first.v) n → s ≡ min f (reach_of l1 d) → r ≡ max p s →
      IsLeadingTop l1 l2 first second vb n r
  leading-both l1 l2 first second d vb n f p s r top fall some is reached either = record {
    within = omega (arith, top.within);
    leads = elim (cases_lt p r) [
      | inl stopping ↦ let run : run_of r d ≤ l1 = fits_below_reach r l1 d some (omega arith) in
          let own : run_of r (unsigned_abs first.d) ≤ l1 = rw (← fall) run in
          let slow : r ≤ unsigned_abs first.v = omega arith in
          or_left _ _ (stops-holds first l1 r (record { run = own; velocity = slow }))
      | inr passing ↦ let here : r ≡ p = omega arith in
          let own : passes_first l1 l2 first second vb r ≡ true = rw here top.passes in
          or_right _ _ own
    ];
    greatest = λ u small leads. either-says _ _ leads
        (λ stops.
        let says : StopsSize (unsigned_abs first.v) (unsigned_abs first.d) l1 u = stops-says first l1 u stops in
        let fits : run_of u d ≤ l1 = rw fall says.run in
        omega (arith, reach_greatest u l1 d some fits, says.velocity))
        (λ passes. omega (arith, top.greatest u small passes));
  }

module _ (searches : AreSearches) where
  open searches use {search_finds}

  -- the greatest step that stops or passes, unless it is below the window
  pub blend-size-is : (l1 l2 w : ℕ) (first second : Rates) (vb g r : ℕ) →
      IsLeadingTop l1 l2 first second vb (w + unsigned_abs first.a) g →
      (w - max (unsigned_abs first.d) (unsigned_abs second.d) ≤ g → r ≡ g) →
      (g < w - max (unsigned_abs first.d) (unsigned_abs second.d) → r ≡ w - unsigned_abs first.d) →
      r ≡ blend_size_of l1 l2 w first second vb
  unfolding blend_size_of
  blend-size-is l1 l2 w first second vb g r top inside outside =
      size-found l1 l2 w first second vb g r (search_finds (w + unsigned_abs first.a) (may_blend l1 l2 w first second vb)) top inside outside
