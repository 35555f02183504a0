-- Kept motions ahead: braking keeps, and the safe speeds are those from the braked speed to a
-- greatest one.
-- for: greatest_back, greatest_between, greatest_fall_of and others
use Rattle.std.proofs.Common.{inl, inr, ◌≡◌, ℕ, ◌+◌, ◌-◌, ◌*◌, ◌<◌, ◌≤◌, min, arith, ap}
use Rattle.std.proofs.lemmas.Bool.{cases_lt}
use Rattle.motion_numbers.specs.Run.{run_of, reach_of}
use Rattle.motion_numbers.proofs.Runs.{run_zero, run_unfold, run_mono, run_anti}
use Rattle.motion_numbers.proofs.Reaches.{reach_greatest, fits_below_reach}
use Rattle.jerk_core.specs.Braking.{braked_of, way_of, IsKeptAhead, IsKeptAfter, IsSafeAhead}
use Rattle.jerk_core.proofs.Brakes.{reach_within, reach_some, IsBraked, braked_bounds, Bound, braked_is, braked_least}
use Rattle.jerk_core.proofs.Brakes.Bound.{by_fall, by_change, by_reach}
use Rattle.jerk_core.proofs.Ways.{way_unfold, way_below, way_zero, way_by_more}
use Rattle.jerk_core.proofs.Ways.IsBelow.{by_speeds}

-- a fall within the reach can be taken back
pub lands_within : (v x j : ℕ) → 0 < j → v ≤ x + reach_of v j → run_of (v - x - j) j ≤ x
lands_within v x j some within =
    elim (cases_lt x v) [
      | inl falls ↦
          let fits : run_of (v - x) j ≤ v = fits_below_reach (v - x) v j some (omega arith) in
          omega (arith, run_unfold (v - x) j some)
      | inr rises ↦ let none : v - x - j ≡ 0 = omega arith in rw (none, run_zero j) (omega arith)
    ]

-- and one that can be taken back is within the reach
pub within_lands : (v x j : ℕ) → 0 < j → run_of (v - x - j) j ≤ x → v ≤ x + reach_of v j
within_lands v x j some lands =
    elim (cases_lt x v) [
      | inl falls ↦
          let within : v - x ≤ reach_of v j = reach_greatest (v - x) v j some (omega (arith, run_unfold (v - x) j some)) in
          omega arith
      | inr rises ↦ omega arith
    ]

-- a kept motion's own fall is within what may come back
pub falls_within : (w v j : ℕ) → 0 < j → run_of (w - v - j) j ≤ v → w ≤ v + j + reach_of v j
falls_within w v j some lands = let within : w - v - j ≤ reach_of v j = reach_greatest (w - v - j) v j some lands in omega arith

-- the braked speed bends up by no more than j
braked_rises : (V A d j room w v : ℕ) → 0 < j → IsKeptAhead V A d j room w v → braked_of d j w v + w ≤ 2 * v + j
braked_rises V A d j room w v some kept = by_bound (braked_of d j w v) (braked_is d j w v some)
  where
    by_bound : (x : ℕ) → Bound d j w v x → x + w ≤ 2 * v + j
    by_bound x (by_fall is) = omega (arith, kept.loses)
    by_bound x (by_change is) = omega arith
    by_bound x (by_reach is) = omega (arith, falls_within w v j some kept.lands)

-- speeding up that braking takes back stays below the greatest speed
pub braked_tops : (V d j w v : ℕ) → 0 < j → v + run_of (v - w - j) j ≤ V →
    braked_of d j w v + run_of (braked_of d j w v - v - j) j ≤ V
braked_tops V d j w v some tops = by_bound (braked_of d j w v) (braked_is d j w v some)
  where
    slower : (x : ℕ) → x ≤ v → x + run_of (x - v - j) j ≤ V
    slower x less = let none : x - v - j ≡ 0 = omega arith in rw (none, run_zero j) (omega (arith, tops))

    by_bound : (x : ℕ) → Bound d j w v x → x + run_of (x - v - j) j ≤ V
    by_bound x (by_fall is) = slower x (omega arith)
    by_bound x (by_reach is) = slower x (omega arith)
    by_bound x (by_change is) =
        elim (cases_lt v x) [
          | inr less ↦ slower x less
          | inl more ↦
              let same : v - w - j ≡ x - v = omega arith in
              let top : v + run_of (x - v) j ≤ V = rw same at tops in
              omega (arith, run_unfold (x - v) j some)
        ]

-- braking is safe
pub braked_safe : (V A d j room w v : ℕ) → 0 < d → 0 < j → IsKeptAhead V A d j room w v →
    IsSafeAhead V A d j room w v (braked_of d j w v)
braked_safe V A d j room w v slows some kept =
    let bounds : IsBraked d j w v (braked_of d j w v) = braked_bounds d j w v some in
    let way : way_of d j w v ≡ braked_of d j w v + way_of d j v (braked_of d j w v) = way_unfold d j w v slows some in
    let tops : braked_of d j w v + run_of (braked_of d j w v - v - j) j ≤ V = braked_tops V d j w v some kept.tops in
    let fits : way_of d j w v ≤ room = kept.fits in
    record {
      bends = bounds.bends;
      rises = braked_rises V A d j room w v some kept;
      after = record {
        within = omega arith;
        kept = record {
          speed = omega arith;
          gains = gains (braked_of d j w v) (braked_is d j w v some);
          loses = bounds.loses;
          lands = lands_within v (braked_of d j w v) j some bounds.lands;
          tops = tops;
          fits = omega arith;
        };
      };
    }
  where
    gains : (x : ℕ) → Bound d j w v x → x ≤ v + A
    gains x (by_fall is) = omega arith
    gains x (by_reach is) = omega arith
    gains x (by_change is) = omega (arith, kept.gains)

-- no safe speed is below the braked one
pub safe_least : (V A d j room w v x : ℕ) → 0 < j → IsSafeAhead V A d j room w v x → braked_of d j w v ≤ x
safe_least V A d j room w v x some safe =
    braked_least d j w v x (record {
      loses = safe.after.kept.loses;
      bends = safe.bends;
      lands = within_lands v x j some safe.after.kept.lands;
    })

-- all between two speeds that leave a kept motion do so
pub kept_between : (V A d j room v least x y : ℕ) → 0 < d → 0 < j → least ≤ x → x ≤ y →
    IsKeptAfter V A d j room v least → IsKeptAfter V A d j room v y → IsKeptAfter V A d j room v x
kept_between V A d j room v least x y slows some above below low high =
    let way : way_of d j v x ≤ way_of d j v y = way_below d j v x v y slows some (by_speeds below (omega arith)) in
    let top : run_of (x - v - j) j ≤ run_of (y - v - j) j = run_mono (x - v - j) (y - v - j) j some (omega arith) in
    let landing : v ≤ least + reach_of v j = within_lands v least j some low.kept.lands in
    let slow : v ≤ least + d = low.kept.loses in
    let speed : y ≤ V = high.kept.speed in
    let gain : y ≤ v + A = high.kept.gains in
    let tops : y + run_of (y - v - j) j ≤ V = high.kept.tops in
    let fits : way_of d j v y ≤ room - y = high.kept.fits in
    let within : y ≤ room = high.within in
    record {
      within = omega arith;
      kept = record {
        speed = omega arith;
        gains = omega arith;
        loses = omega arith;
        lands = lands_within v x j some (omega arith);
        tops = omega arith;
        fits = omega arith;
      };
    }

-- so the safe speeds are all from the braked one to a greatest one
pub safe_between : (V A d j room w v x y : ℕ) → 0 < d → 0 < j → IsKeptAhead V A d j room w v → braked_of d j w v ≤ x → x ≤ y →
    IsSafeAhead V A d j room w v y → IsSafeAhead V A d j room w v x
safe_between V A d j room w v x y slows some kept above below safe =
    let low : IsSafeAhead V A d j room w v (braked_of d j w v) = braked_safe V A d j room w v slows some kept in
    record {
      bends = omega (arith, low.bends);
      rises = omega (arith, safe.rises);
      after = kept_between V A d j room v (braked_of d j w v) x y slows some above below low.after safe.after;
    }

-- what may come to a kept motion is kept itself
pub kept_before : (V A d j room w v x : ℕ) → 0 < d → 0 < j → v ≤ V → v ≤ w + A → w ≤ v + d →
    IsSafeAhead V A d j room w v x → IsKeptAhead V A d j room w v
kept_before V A d j room w v x slows some speed gains loses safe = record {
  speed = speed;
  gains = gains;
  loses = loses;
  lands = lands;
  tops = tops;
  fits = fits;
}
  where
    landed : run_of (v - x - j) j ≤ x
    landed = safe.after.kept.lands

    topped : x + run_of (x - v - j) j ≤ V
    topped = safe.after.kept.tops

    lands : run_of (w - v - j) j ≤ v
    lands =
        let less : run_of (w - v - j) j ≤ run_of (v - x) j = run_mono (w - v - j) (v - x) j some (omega (arith, safe.rises)) in
        elim (cases_lt x v) [
          | inl falls ↦ omega (arith, run_unfold (v - x) j some, landed)
          | inr rises ↦ let none : v - x ≡ 0 = omega arith in
              let still : run_of (v - x) j ≡ 0 = rw none (run_zero j) in omega arith
        ]

    tops : v + run_of (v - w - j) j ≤ V
    tops =
        let less : run_of (v - w - j) j ≤ run_of (x - v) j = run_mono (v - w - j) (x - v) j some (omega (arith, safe.bends)) in
        elim (cases_lt v x) [
          | inl rises ↦ omega (arith, run_unfold (x - v) j some, topped)
          | inr falls ↦ let none : x - v ≡ 0 = omega arith in
              let still : run_of (x - v) j ≡ 0 = rw none (run_zero j) in omega arith
        ]

    fits : way_of d j w v ≤ room
    fits =
        let least : braked_of d j w v ≤ x = safe_least V A d j room w v x some safe in
        let way : way_of d j v (braked_of d j w v) ≤ way_of d j v x = way_below d j v (braked_of d j w v) v x slows some (by_speeds least (omega arith)) in
        let within : x ≤ room = safe.after.within in
        let left : way_of d j v x ≤ room - x = safe.after.kept.fits in
        omega (arith, way_unfold d j w v slows some)

-- standing is kept
pub standing_kept : (V A d j room : ℕ) → 0 < d → 0 < j → IsKeptAhead V A d j room 0 0
standing_kept V A d j room slows some =
    let none : 0 - 0 - j ≡ 0 = omega arith in
    let still : run_of (0 - 0 - j) j ≡ 0 = rw none (run_zero j) in
    let way : way_of d j 0 0 ≡ 0 = way_zero d j 0 slows some in
    record {
      speed = omega arith;
      gains = omega arith;
      loses = omega arith;
      lands = omega arith;
      tops = omega arith;
      fits = omega arith;
    }

-- a speed from which the greatest speed isn't passed
pub tops_within : (V v x j : ℕ) → 0 < j → v ≤ V → x ≤ v + reach_of (V - v) j → x + run_of (x - v - j) j ≤ V
tops_within V v x j some below within =
    elim (cases_lt v x) [
      | inl rises ↦
          let fits : run_of (x - v) j ≤ V - v = fits_below_reach (x - v) (V - v) j some (omega arith) in
          omega (arith, run_unfold (x - v) j some)
      | inr falls ↦ let none : x - v - j ≡ 0 = omega arith in rw (none, run_zero j) (omega arith)
    ]

-- and no greater one
pub within_tops : (V v x j : ℕ) → 0 < j → x + run_of (x - v - j) j ≤ V → x ≤ v + reach_of (V - v) j
within_tops V v x j some tops =
    elim (cases_lt v x) [
      | inl rises ↦
          let within : x - v ≤ reach_of (V - v) j = reach_greatest (x - v) (V - v) j some (omega (arith, run_unfold (x - v) j some)) in
          omega arith
      | inr falls ↦ omega arith
    ]

-- between a speed that leaves a kept motion and the greatest by the changes of speed, only the way
-- is to be looked at
pub kept_after : (V A d j room v least x : ℕ) → 0 < d → 0 < j → v ≤ V → least ≤ x → x ≤ v + A → x ≤ v + reach_of (V - v) j →
    IsKeptAfter V A d j room v least → x ≤ room → way_of d j v x ≤ room - x → IsKeptAfter V A d j room v x
kept_after V A d j room v least x slows some below above gains reach low within fits =
    let landing : v ≤ least + reach_of v j = within_lands v least j some low.kept.lands in
    let slow : v ≤ least + d = low.kept.loses in
    let tops : x + run_of (x - v - j) j ≤ V = tops_within V v x j some below reach in
    record {
      within = within;
      kept = record {
        speed = omega arith;
        gains = gains;
        loses = omega arith;
        lands = lands_within v x j some (omega arith);
        tops = tops;
        fits = fits;
      };
    }

-- a safe speed is within what the changes of speed allow
pub safe_below_fastest : (V A d j room w v x : ℕ) → 0 < j → IsSafeAhead V A d j room w v x →
    x ≤ min (2 * v + j - w) (v + min A (reach_of (V - v) j))
safe_below_fastest V A d j room w v x some safe =
    let tops : x ≤ v + reach_of (V - v) j = within_tops V v x j some safe.after.kept.tops in
    omega (arith, safe.rises, safe.after.kept.gains)

-- and what leaves a kept motion and is within it is safe
pub safe_of_left : (V A d j room w v x : ℕ) → 0 < d → 0 < j → IsKeptAhead V A d j room w v → braked_of d j w v ≤ x →
    x ≤ 2 * v + j - w → IsKeptAfter V A d j room v x → IsSafeAhead V A d j room w v x
safe_of_left V A d j room w v x slows some kept above below left =
    let bounds : IsBraked d j w v (braked_of d j w v) = braked_bounds d j w v some in
    let falls : w ≤ v + j + reach_of v j = falls_within w v j some kept.lands in
    record {
      bends = omega (arith, bounds.bends);
      rises = omega (arith, reach_within v j some);
      after = left;
    }

-- what is kept by lesser rates in less room is kept
pub kept_by_more : (V A d j room W B e k more w v : ℕ) → 0 < d → 0 < j → V ≤ W → A ≤ B → d ≤ e → j ≤ k → room ≤ more →
    IsKeptAhead V A d j room w v → IsKeptAhead W B e k more w v
kept_by_more V A d j room W B e k more w v slows some faster quicker harder sharper wider kept =
    let way : way_of e k w v ≤ way_of d j w v = way_by_more d j e k w v slows some harder sharper in
    let fits : way_of d j w v ≤ room = kept.fits in
    let landing : run_of (w - v - k) k ≤ run_of (w - v - j) j =
    trans_le (run_mono (w - v - k) (w - v - j) k (omega arith) (omega arith)) (run_anti (w - v - j) j k sharper) in
    let topping : run_of (v - w - k) k ≤ run_of (v - w - j) j =
    trans_le (run_mono (v - w - k) (v - w - j) k (omega arith) (omega arith)) (run_anti (v - w - j) j k sharper) in
    record {
      speed = omega (arith, kept.speed);
      gains = omega (arith, kept.gains);
      loses = omega (arith, kept.loses);
      lands = omega (arith, kept.lands);
      tops = omega (arith, kept.tops);
      fits = omega arith;
    }
  where
    trans_le : {a b c : ℕ} → a ≤ b → b ≤ c → a ≤ c
    trans_le {a} {b} {c} h p = omega arith

-- and what is safe by them is safe
pub safe_by_more : (V A d j room W B e k more w v x : ℕ) → 0 < d → 0 < j → V ≤ W → A ≤ B → d ≤ e → j ≤ k → room ≤ more →
    IsSafeAhead V A d j room w v x → IsSafeAhead W B e k more w v x
safe_by_more V A d j room W B e k more w v x slows some faster quicker harder sharper wider safe =
    let within : x ≤ room = safe.after.within in
    record {
      bends = omega (arith, safe.bends);
      rises = omega (arith, safe.rises);
      after = record {
        within = omega arith;
        kept = kept_by_more V A d j (room - x) W B e k (more - x) v x slows some faster quicker harder sharper (omega arith) safe.after.kept;
      };
    }

-- from rest the speed 1 is safe in any room that has it
pub start_safe : (V A d j room : ℕ) → 0 < V → 0 < A → 0 < d → 1 < j → 0 < room → IsSafeAhead V A d j room 0 0 1
start_safe V A d j room moves gains slows bends some = record {
  bends = omega arith;
  rises = omega arith;
  after = record {
    within = omega arith;
    kept = record {
      speed = omega arith;
      gains = omega arith;
      loses = omega arith;
      lands = omega (arith, still_lands);
      tops = omega (arith, still_tops);
      fits = omega (arith, no_way);
    };
  };
}
  where
    still_lands : run_of (0 - 1 - j) j ≡ 0
    still_lands = let none : 0 - 1 - j ≡ 0 = omega arith in rw none (run_zero j)

    still_tops : run_of (1 - 0 - j) j ≡ 0
    still_tops = let none : 1 - 0 - j ≡ 0 = omega arith in rw none (run_zero j)

    braked_none : braked_of d j 0 1 ≡ 0
    braked_none = by_bound (braked_of d j 0 1) (braked_is d j 0 1 (omega arith))
      where
        by_bound : (x : ℕ) → Bound d j 0 1 x → x ≡ 0
        by_bound x (by_fall is) = omega arith
        by_bound x (by_change is) = omega arith
        by_bound x (by_reach is) = omega (arith, reach_some 1 j (omega arith) (omega arith))

    no_way : way_of d j 0 1 ≡ 0
    no_way =
        let unfolds : way_of d j 0 1 ≡ braked_of d j 0 1 + way_of d j 1 (braked_of d j 0 1) = way_unfold d j 0 1 slows (omega arith) in
        let rests : way_of d j 1 0 ≡ 0 = way_zero d j 1 slows (omega arith) in
        let same : way_of d j 1 (braked_of d j 0 1) ≡ way_of d j 1 0 = ap (λ x. way_of d j 1 x) braked_none in
        omega (arith, braked_none)
