-- A blend that has a step keeps having one until it crosses, in sizes.
-- for: crossings_have_the_target_between, blends_go_on_until_they_cross, blends_without_steps_brake
use Rattle.std.proofs.Common.{◌≡◌, ◌⊎◌, ℕ, zero, suc, ◌+◌, ◌-◌, ◌*◌, ◌≤◌, ◌<◌, max, min, arith, refl, inl, inr}
use Rattle.std.specs.Int.{div_ceil}
use Rattle.std.proofs.lemmas.Nat.{mul-le}
use Rattle.std.proofs.lemmas.Bool.{cases_lt}
use Rattle.motion_numbers.specs.Run.{run_of, reach_of}
use Rattle.ramp_root.specs.Sums.{sum_of}
use Rattle.blend_plan.specs.Sums.{rise_of}
use Rattle.blend_plan.proofs.Slowings.{above-zero, above-mono, above-unfold}
use Rattle.blend_plan.proofs.Speedings.{HasTerms, rise-ge, rise-there, rise-unfold, rise-counted, terms-counted}
use Rattle.blend_plan.proofs.BlendSizes.{StopsSize, PassesSize, BlendsSize}
use Rattle.motion_numbers.specs.Laws.{AreWays}
use Rattle.ramp_root.specs.Laws.{AreSums}

-- a step crosses
pub record CrossesSize (e l1 l2 vb u : ℕ) : Type 0 where
  pub velocity : u ≤ vb
  pub reached : l1 ≤ u
  pub run : run_of u e ≤ l2

-- what is needed to speed up to the blend velocity further on
record IsSpeedingUp (a e l1 l2 vb u : ℕ) : Type 0 where
  gain : 0 < a
  fall : 0 < e
  order : l1 < l2
  slow : u < vb
  before : u < l1
  risen : l1 ≤ rise_of u vb a
  run : run_of u e ≤ l2

-- a step that may follow
pub record HasBlendSize (v a d e l1 l2 w vb : ℕ) : Type 0 where
  pub step : ℕ
  pub blends : BlendsSize v a d e l1 l2 w vb step

module _ (ways : AreWays) where
  open ways use {run_ge, run_small, run_unfold, run_zero}

  -- after a first step the rest of its run
  run-rest : (u d l : ℕ) → 0 < d → run_of u d ≤ l → run_of (u - d) d ≤ l - u
  run-rest u d l some fits = omega (arith, run_unfold u d some)

  -- a run of at most m terms
  run-terms : (m x d : ℕ) → 0 < d → x ≤ m * d → run_of x d ≤ m * x
  run-terms zero x d some h = let none : x ≡ 0 = omega arith in rw none (omega (arith, run_zero d))
  run-terms (suc m) x d some h =
      let rest : run_of (x - d) d ≤ m * (x - d) = run-terms m (x - d) d some (omega arith) in
      let less : m * (x - d) ≤ m * x = mul-le m (x - d) m x (omega arith) (omega arith) in
      omega (arith, run_unfold x d some)

  run-few : (m w d : ℕ) → 0 < d → suc w ≤ m * d → run_of (suc w) d ≤ m * w + 1
  run-few zero w d some h = absurd (omega arith)
  run-few (suc m) w d some h =
      let rest : run_of (suc w - d) d ≤ m * (suc w - d) = run-terms m (suc w - d) d some (omega arith) in
      let less : m * (suc w - d) ≤ m * w = mul-le m (suc w - d) m w (omega arith) (omega arith) in
      omega (arith, run_unfold (suc w) d some)

  -- a step that does not cross ends at the first target or before it
  pub not-past : (v a d e l1 l2 w vb u : ℕ) → 0 < d → BlendsSize v a d e l1 l2 w vb u →
      (CrossesSize e l1 l2 vb u → ⊥) → u ≤ l1
  not-past v a d e l1 l2 w vb u some blends crosses = by_way blends.way
    where
      by_way : StopsSize v d l1 u ⊎ PassesSize v a d e l1 l2 vb u → u ≤ l1
      by_way (inl stops) = omega (arith, run_ge u d some, stops.run)
      by_way (inr passes) =
          elim (cases_lt vb u) [
            | inl more ↦ omega (arith, above-unfold u vb d some more, passes.slowed)
            | inr slow ↦ elim (cases_lt u l1) [
              | inl less ↦ omega arith
              | inr reached ↦ absurd (crosses (record { velocity = slow; reached = reached; run = passes.run }))
            ]
          ]

  -- a step of 1 follows an old step that can be slowed as far
  pub one-follows : (v a d e l1 l2 w vb : ℕ) → 0 < v → 0 < a → 0 < d → 0 < e → 0 < vb → l1 < l2 → w - max d e ≤ 1 →
      BlendsSize v a d e l1 l2 w vb 1
  one-follows v a d e l1 l2 w vb fast gain some hard passing order slows = record {
    deceleration = slows;
    acceleration = omega arith;
    way = elim (cases_lt 0 l1) [
      | inl way ↦ inl (record { run = omega (arith, run_small 1 d some some); velocity = fast })
      | inr at ↦ inr (record {
        faster = inl fast;
        velocity = omega arith;
        slowed = omega (arith, above-zero 1 vb d passing);
        run = omega (arith, run_small 1 e hard hard);
      })
    ];
  }

  -- so where some step may follow, one of at least 1 may
  pub some-follows : (v a d e l1 l2 w vb u : ℕ) → 0 < v → 0 < a → 0 < d → 0 < e → 0 < vb → l1 < l2 →
      BlendsSize v a d e l1 l2 w vb u → (s : ℕ) → ((k : ℕ) → BlendsSize v a d e l1 l2 w vb k → k ≤ s) → 0 < s
  some-follows v a d e l1 l2 w vb u fast gain some hard passing order blends s most =
      elim (cases_lt 1 (w - max d e)) [
        | inl more ↦ omega (arith, most u blends, blends.deceleration)
        | inr slows ↦ most 1 (one-follows v a d e l1 l2 w vb fast gain some hard passing order slows)
      ]

module _ (sums : AreSums) where
  open sums use {sum_front}

  -- where m terms are below v the rise is at least their sum
  rise-at-least : (m w v a : ℕ) → 0 < a → w + m * a < v + a → sum_of m a w + v ≤ rise_of w v a
  unfolding sum_of
  rise-at-least zero w v a some h = let none : sum_of zero a w ≡ 0 = refl in omega (arith, rise-ge w v a)
  rise-at-least (suc m) w v a some h =
      let rest : sum_of m a (w + a) + v ≤ rise_of (w + a) v a = rise-at-least m (w + a) v a some (omega arith) in
      omega (arith, rise-unfold w v a some (omega arith), sum_front m a w)

module _ (ways : AreWays) (sums : AreSums) where
  open ways use {fits_below_reach, reach_greatest, run_mono}
  open sums use {sum_shifts}

  -- at a smaller step, as far as the second target asks for one, the rise is still long enough
  slower-rise : (a e l1 l2 vb u w : ℕ) → IsSpeedingUp a e l1 l2 vb u → w ≤ u → u - e ≤ w →
      (w < u → l2 - u < run_of (suc w) e) → l1 - u ≤ rise_of w vb a
  slower-rise a e l1 l2 vb u w is under near over =
      elim (cases_lt w u) [
        | inl less ↦ counted (div_ceil (vb - u) a) less (terms-counted u vb a is.gain (omega (arith, is.slow)))
        | inr same ↦ let here : w ≡ u = omega arith in rw here (omega (arith, is.risen))
      ]
    where
      counted : (m : ℕ) → w < u → HasTerms u vb a m → l1 - u ≤ rise_of w vb a
      counted m less has =
          let least : sum_of m a w + vb ≤ rise_of w vb a = rise-at-least sums m w vb a is.gain (omega (arith, has.few)) in
          let high : rise_of u vb a ≡ sum_of m a u + vb = rise-counted sums m u vb a is.gain has in
          let shift_low : sum_of m a w ≡ sum_of m a 0 + w * m = sum_shifts m a w in
          let shift_high : sum_of m a u ≡ sum_of m a 0 + u * m = sum_shifts m a u in
          let parts : w + (u - w) ≡ u = omega arith in
          let split : u * m ≡ w * m + (u - w) * m = rw parts at (shares w (u - w) m) in
          elim (cases_lt u ((u - w) * m)) [
            | inl long ↦ let falls : (u - w) * m ≤ e * m = mul-le (u - w) m e m (omega arith) (omega arith) in
                let few : run_of (suc w) e ≤ m * w + 1 = run-few ways m w e is.fall (omega arith) in
                omega (arith, over less, is.order, is.before)
            | inr short ↦ omega (arith, is.risen)
          ]
        where
          shares : (x y n : ℕ) → (x + y) * n ≡ x * n + y * n
          shares x y n = omega arith

  -- after a step that does not cross there is one again
  pub goes-on : (v a d e l1 l2 w vb u : ℕ) → 0 < a → 0 < d → 0 < e → l1 < l2 → BlendsSize v a d e l1 l2 w vb u →
      (CrossesSize e l1 l2 vb u → ⊥) → HasBlendSize v a d e (l1 - u) (l2 - u) u vb
  goes-on v a d e l1 l2 w vb u gain some hard order blends crosses = by_way blends.way
    where
      speeds_up : PassesSize v a d e l1 l2 vb u → IsSpeedingUp a e l1 l2 vb u → HasBlendSize v a d e (l1 - u) (l2 - u) u vb
      speeds_up passes is =
          let rest : run_of (u - e) e ≤ l2 - u = run-rest ways u e l2 hard passes.run in
          let near : u - e ≤ reach_of (l2 - u) e = reach_greatest (u - e) (l2 - u) e hard rest in
          record {
            step = min u (reach_of (l2 - u) e);
            blends = record {
              deceleration = omega arith;
              acceleration = omega arith;
              way = inr (record {
                faster = inr (slower-rise a e l1 l2 vb u (min u (reach_of (l2 - u) e)) is (omega arith) (omega arith)
                    (λ less. elim (cases_lt (l2 - u) (run_of (suc (min u (reach_of (l2 - u) e))) e)) [
                      | inl over ↦ over
                      | inr fits ↦ absurd (omega (arith, reach_greatest (suc (min u (reach_of (l2 - u) e))) (l2 - u) e hard fits))
                    ]));
                velocity = omega (arith, is.slow);
                slowed = omega (arith, above-zero (min u (reach_of (l2 - u) e)) vb d (omega (arith, is.slow)));
                run = fits_below_reach (min u (reach_of (l2 - u) e)) (l2 - u) e hard (omega arith);
              });
            };
          }

      passing : PassesSize v a d e l1 l2 vb u → HasBlendSize v a d e (l1 - u) (l2 - u) u vb
      passing passes =
          elim (cases_lt vb u) [
            | inl more ↦ record {
              step = u - max d e;
              blends = record {
                deceleration = omega arith;
                acceleration = omega arith;
                way = inr (record {
                  faster = inl (omega (arith, passes.velocity));
                  velocity = omega (arith, passes.velocity);
                  slowed = omega (arith, above-mono (u - max d e) (u - d) vb d some (omega arith), above-unfold u vb d some more, passes.slowed);
                  run = omega (arith, run_mono (u - max d e) (u - e) e hard (omega arith), run-rest ways u e l2 hard passes.run);
                });
              };
            }
            | inr slow ↦ elim (cases_lt v u) [
              | inl fast ↦ elim (cases_lt u l1) [
                | inl before ↦ elim (cases_lt u vb) [
                  | inl below ↦ speeds_up passes (record {
                    gain = gain;
                    fall = hard;
                    order = order;
                    slow = below;
                    before = before;
                    risen = by_faster fast passes.faster;
                    run = passes.run;
                  })
                  | inr at ↦ absurd (omega (arith, by_faster fast passes.faster, rise-there u vb a at))
                ]
                | inr reached ↦ absurd (crosses (record { velocity = slow; reached = reached; run = passes.run }))
              ]
              | inr own ↦ record {
                step = u - e;
                blends = record {
                  deceleration = omega arith;
                  acceleration = omega arith;
                  way = inr (record {
                    faster = inl (omega arith);
                    velocity = omega arith;
                    slowed = omega (arith, above-zero (u - e) vb d (omega arith));
                    run = run-rest ways u e l2 hard passes.run;
                  });
                };
              }
            ]
          ]
        where
          by_faster : v < u → (u ≤ v) ⊎ (l1 ≤ rise_of u vb a) → l1 ≤ rise_of u vb a
          by_faster fast (inl own) = absurd (omega arith)
          by_faster fast (inr risen) = risen

      by_way : StopsSize v d l1 u ⊎ PassesSize v a d e l1 l2 vb u → HasBlendSize v a d e (l1 - u) (l2 - u) u vb
      by_way (inl stops) = record {
        step = u - d;
        blends = record {
          deceleration = omega arith;
          acceleration = omega arith;
          way = inl (record { run = run-rest ways u d l1 some stops.run; velocity = omega (arith, stops.velocity) });
        };
      }
      by_way (inr passes) = passing passes
