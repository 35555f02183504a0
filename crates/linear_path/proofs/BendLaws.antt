-- Three places in a row: how their steps may follow each other.
-- for: leads_its_axes
use Rattle.std.proofs.Common.{◌≡◌, ℕ, ◌+◌, ◌<◌, ◌≤◌, inl, inr, arith, true, ℤ, pos, ◌+ℤ◌, ◌-ℤ◌, ◌≤ℤ◌, unsigned_abs, ◌⊎◌}
use Rattle.std.specs.Int.{int_min, int_max}
use Rattle.std.proofs.lemmas.Bool.{cases_lt}
use Rattle.std.proofs.lemmas.Int.{ints, clamps}
use Rattle.plc_types.specs.declared.limits.Limits.{Limits}
use Rattle.plc_types.specs.Limits.{AreLimits}
use Rattle.kin_core.specs.Admissible.{IsAdmissible, least_step_after, greatest_step_after}
use Rattle.linear_path.specs.Line.{part_of, keeps_velocity, keeps_change}
use Rattle.linear_path.proofs.PartLaws.{parts_rise, step_kept, bend_up, bend_down}

-- a step of at most v, after which the change is at most d toward zero and at most a past zero
pub record Bends (v a d x0 x1 x2 : ℕ) : Type 0 where
  pub up : x2 ≤ x1 + v
  pub down : x1 ≤ x2 + v
  pub falls : x1 + x1 ≤ x2 + x0 + d
  pub falls_past_zero : (x1 + x1 ≤ x2 + x0 + a) ⊎ (x1 ≤ x2)
  pub rises : x2 + x0 ≤ x1 + x1 + d
  pub rises_past_zero : (x2 + x0 ≤ x1 + x1 + a) ⊎ (x2 ≤ x1)

-- admissible places of a path bend so
pub bends_of_admissible : (length v a d x0 x1 x2 : ℕ) → a ≤ d →
    IsAdmissible (record { lo = pos 0; hi = pos length; vmax = pos v; amax = pos a; dmax = pos d })
    (pos x0) (pos x1) (pos x2) → Bends v a d x0 x1 x2
bends_of_admissible length v a d x0 x1 x2 order ok =
    let speed : pos (unsigned_abs (pos x2 -ℤ pos x1)) ≤ℤ pos v = ok.speed in
    let falls : int_max ((pos x1 -ℤ pos x0) -ℤ pos d)
    (int_min ((pos x1 -ℤ pos x0) -ℤ pos a) (pos 0)) ≤ℤ (pos x2 -ℤ pos x1) = ok.falls in
    let rises : (pos x2 -ℤ pos x1) ≤ℤ int_min ((pos x1 -ℤ pos x0) +ℤ pos d)
    (int_max ((pos x1 -ℤ pos x0) +ℤ pos a) (pos 0)) = ok.rises in
    record {
      up = omega (arith, ints, speed);
      down = omega (arith, ints, speed);
      falls = omega (arith, ints, clamps, falls);
      falls_past_zero = elim (cases_lt x2 x1) [
        | inl back ↦ inl (omega (arith, ints, clamps, falls))
        | inr ahead ↦ inr ahead
      ];
      rises = omega (arith, ints, clamps, rises);
      rises_past_zero = elim (cases_lt x1 x2) [
        | inl ahead ↦ inl (omega (arith, ints, clamps, rises))
        | inr back ↦ inr back
      ];
    }

-- and the parts of an axis's way do within its own limits
pub bends_of_parts : (way length v a d w b c s0 s1 s2 : ℕ) → 0 < length →
    keeps_velocity way length v w ≡ true → keeps_change way length a b ≡ true →
    keeps_change way length d c ≡ true → Bends w b c s0 s1 s2 →
    Bends v a d (part_of way length s0) (part_of way length s1) (part_of way length s2)
bends_of_parts way length v a d w b c s0 s1 s2 some keeps_v keeps_a keeps_d bends =
    record {
      up = step_kept way length v w s1 s2 some keeps_v bends.up;
      down = step_kept way length v w s2 s1 some keeps_v bends.down;
      falls = bend_down way length d c s0 s1 s2 some keeps_d bends.falls;
      falls_past_zero = elim bends.falls_past_zero [
        | inl near ↦
            inl (bend_down way length a b s0 s1 s2 some keeps_a near)
        | inr ahead ↦ inr (parts_rise way length s1 s2 ahead)
      ];
      rises = bend_up way length d c s0 s1 s2 some keeps_d bends.rises;
      rises_past_zero = elim bends.rises_past_zero [
        | inl near ↦
            inl (bend_up way length a b s0 s1 s2 some keeps_a near)
        | inr back ↦ inr (parts_rise way length s2 s1 back)
      ];
    }

-- a step falls as far as it may
falls_from : (limits : Limits) (old new : ℤ) → (old -ℤ limits.dmax) ≤ℤ new →
    ((old -ℤ limits.amax) ≤ℤ new) ⊎ (pos 0 ≤ℤ new) → least_step_after limits old ≤ℤ new
falls_from limits old new whole past =
    elim past [ inl near ↦ omega (arith, ints, clamps) | inr ahead ↦ omega (arith, ints, clamps) ]

-- and rises as far as it may
rises_from : (limits : Limits) (old new : ℤ) → new ≤ℤ (old +ℤ limits.dmax) →
    (new ≤ℤ (old +ℤ limits.amax)) ⊎ (new ≤ℤ pos 0) → new ≤ℤ greatest_step_after limits old
rises_from limits old new whole past =
    elim past [ inl near ↦ omega (arith, ints, clamps) | inr back ↦ omega (arith, ints, clamps) ]

-- places that bend within an axis's limits are admissible, counted from its start forward
pub admissible_forward : (limits : Limits) (start : ℤ) (x0 x1 x2 : ℕ) → AreLimits limits →
    limits.lo ≤ℤ (start +ℤ pos x2) → (start +ℤ pos x2) ≤ℤ limits.hi →
    Bends (unsigned_abs limits.vmax) (unsigned_abs limits.amax)
    (unsigned_abs limits.dmax) x0 x1 x2 →
    IsAdmissible limits (start +ℤ pos x0) (start +ℤ pos x1) (start +ℤ pos x2)
admissible_forward limits start x0 x1 x2 ok above below bends =
    record {
      above = above;
      below = below;
      speed = omega (arith, ints, bends.up, bends.down);
      falls = falls_from limits ((start +ℤ pos x1) -ℤ (start +ℤ pos x0))
          ((start +ℤ pos x2) -ℤ (start +ℤ pos x1)) (omega (arith, ints, bends.falls))
          (elim bends.falls_past_zero [
            | inl near ↦ inl (omega (arith, ints))
            | inr ahead ↦ inr (omega (arith, ints))
          ]);
      rises = rises_from limits ((start +ℤ pos x1) -ℤ (start +ℤ pos x0))
          ((start +ℤ pos x2) -ℤ (start +ℤ pos x1)) (omega (arith, ints, bends.rises))
          (elim bends.rises_past_zero [
            | inl near ↦ inl (omega (arith, ints))
            | inr back ↦ inr (omega (arith, ints))
          ]);
    }

-- and backward
pub admissible_backward : (limits : Limits) (start : ℤ) (x0 x1 x2 : ℕ) → AreLimits limits →
    limits.lo ≤ℤ (start -ℤ pos x2) → (start -ℤ pos x2) ≤ℤ limits.hi →
    Bends (unsigned_abs limits.vmax) (unsigned_abs limits.amax)
    (unsigned_abs limits.dmax) x0 x1 x2 →
    IsAdmissible limits (start -ℤ pos x0) (start -ℤ pos x1) (start -ℤ pos x2)
admissible_backward limits start x0 x1 x2 ok above below bends =
    record {
      above = above;
      below = below;
      speed = omega (arith, ints, bends.up, bends.down);
      falls = falls_from limits ((start -ℤ pos x1) -ℤ (start -ℤ pos x0))
          ((start -ℤ pos x2) -ℤ (start -ℤ pos x1)) (omega (arith, ints, bends.rises))
          (elim bends.rises_past_zero [
            | inl near ↦ inl (omega (arith, ints))
            | inr back ↦ inr (omega (arith, ints))
          ]);
      rises = rises_from limits ((start -ℤ pos x1) -ℤ (start -ℤ pos x0))
          ((start -ℤ pos x2) -ℤ (start -ℤ pos x1)) (omega (arith, ints, bends.falls))
          (elim bends.falls_past_zero [
            | inl near ↦ inl (omega (arith, ints))
            | inr ahead ↦ inr (omega (arith, ints))
          ]);
    }

-- an axis that stands within its limits may go on standing
pub standing_is_admissible : (limits : Limits) (place : ℤ) → AreLimits limits → limits.lo ≤ℤ place →
    place ≤ℤ limits.hi → IsAdmissible limits place place place
standing_is_admissible limits place ok above below =
    record {
      above = above;
      below = below;
      speed = omega (arith, ints);
      falls = falls_from limits (place -ℤ place) (place -ℤ place) (omega (arith, ints))
          (inr (omega (arith, ints)));
      rises = rises_from limits (place -ℤ place) (place -ℤ place) (omega (arith, ints))
          (inr (omega (arith, ints)));
    }
