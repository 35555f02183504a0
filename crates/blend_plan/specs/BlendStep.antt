-- The wanted step of a move that is blended into the next one, and where it crosses the first
-- target.
use Rattle.std.specs.Prelude.{◌≡◌, ◌⊎◌, ℕ, ◌+◌, ◌-◌, Bool, nat_le, ◌&&◌, ◌||◌, ℤ, pos, ◌+ℤ◌, ◌-ℤ◌, ◌≤ℤ◌, int_le, unsigned_abs, max, unwrap_or}
use Rattle.std.specs.Int.{int_max}
use Rattle.command_pool.specs.declared.rates.Rates.{Rates}
use Rattle.motion_numbers.specs.Greatest.{greatest}
use Rattle.motion_numbers.specs.Run.{run_of}
use Rattle.kin_core.specs.Toward.{toward_zero}
use Rattle.blend_plan.specs.Sums.{rise_of, above_of}

-- a step after which the first move can still stop at its target at the distance l1, within its own
-- velocity. This project's profile
pub record StopsAtFirst (l1 : ℤ) (first : Rates) (u : ℤ) : Type 0 where
  pub run : pos (run_of (unsigned_abs u) (unsigned_abs first.d)) ≤ℤ l1
  pub velocity : u ≤ℤ first.v

-- a step that leads past the first target, at the distance l1, at the blend velocity vb: it is
-- above the first velocity only where speeding up from it to vb takes the whole way to the target,
-- it is at most the greater of the two velocities, slowing from it to vb fits that way, and after
-- it the second move can still stop at its target at the distance l2. This project's profile
pub record PassesFirst (l1 l2 : ℤ) (first second : Rates) (vb u : ℤ) : Type 0 where
  pub faster : (u ≤ℤ first.v) ⊎ (l1 ≤ℤ pos (rise_of (unsigned_abs u) (unsigned_abs vb) (unsigned_abs first.a)))
  pub velocity : u ≤ℤ int_max first.v vb
  pub slowed : pos (above_of (unsigned_abs u) (unsigned_abs vb) (unsigned_abs first.d)) ≤ℤ l1
  pub run : pos (run_of (unsigned_abs u) (unsigned_abs second.d)) ≤ℤ l2

-- u may follow the old step in a blend, all counted in the direction from the first target to the
-- second: it does not turn back, is within the greater deceleration below and the first
-- acceleration above, and stops at the first target or passes it. This project's profile
pub record MayBlend (l1 l2 old : ℤ) (first second : Rates) (vb u : ℤ) : Type 0 where
  pub ahead : pos 0 ≤ℤ u
  pub deceleration : (old -ℤ int_max first.d second.d) ≤ℤ u
  pub acceleration : u ≤ℤ (old +ℤ first.a)
  pub way : StopsAtFirst l1 first u ⊎ PassesFirst l1 l2 first second vb u

-- u is the blend step: the greatest step that may follow in the blend, or, where none may, the old
-- step moved by the first deceleration toward zero. This project's profile
pub record IsBlendStep (l1 l2 old : ℤ) (first second : Rates) (vb u : ℤ) : Type 0 where
  pub follows : (k : ℤ) → MayBlend l1 l2 old first second vb k → MayBlend l1 l2 old first second vb u
  pub greatest : (k : ℤ) → MayBlend l1 l2 old first second vb k → k ≤ℤ u
  pub none : ((k : ℤ) → MayBlend l1 l2 old first second vb k → ⊥) → u ≡ toward_zero old first.d

-- a taken step crosses: it is at most the blend velocity, ends at the first target or past it, and
-- the second move can stop at its target after it. This project's profile
pub record Crosses (l1 l2 : ℤ) (second : Rates) (vb u : ℤ) : Type 0 where
  pub velocity : u ≤ℤ vb
  pub reached : l1 ≤ℤ u
  pub run : pos (run_of (unsigned_abs u) (unsigned_abs second.d)) ≤ℤ l2

-- whether a taken step crosses. This project's profile
abbrev pub crosses_at : ℤ → ℤ → Rates → ℤ → ℤ → Bool
crosses_at l1 l2 second vb u =
    int_le u vb && int_le l1 u && int_le (pos (run_of (unsigned_abs u) (unsigned_abs second.d))) l2

-- whether a step stops at the first target, in sizes. This project's profile
abbrev pub stops_at_first : ℕ → Rates → ℕ → Bool
stops_at_first l1 first u = nat_le (run_of u (unsigned_abs first.d)) l1 && nat_le u (unsigned_abs first.v)

-- whether a step passes the first target, in sizes. This project's profile
abbrev pub passes_first : ℕ → ℕ → Rates → Rates → ℕ → ℕ → Bool
passes_first l1 l2 first second vb u =
    (nat_le u (unsigned_abs first.v) || nat_le l1 (rise_of u vb (unsigned_abs first.a)))
    && nat_le u (max (unsigned_abs first.v) vb)
    && nat_le (above_of u vb (unsigned_abs first.d)) l1
    && nat_le (run_of u (unsigned_abs second.d)) l2

-- whether a step stops at the first target or passes it, in sizes. This project's profile
abbrev pub stops_or_passes : ℕ → ℕ → Rates → Rates → ℕ → ℕ → Bool
stops_or_passes l1 l2 first second vb u = stops_at_first l1 first u || passes_first l1 l2 first second vb u

-- whether u may follow a step of size w in a blend, in sizes. This project's profile
abbrev pub may_blend : ℕ → ℕ → ℕ → Rates → Rates → ℕ → ℕ → Bool
may_blend l1 l2 w first second vb u =
    nat_le (w - max (unsigned_abs first.d) (unsigned_abs second.d)) u
    && nat_le u (w + unsigned_abs first.a)
    && stops_or_passes l1 l2 first second vb u

-- the size of the blend step from a step of size w. This project's profile
unfoldable pub blend_size_of : ℕ → ℕ → ℕ → Rates → Rates → ℕ → ℕ
blend_size_of l1 l2 w first second vb =
    unwrap_or (greatest (w + unsigned_abs first.a) (may_blend l1 l2 w first second vb))
    (w - unsigned_abs first.d)

-- the blend step at the distances l1 and l2, the old step and the blend velocity vb, counted in the
-- direction from the first target to the second. This project's profile
unfoldable pub blend_step_of : ℤ → ℤ → ℤ → Rates → Rates → ℤ → ℤ
blend_step_of l1 l2 old first second vb =
    pos (blend_size_of (unsigned_abs l1) (unsigned_abs l2) (unsigned_abs old) first second (unsigned_abs vb))
