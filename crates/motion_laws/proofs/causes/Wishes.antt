-- What the active command wants where its wish is an error.
-- for: errors_have_causes, commands_end_by_their_kinds
use Rattle.std.specs.Prelude.{◌≡◌, refl, ℕ, ◌<◌, ℤ, ◌+ℤ◌, ◌-ℤ◌, ◌≤ℤ◌, ◌<ℤ◌, pos, Bool, true, false, ◌&&◌, ◌||◌, int_lt, nat_lt, if◌then◌else◌, unsigned_abs, Option, Some, Result, Ok, Err}
use Rattle.std.specs.Ordering.{int_eq}
use Rattle.std.proofs.Common.{arith, ap, inl, inr}
use Rattle.std.proofs.lemmas.Bool.{cases_Bool}
use Rattle.std.proofs.lemmas.Bool.Decides.{Decides-int_eq, nat_tests}
use Rattle.std.proofs.lemmas.Int.{by_lt_z, ints}
use Rattle.axis_core.specs.Cores.{Core}
use Rattle.axis_core.specs.Kinds.{wish_in}
use Rattle.axis_core.specs.Profiles.{profile_of}
use Rattle.axis_core.specs.Steps.{is_braking, is_safe_step, old_step_of, step_toward, taken_step_in, wish_within_limits}
use Rattle.axis_core.specs.blocks.Cam.{cam_wish_where, is_in_sync}
use Rattle.axis_core.specs.declared.axis.Axis.{Axis}
use Rattle.axis_core.specs.declared.look.AxisLook.{AxisLook}
use Rattle.axis_core.specs.declared.profile.Manner.{Manner}
use Rattle.axis_core.specs.declared.profile.Manner.TheVariants.{Runs, Gears, Cams}
use Rattle.command_pool.specs.declared.wanted.Wanted.{Wanted}
use Rattle.kin_core.specs.Admissible.{IsSafe}
use Rattle.motion_laws.specs.causes.Axis.{Brakes, CycleBrings, IsUnsafe, cam, limit, step_wanted}

-- what is taken of a safe step is that step
abbrev pub TakesSafe : Axis → Type 0
TakesSafe a = (step : ℤ) → IsSafe a.limits a.previous a.setpoint (a.setpoint +ℤ step) →
    taken_step_in a step ≡ step

unsafe : (a : Axis) (step : ℤ) → TakesSafe a → is_safe_step a step ≡ false → IsUnsafe a step
unsafe a step exact cut safe =
    let taken = (Decides-int_eq (taken_step_in a step) step).1 (exact step safe) in cc

-- a step between 0 and the one before it is one that brakes
positive : (z : ℤ) → pos 0 <ℤ z → int_lt (pos 0) z ≡ true
positive z h = grind (arith, ints)

negative : (z : ℤ) → z <ℤ pos 0 → int_lt z (pos 0) ≡ true
negative z h = grind (arith, ints)

smaller : (x y : ℕ) → x < y → nat_lt x y ≡ true
smaller x y h = grind (arith, nat_tests)

pub both_hold : (x y : Bool) → x ≡ true → y ≡ true → x && y ≡ true
both_hold true y h k = k
both_hold false y h k = absurd (cc)

first_or : (x y : Bool) → x ≡ true → (x || y) ≡ true
first_or true y h = refl
first_or false y h = absurd (cc)

or_second : (x y : Bool) → y ≡ true → (x || y) ≡ true
or_second true y h = refl
or_second false y h = h

above : (z : ℤ) → pos 0 ≤ℤ z → (z ≡ pos 0 → ⊥) → pos 0 <ℤ z
above z x other = by_lt_z (pos 0) z (λ l. l) (λ g. absurd (other (omega (arith, ints))))

below : (z : ℤ) → z ≤ℤ pos 0 → (z ≡ pos 0 → ⊥) → z <ℤ pos 0
below z x other = by_lt_z z (pos 0) (λ l. l) (λ g. absurd (other (omega (arith, ints))))

sizes : (old step : ℤ) → Brakes old step → unsigned_abs step < unsigned_abs old
sizes old step (inl (x, y)) = omega (arith, ints)
sizes old step (inr (x, y)) = omega (arith, ints)

some : (z : ℤ) → int_eq z (pos 0) ≡ false → z ≡ pos 0 → ⊥
some z moves e = let rests = (Decides-int_eq z (pos 0)).1 e in cc

signs : (old step : ℤ) → int_eq step (pos 0) ≡ false → Brakes old step →
    ((int_lt (pos 0) step && int_lt (pos 0) old) || (int_lt step (pos 0) && int_lt old (pos 0)))
    ≡ true
signs old step moves (inl (x, y)) =
    first_or _ _ (both_hold (int_lt (pos 0) step) (int_lt (pos 0) old)
    (positive step (above step x (some step moves))) (positive old (omega (arith, ints))))
signs old step moves (inr (x, y)) =
    or_second _ _ (both_hold (int_lt step (pos 0)) (int_lt old (pos 0))
    (negative step (below step y (some step moves))) (negative old (omega (arith, ints))))

braking : (old step : ℤ) → Brakes old step → is_braking old step ≡ true
braking old step h =
    both_hold (nat_lt (unsigned_abs step) (unsigned_abs old)) _
    (smaller (unsigned_abs step) (unsigned_abs old) (sizes old step h))
    (elim (cases_Bool (int_eq step (pos 0))) [
      | inl rest ↦ first_or (int_eq step (pos 0)) _ rest
      | inr moves ↦ or_second (int_eq step (pos 0)) _ (signs old step moves h)
    ])

-- an error of a wanted step
pub record IsLimited (a : Axis) (step : ℤ) (error : ℕ) : Type 0 where
  pub number : error ≡ 103
  pub unsafe : IsUnsafe a step
  pub fast : Brakes (old_step_of a) step → ⊥

abbrev pub error_of : ℕ → Result ℤ ℕ
error_of n = Err n

same_error : (x y : ℕ) → error_of x ≡ error_of y → y ≡ x
same_error x y e = cc

not_first : (x y : Bool) → (x || y) ≡ false → x ≡ false
not_first true y h = absurd (cc)
not_first false y h = refl

not_second : (x y : Bool) → (x || y) ≡ false → y ≡ false
not_second true y h = absurd (cc)
not_second false y h = h

limited : (a : Axis) (step : ℤ) (error : ℕ) → TakesSafe a →
    wish_within_limits a step ≡ Err error → IsLimited a step error
limited a step error exact e = by (is_braking (old_step_of a) step || is_safe_step a step) refl e
  where
    by : (b : Bool) → (is_braking (old_step_of a) step || is_safe_step a step) ≡ b →
        (if b then Ok step else error_of 103) ≡ error_of error → IsLimited a step error
    by true h f = absurd (cc)
    by false h f = record {
      number = same_error 103 error f;
      unsafe = unsafe a step exact (not_second (is_braking (old_step_of a) step) _ h);
      fast = λ brakes.
          let slow = braking (old_step_of a) step brakes in
          let fast = not_first (is_braking (old_step_of a) step) _ h in cc;
    }

-- an error of a command has its cause
by_limit : (look : AxisLook) (c : Core) (w : Wanted) (step place : ℤ) (error : ℕ) →
    c.axis.active ≡ Some w → step_wanted (profile_of w.kind).manner c.axis w look ≡ Some step →
    IsLimited c.axis step error → CycleBrings look c place error
by_limit look c w step place error active wanted h = limit h.number (record {
  command = w;
  active = active;
  step = step;
  wanted = wanted;
  unsafe = h.unsafe;
  fast = h.fast;
})

by_cam : (synchronized : Bool) (look : AxisLook) (c : Core) (w : Wanted) (place : ℤ)
    (error : ℕ) → TakesSafe c.axis → is_in_sync c.axis look ≡ synchronized →
    c.axis.active ≡ Some w → (profile_of w.kind).manner ≡ Cams →
    cam_wish_where synchronized c.axis w look.cam ≡ Err error → CycleBrings look c place error
by_cam true look c w place error exact sync active is e = absurd (cc)
by_cam false look c w place error exact sync active is e = by c.axis.reached refl e
  where
    by : (reached : Bool) → c.axis.reached ≡ reached →
        (if reached then error_of 104 else wish_within_limits c.axis (step_toward c.axis look.cam w))
        ≡ error_of error → CycleBrings look c place error
    by true was f = cam (same_error 104 error f) (record {
      command = w;
      active = active;
      of_manner = is;
      synchronized = was;
      far = unsafe c.axis (look.cam -ℤ c.axis.setpoint) exact sync;
    })
    by false was f =
        by_limit look c w (step_toward c.axis look.cam w) place error active
        (ap (λ m. step_wanted m c.axis w look) is)
        (limited c.axis (step_toward c.axis look.cam w) error exact f)

pub wish_caused : (m : Manner) (look : AxisLook) (c : Core) (w : Wanted)
    (next : Option Wanted) (place : ℤ) (error : ℕ) → TakesSafe c.axis →
    c.axis.active ≡ Some w → (profile_of w.kind).manner ≡ m →
    wish_in m c.axis w next look ≡ Err error → CycleBrings look c place error
wish_caused Runs look c w next place error exact active is e =
    by_limit look c w _ place error active (ap (λ m. step_wanted m c.axis w look) is)
    (limited c.axis _ error exact e)
wish_caused Gears look c w next place error exact active is e =
    by_limit look c w _ place error active (ap (λ m. step_wanted m c.axis w look) is)
    (limited c.axis _ error exact e)
wish_caused Cams look c w next place error exact active is e =
    by_cam (is_in_sync c.axis look) look c w place error exact refl active is e
wish_caused _ look c w next place error exact active is e = absurd (cc)
