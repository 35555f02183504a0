-- What a drive's answer says where it brings an error.
use Rattle.std.specs.Prelude.{◌≡◌, ◌⊎◌, refl, ℕ, ℤ, ◌≤ℤ◌, pos, Bool, true, false, not, ◌&&◌, ◌||◌, int_lt, nat_eq, if◌then◌else◌, Option, Some, None}
use Rattle.std.specs.Ordering.{int_eq}
use Rattle.std.proofs.Common.{arith, ap, inl, inr, ◌∙◌}
use Rattle.std.proofs.lemmas.Bool.{and_parts, cases_Bool}
use Rattle.std.proofs.lemmas.Bool.Decides.{Decides-int_eq}
use Rattle.std.proofs.lemmas.Int.{ints}
use Rattle.axis_core.specs.Drives.{actual_of, answer_error_of, has_fault, is_enabled, is_operational, is_within, new_error_of, reads_fault}
use Rattle.axis_core.specs.Ranges.{IsBetween}
use Rattle.axis_core.specs.blocks.Power.{is_powered}
use Rattle.axis_core.specs.declared.axis.Axis.{Axis}
use Rattle.axis_state.specs.States.{is_error_stop}
use Rattle.cia402_machine.specs.Statusword.{state_of_word}
use Rattle.plc_types.specs.declared.drive.DriveIn.{DriveIn}
use Rattle.plc_types.specs.declared.drive.DriveState.{DriveState}
use Rattle.plc_types.specs.declared.drive.DriveState.TheVariants as drive
use Rattle.motion_numbers.specs.Ranges.{is_outside}
use Rattle.motion_laws.specs.causes.Axis.{AnswerBrings, ComesOutside, LosesDrive, ReportsFault, TakesSetpoints}
use Rattle.motion_laws.specs.causes.Axis as by

-- a fault that is read is one of two states
faulty : (o : Option DriveState) → reads_fault o ≡ true →
    (o ≡ Some drive.Fault) ⊎ (o ≡ Some drive.FaultReactionActive)
faulty None h = absurd (cc)
faulty (Some drive.Fault) h = inl refl
faulty (Some drive.FaultReactionActive) h = inr refl
faulty (Some _) h = absurd (cc)

-- a drive that takes setpoints is operational, and the other way round
enabled : (o : Option DriveState) → is_enabled o ≡ true → o ≡ Some drive.OperationEnabled
enabled None h = absurd (cc)
enabled (Some drive.OperationEnabled) h = refl
enabled (Some _) h = absurd (cc)

pub operational : (d : DriveIn) → is_operational d ≡ true → TakesSetpoints d
operational d h =
    let parts = and_parts (is_enabled (state_of_word d.statusword)) (int_eq d.mode_display (pos 8)) h in
    record {
      enabled = enabled (state_of_word d.statusword) parts.0;
      mode = (Decides-int_eq d.mode_display (pos 8)).0 parts.1;
    }

pub takes : (d : DriveIn) → TakesSetpoints d → is_operational d ≡ true
takes d h =
    ap (λ o. is_enabled o && int_eq d.mode_display (pos 8)) h.enabled
    ∙ (Decides-int_eq d.mode_display (pos 8)).1 h.mode

-- a place lies between two others where it isn't outside them
pub less : (x y : ℤ) → (y ≤ℤ x) → int_lt x y ≡ false
less x y h = elim (cases_Bool (int_lt x y)) [ inl l ↦ absurd (omega (arith, ints)) | inr l ↦ l ]

pub inside : (lo z hi : ℤ) → IsBetween lo z hi → is_outside lo z hi ≡ false
inside lo z hi h =
    let above = h.above in
    let below = h.below in
    ap (λ b. b || int_lt hi z) (less z lo above) ∙ less hi z below

not_false : (b : Bool) → not b ≡ true → b ≡ false
not_false true h = absurd (cc)
not_false false h = refl

-- one error after another
brings : (a : Axis) (d : DriveIn) (fault lost outside : Bool) →
    (fault ≡ true → ReportsFault d) → (fault ≡ false → lost ≡ true → LosesDrive a d) →
    (outside ≡ true → ComesOutside a d) →
    let n : ℕ = if fault then 101 else if lost then 102 else if outside then 105 else 0 in
    nat_eq n 0 ≡ false → AnswerBrings a d n
brings a d true lost outside f g h e = by.fault refl (f refl)
brings a d false true outside f g h e = by.lost refl (g refl refl)
brings a d false false true f g h e = by.outside refl (h refl)
brings a d false false false f g h e = absurd (cc)

pub faults : (d : DriveIn) → ReportsFault d → has_fault d ≡ true
faults d (inl e) = ap reads_fault e
faults d (inr e) = ap reads_fault e

loses : (a : Axis) (d : DriveIn) → has_fault d ≡ false → is_powered a && a.driven && not (is_operational d) ≡ true →
    LosesDrive a d
loses a d fine h =
    let parts = and_parts (is_powered a && a.driven) (not (is_operational d)) h in
    let before = and_parts (is_powered a) a.driven parts.0 in
    let off = not_false (is_operational d) parts.1 in
    record {
      powered = before.0;
      driven = before.1;
      lost = λ t. let on = takes d t in cc;
      sound = λ f. let bad = faults d f in cc;
    }

comes : (a : Axis) (d : DriveIn) →
    is_powered a && is_operational d && not a.driven && not (is_within a d) ≡ true →
    ComesOutside a d
comes a d h =
    let all = and_parts (is_powered a && is_operational d && not a.driven) (not (is_within a d)) h in
    let most = and_parts (is_powered a && is_operational d) (not a.driven) all.0 in
    let before = and_parts (is_powered a) (is_operational d) most.0 in
    let far = not_false (is_within a d) all.1 in
    record {
      powered = before.0;
      idle = not_false a.driven most.1;
      takes = operational d before.1;
      outside = λ b.
          let near = ap not (inside a.limits.lo (actual_of a d) a.limits.hi b) in cc;
    }

-- an error that an answer brings has its cause
pub answer_brings : (a : Axis) (d : DriveIn) → nat_eq (answer_error_of a d) 0 ≡ false →
    AnswerBrings a d (answer_error_of a d)
unfolding answer_error_of
answer_brings a d = on (is_error_stop a.state)
  where
    on : (b : Bool) → nat_eq (if b then 0 else new_error_of a d) 0 ≡ false →
        AnswerBrings a d (if b then 0 else new_error_of a d)
    on true h = absurd (cc)
    on false h = brings a d (has_fault d) (is_powered a && a.driven && not (is_operational d))
        (is_powered a && is_operational d && not a.driven && not (is_within a d))
        (faulty (state_of_word d.statusword)) (loses a d) (comes a d) h

-- in ErrorStop none does
pub answer_running : (a : Axis) (d : DriveIn) → nat_eq (answer_error_of a d) 0 ≡ false →
    is_error_stop a.state ≡ false
unfolding answer_error_of
answer_running a d = by (is_error_stop a.state)
  where
    by : (b : Bool) → nat_eq (if b then 0 else new_error_of a d) 0 ≡ false → b ≡ false
    by true h = absurd (cc)
    by false h = refl
