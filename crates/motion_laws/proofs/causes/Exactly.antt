-- An answer that brings no error says of none.
-- for: errors_have_causes
use Rattle.std.specs.Prelude.{◌≡◌, refl, ℕ, Bool, true, false, not, ◌&&◌, nat_eq, if◌then◌else◌}
use Rattle.std.proofs.Common.{ap, sym, inl, inr, ◌∙◌}
use Rattle.std.proofs.lemmas.Bool.{cases_Bool}
use Rattle.axis_core.specs.Drives.{actual_of, answer_error_of, has_fault, is_operational, is_within, new_error_of}
use Rattle.axis_core.specs.blocks.Power.{is_powered}
use Rattle.axis_core.specs.declared.axis.Axis.{Axis}
use Rattle.axis_state.specs.States.{is_error_stop}
use Rattle.plc_types.specs.declared.drive.DriveIn.{DriveIn}
use Rattle.motion_numbers.specs.Ranges.{is_outside}
use Rattle.motion_laws.proofs.causes.Answers.{faults, operational, takes}
use Rattle.motion_laws.proofs.causes.Wishes.{both_hold}
use Rattle.motion_laws.proofs.error_ids.Tests.{outside}
use Rattle.motion_laws.specs.causes.Axis.{AnswerBrings, ComesOutside, LosesDrive}
use Rattle.motion_laws.specs.causes.Axis as by

-- the tests of an answer
record AreTests (x y z : Bool) : Type 0 where
  fault : x ≡ false
  lost : y ≡ false
  outside : z ≡ false

no_tests : (fault lost outside : Bool) →
    (let n : ℕ = if fault then 101 else if lost then 102 else if outside then 105 else 0 in
    nat_eq n 0 ≡ true) → AreTests fault lost outside
no_tests true lost outside h = absurd (cc)
no_tests false true outside h = absurd (cc)
no_tests false false true h = absurd (cc)
no_tests false false false h = record { fault = refl; lost = refl; outside = refl }

all_three : (x y z : Bool) → x ≡ true → y ≡ true → z ≡ true → x && y && z ≡ true
all_three true true z h k l = l
all_three true false z h k l = absurd (cc)
all_three false y z h k l = absurd (cc)

loses : (a : Axis) (d : DriveIn) → LosesDrive a d →
    is_powered a && a.driven && not (is_operational d) ≡ true
loses a d h =
    all_three (is_powered a) a.driven (not (is_operational d)) h.powered h.driven
    (elim (cases_Bool (is_operational d)) [
      | inl on ↦ absurd (h.lost (operational d on))
      | inr off ↦ ap not off
    ])

comes : (a : Axis) (d : DriveIn) → ComesOutside a d →
    is_powered a && is_operational d && not a.driven && not (is_within a d) ≡ true
comes a d h =
    both_hold (is_powered a && is_operational d && not a.driven) (not (is_within a d))
    (all_three (is_powered a) (is_operational d) (not a.driven) h.powered (takes d h.takes)
    (ap not h.idle))
    (twice (is_outside a.limits.lo (actual_of a d) a.limits.hi)
    ((outside a.limits.lo (actual_of a d) a.limits.hi).1 h.outside))
  where
    twice : (b : Bool) → b ≡ true → not (not b) ≡ true
    twice true e = refl
    twice false e = absurd (cc)

pub none_brings : (a : Axis) (d : DriveIn) → nat_eq (answer_error_of a d) 0 ≡ true →
    is_error_stop a.state ≡ false → (error : ℕ) → AnswerBrings a d error → ⊥
unfolding answer_error_of
none_brings a d none runs error brings =
    let new : nat_eq (new_error_of a d) 0 ≡ true =
    sym (ap (λ b. nat_eq (if b then 0 else new_error_of a d) 0) runs) ∙ none in
    let tests = no_tests (has_fault d) (is_powered a && a.driven && not (is_operational d))
    (is_powered a && is_operational d && not a.driven && not (is_within a d)) new in
    on tests brings
  where
    on : AreTests (has_fault d) (is_powered a && a.driven && not (is_operational d))
        (is_powered a && is_operational d && not a.driven && not (is_within a d)) →
        AnswerBrings a d error → ⊥
    on tests (by.fault e h) = let yes = faults d h in let none = tests.fault in cc
    on tests (by.lost e h) = let yes = loses a d h in let none = tests.lost in cc
    on tests (by.outside e h) = let yes = comes a d h in let none = tests.outside in cc
