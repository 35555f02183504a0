-- An answer by which the axis is driven brings no error.
-- for: paths_are_followed
use Rattle.std.specs.Prelude.{◌≡◌, refl, ℕ, Bool, true, false, ◌&&◌, ◌||◌, not, if◌then◌else◌, Option, Some}
use Rattle.cia402_machine.specs.Statusword.{state_of_word}
use Rattle.plc_types.specs.declared.drive.DriveIn.{DriveIn}
use Rattle.plc_types.specs.declared.drive.DriveState.{DriveState}
use Rattle.plc_types.specs.declared.drive.DriveState.TheVariants.{OperationEnabled}
use Rattle.axis_core.specs.Drives.{answer_error_of, has_fault, is_driven, is_enabled, is_operational, is_within, reads_fault}
use Rattle.axis_state.specs.States.{is_error_stop}
use Rattle.axis_core.specs.blocks.Power.{is_powered}
use Rattle.axis_core.specs.declared.axis.Axis.{Axis}
use Rattle.axis_core.proofs.KeptCycles.{driven-says}

fault_free : (s : Option DriveState) → is_enabled s ≡ true → reads_fault s ≡ false
fault_free (Some OperationEnabled) h = refl
fault_free _ h = absurd (cc)

enabled_of : (e m : Bool) → (e && m) ≡ true → e ≡ true
enabled_of true m h = refl
enabled_of false m h = absurd (cc)

-- no error of the answer, from what it is made of
abbrev error_in : (stopped fault powered operational driven within : Bool) → ℕ
error_in stopped fault powered operational driven within =
    if stopped then 0
    else if fault then 101
    else if powered && driven && not operational then 102
    else if powered && operational && not driven && not within then 105
    else 0

none : (stopped fault powered operational driven within : Bool) → operational ≡ true → (driven || within) ≡ true → fault ≡ false →
    error_in stopped fault powered operational driven within ≡ 0
none true f p o d w b c e = refl
none false true p o d w b c e = absurd (cc)
none false false p false d w b c e = absurd (cc)
none false false false true d w b c e = refl
none false false true true true w b c e = refl
none false false true true false true b c e = refl
none false false true true false false b c e = absurd (cc)

pub no_error_where_driven : (a : Axis) (input : DriveIn) → is_driven a input ≡ true → answer_error_of a input ≡ 0
unfolding answer_error_of
no_error_where_driven a input h =
    let says = driven-says a input h in
    none (is_error_stop a.state) (has_fault input) (is_powered a) (is_operational input) a.driven (is_within a input) says.1 says.2
    (fault_free (state_of_word input.statusword) (enabled_of _ _ says.1))
