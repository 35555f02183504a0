-- What an error makes of an axis in a cycle.
-- for: axes_change_by_their_events
use Rattle.std.specs.Prelude.{◌≡◌, refl, ℕ, Bool, true, false, not, ◌&&◌, nat_eq, None, is_some, if◌then◌else◌}
use Rattle.std.proofs.Common.{ap}
use Rattle.std.proofs.lemmas.Bool.{and_parts}
use Rattle.axis_state.specs.Diagram.{next_of}
use Rattle.axis_state.specs.declared.diagram.AxisEvent.TheVariants as event
use Rattle.plc_types.specs.declared.axis_state.AxisState.{AxisState}
use Rattle.plc_types.specs.declared.axis_state.AxisState.TheVariants as state
use Rattle.axis_core.specs.Cores.{Core, core_after_error}
use Rattle.plc_types.specs.declared.drive.DriveIn.{DriveIn}
use Rattle.axis_core.specs.Drives.{answer_error_of, axis_at_drive}
use Rattle.axis_core.specs.Cycles.{advance_in_cycle, core_after_going_on, core_after_advance}
use Rattle.axis_state.specs.States.{is_error_stop, is_stopping}
use Rattle.axis_core.specs.blocks.Halts.{is_at_rest, leaves_stopping}
use Rattle.buffer_modes.specs.Owners.{is_released}
use Rattle.axis_core.specs.declared.axis.Axis.{Axis}
use Rattle.axis_core.specs.declared.look.AxisLook.{AxisLook}
use Rattle.axis_core.specs.Drives.{new_error_of}

-- an axis with an error stays in ErrorStop until its Reset
stop-stays : (b : Bool) (t : AxisState) (a : Axis) → a.state ≡ state.ErrorStop → (b ≡ true → is_stopping a.state ≡ true) →
    (if b then record a { state = t; hold = None } else a).state ≡ state.ErrorStop
stop-stays true t a h k = absurd (let e : is_stopping a.state ≡ true = k refl in let f : is_stopping a.state ≡ false = ap is_stopping h in cc)
stop-stays false t a h k = h

pub leaves-says : (look : AxisLook) (a : Axis) → leaves_stopping look a ≡ true → is_stopping a.state ≡ true
leaves-says look a h =
    (and_parts (is_stopping a.state) (not (is_some a.active)) (and_parts (is_stopping a.state && not (is_some a.active)) (is_at_rest a)
    (and_parts (is_stopping a.state && not (is_some a.active) && is_at_rest a) (is_released a.hold look.stop_held) h).0).0).0

failed-moved : (n : ℕ) (look : AxisLook) (c : Core) → (core_after_advance look (core_after_error n c)).axis.state ≡ state.ErrorStop
unfolding core_after_error advance_in_cycle
failed-moved n look c = refl

pub failed-run : (b driven : Bool) (n : ℕ) (look : AxisLook) (c : Core) →
    (if b then core_after_going_on look (core_after_error n c) else record (core_after_error n c) { axis = axis_at_drive driven look.input (core_after_error n c).axis }).axis.state ≡ state.ErrorStop
unfolding core_after_error
failed-run true driven n look c =
    let a = (core_after_advance look (core_after_error n c)).axis in
    stop-stays (leaves_stopping look a) (next_of event.StopReleased) a (failed-moved n look c) (leaves-says look a)
failed-run false true n look c = refl
failed-run false false n look c = refl

no-stop : (b : Bool) (n : ℕ) → nat_eq (if b then 0 else n) 0 ≡ false → b ≡ false
no-stop true n h = absurd (cc)
no-stop false n h = refl

pub error-says : (a : Axis) (input : DriveIn) → nat_eq (answer_error_of a input) 0 ≡ false → is_error_stop a.state ≡ false
unfolding answer_error_of
error-says a input h = no-stop (is_error_stop a.state) (new_error_of a input) h
