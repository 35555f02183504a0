-- An axis in Standstill stays there while no error comes.
-- for: standing_axes_stay
use Rattle.std.proofs.Common.{◌≡◌, ◌∙◌, refl, subst}
use Rattle.std.specs.Prelude.{true, false, None, Option, Some, nat_eq, if◌then◌else◌}
use Rattle.plc_types.specs.declared.axis_state.AxisState.{AxisState}
use Rattle.plc_types.specs.declared.axis_state.AxisState.TheVariants as state
use Rattle.axis_core.specs.AxisKept.{IsCoreKept, IsInState}
use Rattle.axis_core.specs.Cores.{Core}
use Rattle.axis_core.specs.Cycles.{advance_in_cycle, core_after_cycle}
use Rattle.axis_core.specs.Drives.{answer_error_of}
use Rattle.axis_core.specs.blocks.Power.{is_powered}
use Rattle.axis_core.specs.declared.look.AxisLook.{AxisLook}
use Rattle.plc_types.specs.declared.drive.DriveIn.{DriveIn}
use Rattle.axis_core.specs.blocks.Reset.{after_reset, may_reset, reset_axis}
use Rattle.axis_core.specs.declared.axis.Axis.{Axis}
use Rattle.buffer_modes.specs.declared.reset.PendingReset.{PendingReset}
use Rattle.axis_core.proofs.ArrivalLaws.{still-driven}
use Rattle.axis_core.proofs.KeptCycles.{reset-same}

-- a Reset leaves Standstill
reset-standing : (o : Option PendingReset) (input : DriveIn) (a : Axis) → a.state ≡ state.Standstill → (reset_axis o input a).state ≡ state.Standstill
reset-standing None input a h = h
reset-standing (Some p) input a h =
    elim (may_reset input a) as (λ b. (if b then after_reset a else a).state ≡ state.Standstill) [
      | true ↦ reset-same a.state a.driven (rw h refl) ∙ h
      | false ↦ h
    ]

pub standing-stays : (look : AxisLook) (c : Core) → IsCoreKept c → c.axis.state ≡ state.Standstill →
    nat_eq (answer_error_of c.axis look.input) 0 ≡ true → (core_after_cycle look c).axis.state ≡ state.Standstill
unfolding core_after_cycle advance_in_cycle
standing-stays look c k stands quiet =
    let P : AxisState → Type 0 = λ s. IsInState s c.axis.driven (is_powered c.axis) c.axis.was_off c.axis.previous c.axis.setpoint c.axis.active in
    let i = subst P stands k.axis.state in
    let going = still-driven c.axis look.input (rw stands refl) i.running quiet in
    let idle = i.idle in
    rw (quiet, going, stands, idle) (reset-standing c.axis.reset look.input _ refl)
