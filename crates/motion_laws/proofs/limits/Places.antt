-- Calls move no axis.
-- for: rows_keep_limits, spells_begin_at_drives, targets_follow_setpoints
use Rattle.std.specs.Prelude.{refl, ℕ, Bool}
use Rattle.std.proofs.Common.{◌∙◌}
use Rattle.axis_core.specs.Calls.{axis_without_owner, core_after_command, core_after_power}
use Rattle.axis_core.specs.Cores as cores
use Rattle.axis_core.specs.Refusals.{Asked}
use Rattle.axis_core.specs.Rows.{Stays}
use Rattle.axis_core.specs.blocks.Path.{axis_on_path}
use Rattle.axis_core.specs.declared.axis.Axis.{Axis}
use Rattle.motion_kernel.proofs.calls.AxesLeft.{CallsLeave}

-- axis_core's calls_move_no_axis
pub record CallsMoveNoAxis : Type 0 where
  pub command : (q : Asked) (c : cores.Core) → Stays c.axis (core_after_command q c).axis
  pub power : (enable : Bool) (c : cores.Core) → Stays c.axis (core_after_power enable c).axis
  pub detach : (owner : ℕ) (a : Axis) → Stays a (axis_without_owner owner a)
  pub path : (on : Bool) (a : Axis) → Stays a (axis_on_path on a)

-- so calls leave each axis where it is
pub calls_leave_places : CallsMoveNoAxis → CallsLeave Stays
calls_leave_places laws = record {
  alone = λ a. record { limits = refl; spell = refl };
  both = λ a b c h k. record { limits = k.limits ∙ h.limits; spell = k.spell ∙ h.spell };
  command = laws.command;
  power = laws.power;
  detach = laws.detach;
  path = laws.path;
}
