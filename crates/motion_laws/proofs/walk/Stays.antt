-- A call leaves where an axis stands, its error and its controlword.
-- for: machines_can_stand, errors_have_causes, errors_are_told_as_shown
use Rattle.std.specs.Prelude.{◌≡◌, refl, ℕ, ℤ, Bool, true, false, Option, Some, None}
use Rattle.axis_core.specs.Calls.{axis_without_owner, core_after_command, core_after_power, core_after_verdict, core_entered_in, core_with_queued, queue_in}
use Rattle.axis_core.specs.Cores.{Core, axis_under, axis_under_by}
use Rattle.axis_core.specs.Profiles.{profile_of}
use Rattle.axis_core.specs.Refusals.{Asked, refusal_of}
use Rattle.axis_core.specs.blocks.Path.{axis_on_path}
use Rattle.axis_core.specs.declared.axis.Axis.{Axis}
use Rattle.axis_core.specs.declared.profile.Entry.{Entry}
use Rattle.axis_core.specs.declared.profile.Entry.TheVariants.{Joins, Leaves, Awaits}
use Rattle.axis_core.specs.declared.reason.Reason.{Reason}
use Rattle.axis_state.specs.States.{is_error_stop}
use Rattle.buffer_modes.specs.Queue.{is_active_at_once}
use Rattle.command_pool.specs.declared.wanted.Wanted.{Wanted}
use Rattle.plc_types.specs.declared.limits.Limits.{Limits}
use Rattle.motion_kernel.proofs.Sizes.{by_if}

-- what a call leaves of an axis
pub record Stance : Type 0 where
  pub limits : Limits
  pub previous : ℤ
  pub setpoint : ℤ
  pub driven : Bool
  pub error : ℕ
  pub word : ℕ

abbrev pub stance_of : Axis → Stance
stance_of a = record {
  limits = a.limits;
  previous = a.previous;
  setpoint = a.setpoint;
  driven = a.driven;
  error = a.error;
  word = a.controlword;
}

-- one axis stands as the other
abbrev pub StandsAs : Axis → Axis → Type 0
StandsAs a b = stance_of b ≡ stance_of a

pub detached_stands : (owner : ℕ) (a : Axis) → StandsAs a (axis_without_owner owner a)
unfolding axis_without_owner
detached_stands owner a = refl

pub path_stands : (on : Bool) (a : Axis) → StandsAs a (axis_on_path on a)
unfolding axis_on_path
path_stands on a = refl

pub power_stands : (enable : Bool) (c : Core) → StandsAs c.axis (core_after_power enable c).axis
unfolding core_after_power
power_stands true c = refl
power_stands false c =
    by_if (λ (x : Core). StandsAs c.axis x.axis) (is_error_stop c.axis.state) _ _ refl refl

admits : (e : Entry) (w : Wanted) (c : Core) → StandsAs c.axis (core_entered_in e w c).axis
unfolding axis_under_by
admits Awaits w c = refl
admits Leaves w c = refl
admits Joins w c =
    let after = core_with_queued w c in
    by_if (λ (x : Core). StandsAs c.axis x.axis) (is_active_at_once (queue_in c) w)
    (record after { axis = axis_under w after.axis }) after refl refl

verdict : (o : Option Reason) (w : Wanted) (c : Core) → StandsAs c.axis (core_after_verdict o w c).axis
verdict None w c = admits (profile_of w.kind).entry _ c
verdict (Some reason) w c = refl

pub command_stands : (q : Asked) (c : Core) → StandsAs c.axis (core_after_command q c).axis
unfolding core_after_command
command_stands q c = verdict (refusal_of q) q.wanted c
