-- Axes and groups have errors exactly in their states of errors after a call.
-- for: machines_can_stand, rows_show_errors, errors_have_causes
use Rattle.std.specs.Prelude.{◌≡◌, refl, ℕ, false, Some, List, slice_get}
use Rattle.std.proofs.Common.{arith, sym, subst}
use Rattle.axis_core.specs.Calls.{axis_without_owner}
use Rattle.axis_core.specs.Cores as axis
use Rattle.axis_core.specs.Demands as demands
use Rattle.axis_core.specs.Refusals.{Asked}
use Rattle.axis_core.specs.Shown as axis_shown
use Rattle.axis_core.specs.declared.axis.Axis.{Axis}
use Rattle.command_pool.specs.Waiting.{queue_of}
use Rattle.command_pool.specs.declared.wanted.Wanted.{Wanted}
use Rattle.fb_outputs.specs.Steps.{is_power}
use Rattle.plc_types.specs.declared.inputs.Inputs.{Inputs}
use Rattle.group_core.specs.Cores.{Core}
use Rattle.motion_history.specs.Calls.{IsCall}
use Rattle.motion_history.specs.Setup.{Setup}
use Rattle.motion_history.specs.declared.config.BlockDef.{BlockDef}
use Rattle.motion_kernel.specs.Machine.{Machine, axis_at, group_core_at}
use Rattle.motion_kernel.specs.calls.Calls.{after_call, with_execute}
use Rattle.motion_kernel.specs.kept.Machine.{AreWhole, IsMachineKept}
use Rattle.motion_laws.specs.Standing.{AreAllShown, ShowsTruly}
use Rattle.motion_laws.proofs.entries.errors.Laws.{AxisErrors, ErrorLaws, GroupErrors}
use Rattle.motion_laws.proofs.walk.AxisCalls as axes
use Rattle.motion_laws.proofs.walk.GroupCalls as groups

-- a command is asked of this axis, and made as it should
record IsWell (q : Asked) (c : axis.Core) : Type 0 where
  same : q.axis ≡ c.axis
  made : demands.IsMade q.wanted

axis_said : AxisErrors → (a : Axis) (ws : List Wanted) → axis_shown.IsShown a →
    axes.IsByFate IsWell a ws (λ f x us. axis_shown.IsShown x)
axis_said laws a ws h = record {
  rests = h;
  led = λ owner on. axes.path_led (λ (y : Axis). axis_shown.IsShown y) laws.path on
      (axis_without_owner owner a) (laws.detach owner a h);
  detach = λ owner. laws.detach owner a h;
  power = λ enable c e us.
      laws.power enable c (subst (λ (y : Axis). axis_shown.IsShown y) (sym e) h);
  command = λ owner q c e us well. laws.command q c well.same well.made
      (subst (λ (y : Axis). axis_shown.IsShown y) (sym e) (laws.detach owner a h));
}

group_said : GroupErrors → (c : Core) → ShowsTruly c.group →
    groups.IsByFate c (λ f x. ShowsTruly x.group)
group_said laws c h = record {
  rests = h;
  untold = λ f x shown. shown;
  detach = λ owner. laws.detach owner c.group h;
  power_off = laws.power_off c h;
  command = λ owner w jerk members x e looks made kept. laws.command w jerk members x made
      (subst (λ (y : Core). ShowsTruly y.group) (sym e) (laws.detach owner c.group h));
}

asks_well : ErrorLaws → (s : Setup) (k : ℕ) (b : BlockDef) (i : Inputs) (m : Machine) (n : ℕ) →
    IsMachineKept s m → AreWhole s → IsCall s k i → slice_get s.blocks k ≡ Some b →
    is_power b.kind ≡ false → axes.AsksWell IsWell s k b i (with_execute k i m) n
asks_well laws s k b i m n h whole made at other off same =
    let may = laws.may_call s k b i m whole at made h in
    record { same = refl; made = ((may.rise other).axis off).made }

-- after a call
pub call_shown : ErrorLaws → (s : Setup) (m : Machine) (k : ℕ) (i : Inputs) → AreWhole s →
    IsCall s k i → IsMachineKept s m → AreAllShown s m → AreAllShown s (after_call s m k i)
call_shown laws s m k i whole made h shown =
    let sizes = h.sized in
    let a = sizes.axes in
    let g = sizes.groups in
    let q = sizes.queues in
    record {
      axes = λ n l. axes.by_call (λ f x us. axis_shown.IsShown x) s m k i n
          (axis_said laws.axes (axis_at m n) (queue_of m.queues n) (shown.axes n l))
          (record { axis = omega arith; list = omega arith })
          (λ b at other. asks_well laws s k b i m n h whole made at other);
      groups = λ j l. groups.by_call (λ f x. ShowsTruly x.group) s m k i j
          (group_said laws.groups (group_core_at m j) (shown.groups j l))
          (record { group = omega arith; list = omega arith })
          (λ b at. laws.may_call s k b i m whole at made h) h;
    }
