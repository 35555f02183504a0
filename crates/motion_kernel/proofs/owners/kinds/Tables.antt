-- The command that a call brings is of its block's kind.
-- for: owners_have_blocks
use Rattle.std.specs.Prelude.{◌≡◌, refl, ℤ, true, Option, Some, None, [], ◌∷◌}
use Rattle.std.proofs.Common.{ap, sym, ◌∙◌}
use Rattle.axis_core.specs.Calls as axis_calls
use Rattle.axis_core.specs.Cores as axes
use Rattle.axis_core.specs.Refusals as axis_refusals
use Rattle.axis_core.specs.Refusals.{Asked}
use Rattle.axis_core.specs.blocks.Gear.{velocity_command}
use Rattle.axis_core.specs.blocks.Moves.{known_target_of, with_target}
use Rattle.axis_core.specs.declared.reason.Reason as axis_reason
use Rattle.buffer_modes.specs.Queue.{is_active_at_once}
use Rattle.command_changes.specs.Axis as axis
use Rattle.command_changes.specs.Group as group
use Rattle.command_core.specs.Changes.{holds, joins}
use Rattle.command_pool.specs.Waiting.{last_of}
use Rattle.plc_types.specs.declared.kind.BlockKind.{BlockKind}
use Rattle.plc_types.specs.declared.kind.BlockKind.TheVariants as kind
use Rattle.command_pool.specs.declared.wanted.Wanted.{Wanted}
use Rattle.group_core.specs.Calls as group_calls
use Rattle.group_core.specs.Cores as groups
use Rattle.group_core.specs.Refusals as group_refusals
use Rattle.group_core.specs.blocks.Line.{braking_for}
use Rattle.group_core.specs.declared.look.GroupLook.{GroupLook}
use Rattle.group_core.specs.declared.reason.Reason as group_reason
use Rattle.motion_history.specs.Setup.{Setup}
use Rattle.motion_kernel.proofs.Sizes.{by_if}
use Rattle.motion_kernel.specs.owners.Kinds.{IsOfAReset, IsOfItsBlock, is_reset}
use Rattle.motion_kernel.proofs.owners.kinds.Changes.{BringOwn, IsOwn, nobody_own, ownerless, some_own}

module _ (s : Setup) where
  -- a reset
  reset_own : (w : Wanted) → is_reset w.kind ≡ true → IsOfItsBlock s w → IsOfAReset s w.owner
  reset_own w r h k b e at = ap is_reset (sym (h k b e at)) ∙ r

  -- an axis
  axis_admitted : (x : BlockKind) (w : Wanted) (c : axes.Core) → w.kind ≡ x → IsOfItsBlock s w → BringOwn s (axis.admitted_changes x w c)
  axis_admitted kind.Reset w c is h = (reset_own w (ap is_reset is) h, tt)
  axis_admitted kind.GearOut w c is h = ((some_own s (velocity_command w c.axis) (ownerless s (velocity_command w c.axis) refl), tt), (tt, tt))
  axis_admitted kind.CamOut w c is h = ((some_own s (velocity_command w c.axis) (ownerless s (velocity_command w c.axis) refl), tt), (tt, tt))
  axis_admitted _ w c is h =
      by_if (BringOwn s) (is_active_at_once (axis_calls.queue_in c) w) (joins w ∷ holds (axis.is_stop w.kind) ∷ []) (joins w ∷ []) (h, (tt, tt)) (h, tt)

  axis_asked : (r : Option axis_reason.Reason) (w : Wanted) (c : axes.Core) → IsOfItsBlock s w → BringOwn s (axis.asked_changes r w c)
  axis_asked None w c h = axis_admitted w.kind (with_target (known_target_of c.axis (last_of c.waiting) w) w) c refl h
  axis_asked (Some r) w c h = tt

  pub axis_own : (q : Asked) (c : axes.Core) → IsOfItsBlock s q.wanted → BringOwn s (axis.command_changes q c)
  unfolding axis.command_changes
  axis_own q c h = axis_asked (axis_refusals.refusal_of q) q.wanted c h

  -- a group
  brakes_own : (active : Option Wanted) → IsOwn s (braking_for active)
  brakes_own None = nobody_own s
  brakes_own (Some w) =
      let halt : Wanted = record w { kind = kind.GroupHalt; owner = None } in
      some_own s halt (ownerless s halt refl)

  group_line : (w : Wanted) (c : groups.Core) → IsOfItsBlock s w → BringOwn s (group.line_changes w c)
  group_line w c h =
      by_if (BringOwn s) (group_calls.waits_for_rest w c.path) _ _ ((brakes_own c.group.active, (h, tt)), tt)
      (by_if (BringOwn s) (is_active_at_once (group_calls.queue_in c) w) (joins w ∷ holds (group.is_stop w.kind) ∷ []) (joins w ∷ []) (h, (tt, tt)) (h, tt))

  group_admitted : (x : BlockKind) (w : Wanted) (c : groups.Core) → w.kind ≡ x → IsOfItsBlock s w → BringOwn s (group.admitted_changes x w c)
  group_admitted kind.GroupReset w c is h = (reset_own w (ap is_reset is) h, tt)
  group_admitted kind.GroupStop w c is h = ((some_own s w h, tt), (tt, tt))
  group_admitted kind.GroupHalt w c is h = ((some_own s w h, tt), (tt, tt))
  group_admitted kind.MoveLinearAbsolute w c is h = group_line w c h
  group_admitted _ w c is h = tt

  group_asked : (r : Option group_reason.Reason) (w : Wanted) (c : groups.Core) → IsOfItsBlock s w → BringOwn s (group.asked_changes r w c)
  group_asked None w c h = group_admitted w.kind w c refl h
  group_asked (Some r) w c h = tt

  pub group_own : (w : Wanted) (jerk : ℤ) (members : GroupLook) (c : groups.Core) → IsOfItsBlock s w → BringOwn s (group.command_changes w jerk members c)
  unfolding group.command_changes
  group_own w jerk members c h = group_asked (group_refusals.refusal_of (group_calls.asked_in c w jerk members)) w c h
