-- At opening nobody has a command, and none shows one.
-- for: machines_can_stand, replies_show_commands, commands_are_where_their_instances_show and others
use Rattle.std.specs.Prelude.{◌≡◌, refl, ℕ, zero, suc, ◌+◌, List, [], ◌∷◌, length, map}
use Rattle.plc_types.specs.declared.axis.AxisDef.{AxisDef}
use Rattle.motion_history.specs.Setup.{Setup}
use Rattle.motion_history.specs.declared.config.BlockDef.{BlockDef}
use Rattle.motion_kernel.specs.Machine.{group_at, instance_at_opening_of, list_of, machine_at_opening}
use Rattle.motion_kernel.proofs.kept.Opening.{none_waits}
use Rattle.motion_kernel.proofs.owners.Opening.{axis_opens, group_opens}
use Rattle.motion_kernel.specs.owners.Commands.{CommandsAreShown}
use Rattle.motion_kernel.specs.owners.Objects.{a_group, an_axis}
use Rattle.motion_kernel.proofs.owners.Counts.{shown_by}
use Rattle.motion_kernel.proofs.owners.commands.Events.{none_if}

pub shows_none : (axes : List AxisDef) (blocks : List BlockDef) (k : ℕ) → shown_by
    (map (instance_at_opening_of axes) blocks) k ≡ 0
unfolding instance_at_opening_of
shows_none axes [] k = refl
shows_none axes (b ∷ bs) zero = refl
shows_none axes (b ∷ bs) (suc k) = shows_none axes bs k

pub opening_shown : (s : Setup) → CommandsAreShown s (machine_at_opening s)
opening_shown s k (an_axis n) l =
    none_if _ _ _ (shows_none s.axes s.blocks k)
    (axis_opens k s.axes n _ (none_waits (length s.axes + length s.groups) n))
opening_shown s k (a_group j) l =
    none_if _ _ _ (shows_none s.axes s.blocks k)
    (group_opens k s.groups j _ (group_at (machine_at_opening s) j).path
    (none_waits (length s.axes + length s.groups) (list_of (machine_at_opening s) j)))
