-- At opening nobody has a command, and nobody holds stopping.
-- for: owners_have_blocks
use Rattle.std.specs.Prelude.{◌≡◌, refl, ℕ, zero, suc, ◌+◌, Option, None, List, [], ◌∷◌, length, map}
use Rattle.std.proofs.Common.{arith, ap}
use Rattle.axis_core.specs.Cycles.{axis_at_opening}
use Rattle.axis_core.specs.Owners as axis
use Rattle.plc_types.specs.declared.axis.AxisDef.{AxisDef}
use Rattle.buffer_modes.specs.Owners.{owner_count}
use Rattle.command_core.specs.CommandState.{owns}
use Rattle.command_pool.specs.declared.wanted.Wanted.{Wanted}
use Rattle.group_core.specs.Owners as group
use Rattle.group_core.specs.Tracks.{OnPath}
use Rattle.motion_history.specs.Setup.{Setup}
use Rattle.motion_history.specs.declared.config.GroupDef.{GroupDef}
use Rattle.motion_kernel.specs.Machine.{axis_among, group_among, group_at, group_at_opening, list_of, machine_at_opening, no_axis, no_group}
use Rattle.motion_kernel.specs.owners.Blocks.{OwnersHaveBlocks, command_state_at}
use Rattle.motion_kernel.specs.owners.Objects.{a_group, an_axis, Object}
use Rattle.motion_kernel.proofs.kept.Opening.{none_waits}

pub axis_opens : (k : ℕ) (axes : List AxisDef) (n : ℕ) (ws : List Wanted) → ws ≡ [] →
    axis.owns k
    (record { axis = axis_among (map axis_at_opening axes) n; waiting = ws; notes = [] }) ≡ 0
unfolding axis_at_opening owner_count
axis_opens k [] n ws e = ap
    (λ x. axis.owns k (record { axis = no_axis; waiting = x; notes = [] })) e
axis_opens k (d ∷ ds) zero ws e = ap
    (λ x. axis.owns k (record { axis = axis_at_opening d; waiting = x; notes = [] })) e
axis_opens k (d ∷ ds) (suc n) ws e = axis_opens k ds n ws e

pub group_opens : (k : ℕ) (groups : List GroupDef) (j : ℕ) (ws : List Wanted) (p : Option OnPath) →
    ws ≡ [] →
    group.owns k
    (record {
      group = (group_among (map group_at_opening groups) j).group;
      path = p;
      waiting =
          ws;
      notes = [];
    }) ≡ 0
unfolding owner_count
group_opens k [] j ws p e = ap
    (λ x. group.owns k (record { group = no_group.group; path = p; waiting = x; notes = [] })) e
group_opens k (d ∷ ds) zero ws p e = ap
    (λ x. group.owns k
    (record { group = (group_at_opening d).group; path = p; waiting = x; notes = [] })) e
group_opens k (d ∷ ds) (suc j) ws p e = group_opens k ds j ws p e

-- at opening nobody holds
axis_opens_free : (axes : List AxisDef) (n : ℕ) → (axis_among (map axis_at_opening axes) n).hold ≡ None
unfolding axis_at_opening
axis_opens_free [] n = refl
axis_opens_free (d ∷ ds) zero = refl
axis_opens_free (d ∷ ds) (suc n) = axis_opens_free ds n

group_opens_free : (groups : List GroupDef) (j : ℕ) → (group_among (map group_at_opening groups) j).group.hold ≡ None
group_opens_free [] j = refl
group_opens_free (d ∷ ds) zero = refl
group_opens_free (d ∷ ds) (suc j) = group_opens_free ds j

none_has : (s : Setup) (o : Object) (k : ℕ) → owns k (command_state_at (machine_at_opening s) o) ≡ 0
none_has s (an_axis n) k = let h = axis_opens k s.axes n _ (none_waits (length s.axes + length s.groups) n) in omega arith
none_has s (a_group j) k =
    let h = group_opens k s.groups j _ (group_at (machine_at_opening s) j).path
    (none_waits (length s.axes + length s.groups) (list_of (machine_at_opening s) j)) in
    omega arith

pub nobody_holds : (s : Setup) (o : Object) → (command_state_at (machine_at_opening s) o).hold ≡ None
nobody_holds s (an_axis n) = axis_opens_free s.axes n
nobody_holds s (a_group j) = group_opens_free s.groups j

pub blocks_opened : (s : Setup) → OwnersHaveBlocks s (machine_at_opening s)
blocks_opened s o there k = record {
  commands = λ l. absurd (let none = none_has s o k in omega arith);
  holds = λ e. absurd (let free = nobody_holds s o in cc);
}
