-- A group of a machine by its parts.
-- for: are_groups_in_state
use Rattle.std.specs.Prelude.{◌≡◌, ◌⊎◌, ℕ, ◌<◌, Option, Some, List, [], length, map, slice_get, slice_index_or}
use Rattle.std.proofs.Common.{arith, sym, ap, ◌∙◌}
use Rattle.std.proofs.lemmas.List.{get_or-map, length-map}
use Rattle.std.proofs.lemmas.List.Elements.{All-get_or}
use Rattle.std.proofs.lemmas.Option.{get_or_from_slice_get}
use Rattle.command_pool.specs.declared.wanted.Wanted.{Wanted}
use Rattle.group_core.specs.GroupKept as group
use Rattle.group_core.specs.GroupKept.{AreGroupLimits, AreWaiting, IsPathOf}
use Rattle.group_core.specs.Tracks.{OnPath}
use Rattle.group_core.specs.declared.group.Group.{Group}
use Rattle.plc_types.specs.declared.group.GroupState.TheVariants.{GroupMoving}
use Rattle.plc_types.specs.declared.limits.Limits.{Limits}
use Rattle.linear_path.specs.Path.{limits_at}
use Rattle.motion_history.specs.AxisRanges.{AreAxisRanges}
use Rattle.motion_history.specs.Configurations.{IsSound}
use Rattle.motion_history.specs.Setup.{Setup, IsSetup}
use Rattle.motion_kernel.specs.Machine.{Machine, PlacedGroup, group_at, no_group}
use Rattle.motion_kernel.specs.kept.Machine.{limits_of, no_def}
use Rattle.motion_kernel.specs.members.Members.{member_at, members_at}
use Rattle.motion_kernel.proofs.kept.Ready.{member_there}
use Rattle.kernel_invariants.specs.Parts.{IsOrdered}

-- the group that is found
pub there_is : (m : Machine) (j : ℕ) (g : PlacedGroup) → Some g ≡ slice_get m.groups j → group_at m j ≡ g
there_is m j g e = get_or_from_slice_get m.groups j g no_group (sym e)

-- the limits of a group's axes are in their ranges
pub ranges_of : ((s : Setup) → IsSetup s → IsSound s) → (s : Setup) (j : ℕ) (ms : List ℕ) (ls : List Limits) → IsSetup s → j < length s.groups →
    ms ≡ members_at s j → ls ≡ map (limits_of s) ms → AreGroupLimits (length ls) ls
ranges_of sound s j ms ls setup there is limits =
    let size : length ls ≡ length ms = ap length limits ∙ length-map ms (limits_of s) in
    let at : (i : ℕ) → i < length ls → limits_at ls i ≡ limits_of s (member_at ms i) =
    λ i b. ap (λ (xs : List Limits). limits_at xs i) limits ∙ get_or-map (limits_of s) ms i 0 _ (omega arith) in
    let below : (i : ℕ) → i < length ls → member_at ms i < length s.axes =
    λ i b. rw is (member_there s j i setup there (let size' = ap length is in omega arith)) in
    let ranges : (i : ℕ) → i < length ls → AreAxisRanges (slice_index_or s.axes (member_at ms i) no_def) =
    λ i b. All-get_or AreAxisRanges s.axes (member_at ms i) no_def (below i b) (sound s setup).axes in
    record {
      each = record {
        one_each = λ i. length ls;
        each = λ i b. let r = ranges i b in let e = at i b in rw e (record { ranges = r.limits; gains = r.speeds_up });
      };
      top = λ i b. let r = ranges i b in let e = at i b in rw e r.top;
    }

-- the parts of what holds of a group whose axes have these limits
pub record AreParts (ls : List Limits) (g : Group) (p : Option OnPath) (ws : List Wanted) : Type 0 where
  pub way : IsOrdered g p × ((on : OnPath) → p ≡ Some on → IsPathOf (length ls) ls on)
  pub queue : AreWaiting (length ls) ls ws × ((ws ≡ []) ⊎ (g.state ≡ GroupMoving))

pub whole_of : (ls : List Limits) (g : Group) (p : Option OnPath) (ws : List Wanted) → g.axes ≡ length ls → AreGroupLimits (length ls) ls →
    IsOrdered g p → ((on : OnPath) → p ≡ Some on → IsPathOf (length ls) ls on) →
    AreWaiting (length ls) ls ws × ((ws ≡ []) ⊎ (g.state ≡ GroupMoving)) → group.IsGroupKept ls g p ws
whole_of ls g p ws axes ranges ordered path queue = record {
  axes = ordered.axes;
  limits_are = rw axes ranges;
  state = ordered.state;
  active = ordered.active;
  path = λ on e. rw axes (path on e);
  waiting = rw axes queue.0;
  queue = queue.1;
}

pub parts_of : (ls : List Limits) (g : Group) (p : Option OnPath) (ws : List Wanted) → g.axes ≡ length ls → group.IsGroupKept ls g p ws → AreParts ls g p ws
parts_of ls g p ws axes k = record {
  way = (record { axes = k.axes; state = k.state; active = k.active }, λ on e. let path = k.path on e in rw (← axes) path);
  queue = (let waiting = k.waiting in rw (← axes) waiting, k.queue);
}
