-- What a group, its path and what waits for it keep in every call and every cycle.
-- for: machines_can_stand
use Rattle.std.specs.Prelude.{◌≡◌, refl, ℕ, zero, suc, ◌<◌, Bool, ℤ, Option, Some, None, List, [], ◌∷◌, length, map}
use Rattle.std.proofs.Common.{arith, sym, subst}
use Rattle.buffer_modes.specs.declared.reset.PendingReset.{PendingReset}
use Rattle.plc_types.specs.declared.drive.DriveIn.{DriveIn}
use Rattle.command_pool.specs.declared.wanted.Wanted.{Wanted}
use Rattle.plc_types.specs.declared.inputs.Inputs.{Inputs}
use Rattle.plc_types.specs.declared.axis_state.AxisState.{AxisState}
use Rattle.group_core.specs.Calls.{commanded, group_without, powered_off}
use Rattle.group_core.specs.Cores.{Core}
use Rattle.group_core.specs.Cycles as group
use Rattle.group_core.specs.Cycles.{reset_where}
use Rattle.group_core.specs.Refusals.{states_in}
use Rattle.group_core.specs.Targets.{IsToward}
use Rattle.group_core.specs.Tracks.{OnPath}
use Rattle.group_core.specs.blocks.Reset.{after_reset, may_reset, reset_by}
use Rattle.group_core.specs.declared.group.Group.{Group}
use Rattle.group_core.specs.declared.look.GroupLook.{GroupLook}
use Rattle.motion_history.specs.Calls.{IsCall}
use Rattle.motion_history.specs.Setup.{Setup}
use Rattle.motion_history.specs.declared.config.GroupDef.{GroupDef}
use Rattle.motion_kernel.proofs.Sizes.{by_if}
use Rattle.motion_kernel.proofs.walk.Keeps.{WalkLaws}
use Rattle.motion_kernel.specs.Machine.{Machine, PlacedGroup, group_among, group_at_opening, group_core_at}
use Rattle.motion_kernel.specs.calls.Calls.{after_call}
use Rattle.motion_kernel.specs.cycles.Cycles.{after_cycle, look_of_group}
use Rattle.motion_kernel.specs.kept.Machine.{AreWhole, IsMachineKept}
use Rattle.motion_laws.proofs.arrivals.Paths.{IsLasting, by_cycle, there}
use Rattle.motion_laws.proofs.arrivals.PathsDone.{nowhere}
use Rattle.motion_laws.proofs.walk.GroupCalls.{IsByFate, by_call}
use Rattle.motion_laws.specs.Standing.{GroupStands}

-- of group_core's lines_lead_to_their_targets
pub record LinesLead : Type 0 where
  pub command : (w : Wanted) (jerk : ℤ) (members : GroupLook) (c : Core) →
      IsToward c.group.active c.path →
      IsToward (commanded w jerk members c).group.active (commanded w jerk members c).path
  pub power_off : (c : Core) → IsToward c.group.active c.path →
      IsToward (powered_off c).group.active (powered_off c).path
  pub detach : (owner : ℕ) (g : Group) (p : Option OnPath) → IsToward g.active p →
      IsToward (group_without owner g).active p
  pub cycle : (members : GroupLook) (c : Core) → IsToward c.group.active c.path →
      IsToward (group.cycled members c).group.active (group.cycled members c).path

-- a group with its path and its queue, as one
abbrev pub placed_in : Core → PlacedGroup
placed_in c = record { group = c.group; path = c.path }

abbrev pub Stands : Core → Type 0
Stands c = GroupStands (placed_in c) c.waiting

-- what a call keeps
said : LinesLead → (c : Core) → Stands c → IsByFate c (λ f x. Stands x)
said laws c h = record {
  rests = h;
  untold = λ f x g. record { line = g.line };
  detach = λ owner. record { line = laws.detach owner c.group c.path h.line };
  power_off = record { line = laws.power_off c h.line };
  command = λ owner w jerk members x e looks made kept. record {
    line = laws.command w jerk members x
        (subst (λ (d : Core). IsToward d.group.active d.path) (sym e)
        (laws.detach owner c.group c.path h.line));
  };
}

pub call_stands : LinesLead → WalkLaws → (s : Setup) (m : Machine) (k : ℕ) (i : Inputs) (j : ℕ) →
    AreWhole s → IsCall s k i → IsMachineKept s m → j < length m.groups →
    Stands (group_core_at m j) → Stands (group_core_at (after_call s m k i) j)
call_stands laws walk s m k i j whole made kept l h =
    by_call (λ f x. Stands x) s m k i j (said laws (group_core_at m j) h) (there s m j kept l)
    (λ b at. walk.may_call s k b i m whole at made kept) kept

-- a GroupReset changes neither the command nor the path
reset_active : (r : Option PendingReset) (axes : List AxisState) (on_path : Bool) (g : Group) →
    (reset_by r axes on_path g).active ≡ g.active
reset_active None axes on_path g = refl
reset_active (Some r) axes on_path g =
    by_if (λ (x : Group). x.active ≡ g.active) (may_reset on_path g) (after_reset axes g) g refl refl

reset_keeps : (members : GroupLook) (on_path : Bool) (g : Group) →
    (reset_where members on_path g).active ≡ g.active
unfolding reset_where
reset_keeps members on_path g = reset_active g.reset (states_in members) on_path g

lasts : IsLasting Stands
lasts = record {
  untold = λ c h. record { line = h.line };
  reset = λ look c h. record {
    line = subst (λ o. IsToward o c.path) (sym (reset_keeps look _ c.group)) h.line;
  };
}

-- what a cycle keeps
pub cycle_stands : LinesLead → (s : Setup) (m : Machine) (ins : List DriveIn) (j : ℕ) →
    IsMachineKept s m → j < length m.groups → Stands (group_core_at m j) →
    Stands (group_core_at (after_cycle s m ins) j)
cycle_stands laws s m ins j kept l h =
    by_cycle Stands lasts s m ins j kept l
    (λ looking. record {
      line = laws.cycle (look_of_group s m ins j) (group_core_at m j) h.line;
    })

-- at opening no group is on a path
pub opened_stands : (ds : List GroupDef) (j : ℕ) → j < length ds → (ws : List Wanted) → ws ≡ [] →
    GroupStands (group_among (map group_at_opening ds) j) ws
opened_stands [] j l ws e = absurd (omega arith)
opened_stands (d ∷ ds) zero l ws e =
    record { line = nowhere (group_at_opening d).group.active (group_at_opening d).path refl }
opened_stands (d ∷ ds) (suc j) l ws e = opened_stands ds j (omega arith) ws e
