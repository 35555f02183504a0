-- What every event keeps, every call keeps.
-- for: owners_have_blocks
use Rattle.std.specs.Prelude.{◌≡◌, refl, ℕ, ◌<◌, Bool, if◌then◌else◌, Option, Some, None, length, slice_get}
use Rattle.std.proofs.Common.{arith, ap, subst}
use Rattle.axis_core.specs.Calls.{core_after_power}
use Rattle.command_changes.specs.Axis as axis
use Rattle.command_changes.specs.Group as group
use Rattle.plc_types.specs.Kinds.{acts_on_group}
use Rattle.plc_types.specs.declared.kind.BlockKind.TheVariants as kind
use Rattle.fb_outputs.specs.Steps as instance
use Rattle.fb_outputs.specs.Steps.{is_power}
use Rattle.plc_types.specs.declared.inputs.Inputs.{Inputs}
use Rattle.group_core.specs.Calls.{powered_off}
use Rattle.motion_history.specs.Calls.{IsCall}
use Rattle.motion_history.specs.Setup.{Setup}
use Rattle.motion_history.specs.declared.config.BlockDef.{BlockDef}
use Rattle.motion_kernel.specs.Machine.{Machine, axis_core_at, group_core_at, instance_at}
use Rattle.motion_kernel.specs.calls.Calls.{after_call, after_power, called, group_without_power, with_axis_core, with_execute, with_group_core}
use Rattle.motion_kernel.specs.kept.Machine.{AreWhole, IsMachineKept, IsSized}
use Rattle.motion_kernel.specs.kept.Ready.{MayCall}
use Rattle.motion_kernel.specs.members.Members.{membership_of}
use Rattle.motion_kernel.specs.declared.memberships.Membership.{Membership}
use Rattle.motion_kernel.proofs.Sizes.{by_if, sized_axis}
use Rattle.motion_kernel.proofs.kept.Events.{instance_kept}
use Rattle.motion_kernel.proofs.members.Places.{membership_is}
use Rattle.motion_kernel.specs.owners.Objects.{a_group, an_axis}
use Rattle.motion_kernel.proofs.walk.Asked.{axis_asks, group_asks}
use Rattle.motion_kernel.proofs.walk.Events.{axis_event, group_event}
use Rattle.motion_kernel.proofs.walk.Keeps.{Keeps, WalkLaws}
use Rattle.motion_kernel.proofs.walk.Requests.{by_request}

module _ (laws : WalkLaws) (s : Setup) (May : ℕ → Type 0) (P Q : Machine → Type 0) (keeps : Keeps s May P Q) (k : ℕ) (free : May k) where
  -- a Power
  by_group_off : (o : Option Membership) (m : Machine) → ((at : Membership) → o ≡ Some at → at.group < length m.groups) → IsSized s m →
      P m → P (group_without_power o m)
  by_group_off None m there sized h = h
  by_group_off (Some at) m there sized h =
      let c = group_core_at m at.group in
      keeps.powered m (with_group_core m at.group (powered_off c)) (a_group at.group) (group.power_off_changes c)
      (group_event s at.group m (powered_off c) (group.power_off_changes c) sized (there at refl) (laws.group.power_off c))
      (laws.group.power_brings c) (laws.group.power_call c) h

  by_power : (n : ℕ) (enable : Bool) (m : Machine) → n < length m.axes → IsSized s m → P m → P (after_power s n enable m)
  unfolding after_power
  by_power n enable m l sized h =
      let c = axis_core_at m n in
      let d = core_after_power enable c in
      let powered = with_axis_core m n d in
      let one : P powered = keeps.powered m powered (an_axis n) (axis.power_changes enable c)
      (axis_event s n m d (axis.power_changes enable c) sized l (laws.axis.power enable c))
      (laws.axis.power_brings enable c) (laws.axis.power_call enable c) h in
      let size = sized_axis s m n d sized in
      let there : (at : Membership) → membership_of s n ≡ Some at → at.group < length powered.groups =
      λ at e. let f = membership_is s n at e in let b = f.group in let more = size.groups in omega arith in
      by_if P enable powered (group_without_power (membership_of s n) powered) one (by_group_off (membership_of s n) powered there size one)

  pub by_call : (m : Machine) (i : Inputs) → AreWhole s → IsCall s k i → IsMachineKept s m → P m → P (after_call s m k i)
  by_call m i whole made kept h =
      let x = with_execute k i m in
      let there = made.there in
      let sizes = kept.sized in
      let instances = sizes.instances in
      let axes = sizes.axes in
      let place : k < length m.instances = omega arith in
      let kept_x = instance_kept s m k (instance.called (instance_at m.instances k) i.execute) kept in
      let may : (b : BlockDef) → slice_get s.blocks k ≡ Some b → MayCall s k b i x =
      λ b at. laws.may_call s k b i m whole at made kept in
      let There : BlockDef → Bool → Type 0 = λ b y. b.object < (if y then length s.groups else length s.axes) in
      let on_axis : (b : BlockDef) → slice_get s.blocks k ≡ Some b → b.kind ≡ kind.Power → b.object < length m.axes =
      λ b at is. let within : b.object < length s.axes = subst (λ y. There b (acts_on_group y)) is (may b at).object in omega arith in
      keeps.replied k (called s k i m) free (by_request s k i m (λ r y. P y) (record {
        absent = λ none. h;
        quiet = λ b at other e. keeps.executed k b i m free at (λ o rises. e rises) h;
        power = λ b at is. by_power b.object i.execute x (on_axis b at is) kept_x.sized
            (keeps.executed k b i m free at (λ o rises. let power = ap is_power is in cc) h);
        axis_command = λ b at other e off. keeps.asked k m _ free
            (axis_asks laws s k b i m at other off (subst (There b) off (may b at).object) place kept_x (may b at)) h;
        group_command = λ b at other e on. keeps.asked k m _ free
            (group_asks laws s k b i m at other on (subst (There b) on (may b at).object) place kept_x (may b at)) h;
      }))
