-- What a call makes of a group goes with what it says of the group: with the fate of its active
-- command, and with its events.
-- for: machines_can_stand, paths_end_in_time, states_change_by_their_events and others
use Rattle.std.specs.Prelude.{◌≡◌, refl, ℕ, ◌<◌, ◌+◌, Bool, true, false, ℤ, if◌then◌else◌, nat_eq, Option, Some, None, Result, List, [], ◌∷◌, length, slice_get, slice_set}
use Rattle.std.proofs.Common.{arith, ap, sym, subst, ◌∙◌}
use Rattle.std.proofs.lemmas.Bool.{eqb-false, eqb-true}
use Rattle.std.proofs.lemmas.List.{length-set}
use Rattle.axis_core.specs.Calls.{core_after_command, core_after_power}
use Rattle.plc_types.specs.Kinds.{acts_on_group}
use Rattle.command_pool.specs.Waiting.{queue_of}
use Rattle.command_pool.specs.declared.ending.Refusal.{Refusal}
use Rattle.plc_types.specs.declared.kind.BlockKind.{BlockKind}
use Rattle.command_pool.specs.declared.wanted.Wanted.{Wanted}
use Rattle.plc_types.specs.declared.inputs.Inputs.{Inputs}
use Rattle.group_core.specs.Calls.{commanded, disowned, powered_off}
use Rattle.group_core.specs.Cores.{Core}
use Rattle.buffer_modes.specs.Fates.{Fate}
use Rattle.group_core.specs.GroupKept.{IsCoreKept, IsLook, IsMade}
use Rattle.group_core.specs.Refusals.{limits_in}
use Rattle.group_core.specs.declared.look.GroupLook.{GroupLook}
use Rattle.motion_history.specs.Setup.{Setup}
use Rattle.motion_history.specs.declared.config.BlockDef.{BlockDef}
use Rattle.motion_kernel.specs.calls.Asking.{wanted_of}
use Rattle.motion_kernel.specs.calls.Calls.{after_axis_command, after_call, after_group_command, after_power, asked_of_axis, axes_led, axis_led, enters_path, group_without_power, leaves_path, members_led, with_axis_core, with_execute, with_group_core, without_owner}
use Rattle.motion_laws.specs.arrivals.GroupFates.{call_fate}
use Rattle.motion_laws.specs.calls.Group as on_group
use Rattle.motion_laws.specs.calls.Group.{GroupCall, by_power_off}
use Rattle.motion_kernel.specs.calls.Requests.{Request, machine_asked}
use Rattle.motion_kernel.specs.looks.GroupLooks.{group_look}
use Rattle.motion_kernel.specs.Machine.{Machine, axis_at, axis_core_at, group_at, group_core_at, list_of}
use Rattle.motion_kernel.specs.kept.Machine.{IsMachineKept}
use Rattle.motion_kernel.specs.members.Members.{members_at, membership_of}
use Rattle.motion_kernel.specs.kept.Ready.{MayAskGroup, MayCall}
use Rattle.motion_kernel.specs.declared.memberships.Membership.{Membership}
use Rattle.motion_kernel.proofs.kept.Events.{group_beside_axis, group_beside_group, group_written}
use Rattle.motion_kernel.proofs.kept.Detached.{disowned_size, group_disowned}
use Rattle.motion_kernel.proofs.Sizes.{by_if}
use Rattle.motion_kernel.proofs.walk.ByTest.{both, one}
use Rattle.motion_kernel.proofs.walk.Requests.{by_request}

-- a property of a group after a call, by what the call says of it, that every event of the group
-- gives it
pub record IsSaid {A : Type 0} (v : GroupCall → Core → A) (c : Core) (P : A → Core → Type 0)
    : Type 0 where
  pub rests : P (v on_group.rests c) c
  pub untold : (f : A) (x : Core) → P f x → P f (record x { notes = [] })
  pub detach : (owner : ℕ) → P (v on_group.rests (disowned owner c)) (disowned owner c)
  pub power_off : P (v on_group.power_off c) (powered_off c)
  pub command : (owner : ℕ) (w : Wanted) (jerk : ℤ) (members : GroupLook) (x : Core) →
      x ≡ disowned owner c → IsLook x.group members →
      IsMade x.group.axes w → IsCoreKept (limits_in members) x →
      P (v (on_group.asked w jerk members) x) (commanded w jerk members x)

-- the group and its list are there
pub record IsThere (m : Machine) (j : ℕ) : Type 0 where
  pub group : j < length m.groups
  pub list : list_of m j < length m.queues

-- axes that are led leave the groups
one_led : (m : Machine) (n : ℕ) (on : Bool) (j : ℕ) →
    group_core_at (record m { axes = slice_set m.axes n (axis_led on (axis_at m n)) }) j
    ≡ group_core_at m j
one_led m n on j =
    let size = length-set m.axes n (axis_led on (axis_at m n)) in
    λ i. record {
      group = (group_at m j).group;
      path = (group_at m j).path;
      waiting =
          queue_of m.queues (size i + j);
      notes = [];
    }

all_led : (on : Bool) (ns : List ℕ) (m : Machine) (j : ℕ) →
    group_core_at (axes_led on ns m) j ≡ group_core_at m j
all_led on [] m j = refl
all_led on (n ∷ ns) m j =
    all_led on ns (record m { axes = slice_set m.axes n (axis_led on (axis_at m n)) }) j
    ∙ one_led m n on j

pub group_led : (s : Setup) (o : ℕ) (kind : BlockKind) (answer : Result Bool Refusal) (m : Machine)
    (j : ℕ) →
    group_core_at (members_led s o kind answer m) j ≡ group_core_at m j
group_led s o kind answer m j =
    let Q : Machine → Type 0 = λ x. group_core_at x j ≡ group_core_at m j in
    by_if Q (enters_path answer) _ _ (all_led true (members_at s o) m j)
    (by_if Q (leaves_path kind answer) _ _ (all_led false (members_at s o) m j) refl)

-- a command that is asked of an axis leaves the groups
axis_command : (s : Setup) (k n : ℕ) (kind : BlockKind) (i : Inputs) (m : Machine) (j : ℕ) →
    n < length m.axes →
    group_core_at (after_axis_command s k n kind i m) j ≡ group_core_at m j
unfolding after_axis_command
axis_command s k n kind i m j l =
    group_beside_axis m n j (core_after_command (asked_of_axis s k n kind i m) (axis_core_at m n)) l

module _ {A : Type 0} (v : GroupCall → Core → A) (P : A → Core → Type 0) where
  -- where nothing is asked of a group but its owner is taken away
  freed : (c : Core) → IsSaid v c P → (k : ℕ) (x : Core) → x ≡ disowned k c →
      P (v on_group.rests x) x
  freed c laws k x is = subst (λ d. P (v on_group.rests d) d) (sym is) (laws.detach k)

  -- a command that is asked of this group, or of another one
  group_command : (c : Core) → IsSaid v c P →
      (s : Setup) (k o : ℕ) (kind : BlockKind) (i : Inputs) (m : Machine) (j : ℕ) →
      IsThere m j → group_core_at m j ≡ disowned k c → MayAskGroup s k o kind i m →
      P (v (if nat_eq o j then on_group.asked (wanted_of k kind i) i.jerk (group_look s m j 0)
      else on_group.rests) (group_core_at m j))
      (group_core_at (after_group_command s k o kind i m) j)
  unfolding after_group_command
  group_command c laws s k o kind i m j there free may =
      let w = wanted_of k kind i in
      let d : ℕ → Core = λ x. commanded w i.jerk (group_look s m x 0) (group_core_at m x) in
      let after : group_core_at (after_group_command s k o kind i m) j ≡ group_core_at
      (with_group_core m o (d o)) j =
      group_led s o kind _ (with_group_core m o (d o)) j in
      one (λ x. P (v x (group_core_at m j)) (group_core_at (after_group_command s k o kind i m) j))
      (nat_eq o j) _ _
      (λ e.
      let same : o ≡ j = eqb-true o j e in
      let may_here = subst (λ x. MayAskGroup s k x kind i m) same may in
      let looks = may_here.may in
      let made = laws.command k w i.jerk (group_look s m j 0) (group_core_at m j) free looks.look
      may_here.made looks.kept in
      let is : group_core_at (after_group_command s k o kind i m) j ≡ record (d j) { notes = [] } =
      after ∙ ap (λ x. group_core_at (with_group_core m x (d x)) j) same ∙ group_written m j
      (d j) there.group there.list in
      subst (P (v (on_group.asked w i.jerk (group_look s m j 0)) (group_core_at m j))) (sym is)
      (laws.untold _ (d j) made))
      (λ e. subst (P (v on_group.rests (group_core_at m j)))
      (sym (after ∙ group_beside_group m o j (d o) (λ x. eqb-false o j e (sym x))))
      (freed c laws k (group_core_at m j) free))

  -- a Power off of a member, or of another axis
  group_off : (o : Option Membership) (m powered : Machine) (j : ℕ) →
      IsSaid v (group_core_at m j) P → IsThere powered j →
      ((x : ℕ) → group_core_at powered x ≡ group_core_at m x) →
      P (v (by_power_off o j) (group_core_at m j)) (group_core_at (group_without_power o powered) j)
  group_off None m powered j laws there same =
      subst (P (v on_group.rests (group_core_at m j))) (sym (same j)) laws.rests
  group_off (Some at) m powered j laws there same =
      let off : ℕ → Core = λ x. powered_off (group_core_at powered x) in
      one (λ x. P (v x (group_core_at m j))
      (group_core_at (with_group_core powered at.group (off at.group)) j))
      (nat_eq at.group j) _ _
      (λ e.
      let it : at.group ≡ j = eqb-true at.group j e in
      let is : group_core_at (with_group_core powered at.group (off at.group)) j ≡ record
      (powered_off (group_core_at m j)) { notes = [] } =
      ap (λ x. group_core_at (with_group_core powered x (off x)) j) it ∙ group_written powered j
      (off j) there.group there.list
      ∙ ap (λ x. record (powered_off x) { notes = [] }) (same j) in
      subst (P (v on_group.power_off (group_core_at m j))) (sym is)
      (laws.untold _ (powered_off (group_core_at m j)) laws.power_off))
      (λ e. subst (P (v on_group.rests (group_core_at m j)))
      (sym (group_beside_group powered at.group j (off at.group)
      (λ x. eqb-false at.group j e (sym x)) ∙ same j)) laws.rests)

  powers : (s : Setup) (n : ℕ) (enable : Bool) (m : Machine) (j : ℕ) →
      IsSaid v (group_core_at m j) P → IsThere m j → n < length m.axes →
      P (v (if enable then on_group.rests else by_power_off (membership_of s n) j)
      (group_core_at m j))
      (group_core_at (after_power s n enable m) j)
  unfolding after_power
  powers s n enable m j laws there l =
      let c = core_after_power enable (axis_core_at m n) in
      let powered = with_axis_core m n c in
      let same : (x : ℕ) → group_core_at powered x ≡ group_core_at m x =
      λ x. group_beside_axis m n x c l in
      let a = length-set m.axes n c.axis in
      let q = length-set m.queues n c.waiting in
      let list = there.list in
      let there_powered : IsThere powered j = record { group = there.group; list = omega arith } in
      both (λ x y. P (v x (group_core_at m j)) (group_core_at y j)) enable _ _ _ _
      (λ e. subst (P (v on_group.rests (group_core_at m j))) (sym (same j)) laws.rests)
      (λ e. group_off (membership_of s n) m powered j laws there_powered same)

  -- what a call makes of a group
  pub said_by_call : (s : Setup) (m : Machine) (k : ℕ) (i : Inputs) (j : ℕ) →
      IsSaid v (group_core_at m j) P → IsThere m j →
      ((b : BlockDef) → slice_get s.blocks k ≡ Some b → MayCall s k b i (with_execute k i m)) →
      IsMachineKept s m →
      P (on_group.by_call v s (slice_get s.blocks k) k i m j) (group_core_at (after_call s m k i) j)
  said_by_call s m k i j laws l may h =
      let x = with_execute k i m in
      let free = without_owner k x in
      let there : IsThere x j = record { group = l.group; list = l.list } in
      let is = group_disowned k j x l.group l.list in
      let small = disowned_size k x in
      let free_axes = small.axes in
      let free_groups = small.groups in
      let free_lists = small.queues in
      let l1 = l.group in
      let l2 = l.list in
      let still : IsThere free j = record { group = omega arith; list = omega arith } in
      let sizes = h.sized in
      let size = sizes.axes in
      let There : BlockDef → Bool → Type 0 =
      λ b y. b.object < (if y then length s.groups else length s.axes) in
      let on_axis : (b : BlockDef) → slice_get s.blocks k ≡ Some b →
      acts_on_group b.kind ≡ false → b.object < length m.axes =
      λ b at off. let within : b.object < length s.axes = subst (There b) off (may b at).object in
      omega arith in
      let Said : Request → Machine → Type 0 = λ r y.
      P (v (on_group.by_request s r k i (machine_asked r k i m) j)
      (group_core_at (machine_asked r k i m) j)) (group_core_at y j) in
      by_request s k i m Said (record {
        absent = λ none. laws.rests;
        quiet = λ b at other e. laws.rests;
        power = λ b at is.
            powers s b.object i.execute x j laws there (on_axis b at (ap acts_on_group is));
        axis_command = λ b at other e off.
            let within = on_axis b at off in
            let same = axis_command s k b.object b.kind i free j (omega arith) in
            subst (P (v on_group.rests (group_core_at free j))) (sym same)
            (freed (group_core_at m j) laws k (group_core_at free j) is);
        group_command = λ b at other e on.
            group_command (group_core_at m j) laws s k b.object b.kind i free j still is
            (((may b at).rise other).group on);
      })

-- a property of a group by the fate of its active command
abbrev pub IsByFate : Core → (Fate → Core → Type 0) → Type 0
IsByFate c P = IsSaid call_fate c P

-- what a call makes of a group goes with that
pub by_call : (P : Fate → Core → Type 0) (s : Setup) (m : Machine) (k : ℕ) (i : Inputs) (j : ℕ) →
    IsByFate (group_core_at m j) P → IsThere m j →
    ((b : BlockDef) → slice_get s.blocks k ≡ Some b → MayCall s k b i (with_execute k i m)) →
    IsMachineKept s m →
    P (on_group.by_call call_fate s (slice_get s.blocks k) k i m j) (group_core_at (after_call s m k i) j)
by_call P s m k i j laws there may h = said_by_call call_fate P s m k i j laws there may h
