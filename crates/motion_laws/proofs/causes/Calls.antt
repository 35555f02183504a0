-- What brings an axis or a group its error in a call.
-- for: errors_have_causes
use Rattle.std.specs.Prelude.{◌≡◌, ◌⊎◌, refl, ℕ, ◌<◌, Bool, true, false, nat_eq, if◌then◌else◌, ℤ, Option, Some, None, length, slice_get}
use Rattle.std.proofs.Common.{arith, ap, inl, inr, ◌∙◌}
use Rattle.std.proofs.lemmas.Bool.{eqb-true}
use Rattle.axis_core.specs.Shown as axis_shown
use Rattle.axis_core.specs.declared.axis.Axis.{Axis}
use Rattle.axis_state.specs.States as axis
use Rattle.plc_types.specs.Kinds.{acts_on_group}
use Rattle.plc_types.specs.declared.kind.BlockKind.{BlockKind}
use Rattle.plc_types.specs.declared.kind.BlockKind.TheVariants as kind
use Rattle.command_pool.specs.declared.wanted.Wanted.{Wanted}
use Rattle.fb_outputs.specs.Steps.{edge_of}
use Rattle.plc_types.specs.declared.inputs.Inputs.{Inputs}
use Rattle.fb_outputs.specs.declared.instance.Edge.{Edge}
use Rattle.fb_outputs.specs.declared.instance.Edge.TheVariants as edge
use Rattle.group_core.specs.Calls.{commanded, powered_off}
use Rattle.group_core.specs.Cores.{Core, failed}
use Rattle.group_core.specs.States.{is_error_stop, may_fail}
use Rattle.group_core.specs.declared.group.Group.{Group}
use Rattle.group_core.specs.declared.look.GroupLook.{GroupLook}
use Rattle.motion_history.specs.Calls.{IsCall}
use Rattle.motion_history.specs.Setup.{Setup}
use Rattle.motion_history.specs.declared.config.BlockDef.{BlockDef}
use Rattle.motion_kernel.proofs.Sizes.{by_if}
use Rattle.motion_kernel.specs.Machine.{Machine, axis_at, group_at, group_core_at, instance_at}
use Rattle.motion_kernel.specs.calls.Calls.{after_call}
use Rattle.motion_kernel.specs.calls.Requests.{Request, for_axis_command, for_group_command, machine_asked, request_by_edge, request_by_kind, request_of}
use Rattle.motion_kernel.specs.declared.memberships.Membership.{Membership}
use Rattle.motion_kernel.specs.kept.Machine.{AreWhole, IsMachineKept}
use Rattle.motion_kernel.specs.members.Members.{membership_of}
use Rattle.motion_laws.proofs.entries.errors.Calls.{call_shown}
use Rattle.motion_laws.proofs.entries.errors.Laws.{ErrorLaws}
use Rattle.motion_laws.specs.Standing.{AreAllShown, ShowsTruly}
use Rattle.motion_laws.proofs.entries.numbers.Calls.{axis_error, from_error, group_detached}
use Rattle.motion_laws.proofs.entries.numbers.Groups.{KeepsError, command_keeps}
use Rattle.motion_laws.proofs.walk.GroupCalls as groups
use Rattle.motion_laws.specs.calls.Group as on_group
use Rattle.motion_laws.specs.calls.Group.{GroupCall, by_call, by_power_off, by_request}
use Rattle.motion_laws.specs.causes.Group.{SwitchesOff}

-- no call brings an axis to ErrorStop: it leaves the error
unstopped : (a x : Axis) → axis_shown.IsShown a → axis_shown.IsShown x → x.error ≡ a.error →
    axis.is_error_stop a.state ≡ false → axis.is_error_stop x.state ≡ true → ⊥
unstopped a x before now same running stopped =
    let none = before.clear running in
    let some = now.stopped stopped in
    let least = some.least in
    omega arith

pub axis_running : ErrorLaws → (s : Setup) (m : Machine) (k : ℕ) (i : Inputs) (n : ℕ) →
    AreWhole s → IsCall s k i → IsMachineKept s m → AreAllShown s m → n < length m.axes →
    axis.is_error_stop (axis_at m n).state ≡ false →
    axis.is_error_stop (axis_at (after_call s m k i) n).state ≡ true → ⊥
axis_running laws s m k i n whole made h shown l =
    let sizes = h.sized in
    let a = sizes.axes in
    let now = call_shown laws s m k i whole made h shown in
    unstopped (axis_at m n) (axis_at (after_call s m k i) n) (shown.axes n (omega arith))
    (now.axes n (omega arith)) (axis_error s m k i n h l)

-- a Power off of a member fails a group by 102
pub record ComesOff (x : GroupCall) (g : Group) : Type 0 where
  pub asked : x ≡ on_group.power_off
  pub error : g.error ≡ 102

-- any other call leaves its error, or GroupErrorStop
abbrev Comes : Group → GroupCall → Core → Type 0
Comes before x c = KeepsError before c.group ⊎ ComesOff x c.group

off_comes : (c : Core) → Comes c.group on_group.power_off (powered_off c)
unfolding powered_off failed
off_comes c =
    by_if (Comes c.group on_group.power_off) (may_fail c.group.state) (failed 102 c) c
    (inr (record { asked = refl; error = refl })) (inl (inl refl))

asks : GroupCall → Core → GroupCall
asks x c = x

group_said : (c : Core) → groups.IsSaid asks c (Comes c.group)
unfolding asks
group_said c = record {
  rests = inl (inl refl);
  untold = λ f x h. h;
  detach = λ owner. inl (inl (group_detached owner c.group));
  power_off = off_comes c;
  command = λ owner w jerk members x e looks made kept. inl (from_error c.group x.group
      (commanded w jerk members x).group
      (ap (λ (y : Core). y.group.error) e ∙ group_detached owner c.group)
      (command_keeps w jerk members x));
}

-- only a Power with Enable false on a member asks for that
abbrev Off : Setup → ℕ → Inputs → ℕ → GroupCall → Type 0
Off s k i j x = x ≡ on_group.power_off → SwitchesOff s k i j

never_off : (w : Wanted) (jerk : ℤ) (look : GroupLook) →
    on_group.asked w jerk look ≡ on_group.power_off → ⊥
never_off w jerk look e = cc

rests_on : on_group.rests ≡ on_group.power_off → ⊥
rests_on e = cc

rests_off : (s : Setup) (k : ℕ) (i : Inputs) (j : ℕ) → Off s k i j on_group.rests
rests_off s k i j e = absurd (rests_on e)

power_off : (s : Setup) (k : ℕ) (i : Inputs) (j : ℕ) (b : BlockDef) →
    slice_get s.blocks k ≡ Some b → b.kind ≡ kind.Power → (enable : Bool) → i.execute ≡ enable →
    Off s k i j (if enable then on_group.rests else by_power_off (membership_of s b.object) j)
power_off s k i j b at is true on = rests_off s k i j
power_off s k i j b at is false on = by (membership_of s b.object) refl
  where
    by : (o : Option Membership) → membership_of s b.object ≡ o → Off s k i j (by_power_off o j)
    by None found = rests_off s k i j
    by (Some membership) found = of (nat_eq membership.group j) refl
      where
        of : (x : Bool) → nat_eq membership.group j ≡ x →
            Off s k i j (if x then on_group.power_off else on_group.rests)
        of true own = λ e. record {
          block = b;
          at = at;
          of_kind = is;
          off = on;
          membership = membership;
          member = found;
          own = eqb-true membership.group j own;
        }
        of false own = rests_off s k i j

module _ (s : Setup) (k : ℕ) (i : Inputs) (m : Machine) (j : ℕ) where
  abbrev Asks : Request → Type 0
  Asks r = Off s k i j (by_request s r k i (machine_asked r k i m) j)

  by_edge : (e : Edge) (b : BlockDef) → Asks (request_by_edge e b)
  by_edge edge.Rising b = by_if Asks (acts_on_group b.kind) (for_group_command b)
      (for_axis_command b)
      (by_if (Off s k i j) (nat_eq b.object j) _ on_group.rests
      (λ e. absurd (never_off _ i.jerk _ e)) (rests_off s k i j)) (rests_off s k i j)
  by_edge edge.High b = rests_off s k i j
  by_edge edge.Falling b = rests_off s k i j
  by_edge edge.Low b = rests_off s k i j

  by_kind : (x : BlockKind) (e : Edge) (b : BlockDef) → slice_get s.blocks k ≡ Some b →
      b.kind ≡ x → Asks (request_by_kind x e b i.execute)
  by_kind kind.Power e b at is = power_off s k i j b at is i.execute refl
  by_kind _ e b at is = by_edge e b

  pub by_block : (o : Option BlockDef) → slice_get s.blocks k ≡ o → Asks (request_of o k i m)
  by_block None at = rests_off s k i j
  by_block (Some b) at =
      by_kind b.kind (edge_of (instance_at m.instances k).execute i.execute) b at refl

-- so a group that comes to GroupErrorStop in a call is switched off
pub group_switched : ErrorLaws → (s : Setup) (m : Machine) (k : ℕ) (i : Inputs) (j : ℕ) →
    AreWhole s → IsCall s k i → IsMachineKept s m → AreAllShown s m → j < length m.groups →
    is_error_stop (group_at m j).group.state ≡ false →
    is_error_stop (group_at (after_call s m k i) j).group.state ≡ true →
    ((group_at (after_call s m k i) j).group.error ≡ 102) × SwitchesOff s k i j
unfolding asks
group_switched laws s m k i j whole made h shown l running stopped =
    let sizes = h.sized in
    let g = sizes.groups in
    let q = sizes.queues in
    let now = call_shown laws s m k i whole made h shown in
    let before = shown.groups j (omega arith) in
    let after = now.groups j (omega arith) in
    elim (groups.said_by_call asks (Comes (group_at m j).group) s m k i j
    (group_said (group_core_at m j)) (record { group = omega arith; list = omega arith })
    (λ b at. laws.may_call s k b i m whole at made h) h) [
      | inl keeps ↦ absurd (unmoved (group_at m j).group (group_at (after_call s m k i) j).group
          before after running stopped keeps)
      | inr off ↦ (off.error, by_block s k i m j (slice_get s.blocks k) refl off.asked)
    ]
  where
    unmoved : (a x : Group) → ShowsTruly a → ShowsTruly x → is_error_stop a.state ≡ false →
        is_error_stop x.state ≡ true → KeepsError a x → ⊥
    unmoved a x was is running stopped (inl same) =
        let none = was.shown in
        let zero = none.clear running in
        let some = is.shown in
        let number = is.number (some.stopped stopped) in
        let least = number.least in
        omega arith
    unmoved a x was is running stopped (inr out) = cc
