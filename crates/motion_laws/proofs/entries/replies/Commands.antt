-- What a call leaves of the instances, before its reply.
-- for: replies_tell_one_result, replies_show_commands, results_are_told and others
use Rattle.std.specs.Prelude.{◌≡◌, ℕ, Bool, true, false, Option, Some, None, Result, Ok, Err, List, [], ◌∷◌, slice_get, slice_set}
use Rattle.std.specs.List.{AllByRecursion}
use Rattle.std.proofs.Common.{sym, subst}
use Rattle.axis_core.specs.Calls.{answer_by, answer_of, core_after_command, core_after_power}
use Rattle.axis_core.specs.Cores as cores
use Rattle.axis_core.specs.Refusals as axis_refusals
use Rattle.axis_core.specs.declared.reason.Reason as axis_reason
use Rattle.command_pool.specs.declared.ending.Finish.{Finish}
use Rattle.command_pool.specs.declared.ending.Finish.TheVariants as finish
use Rattle.command_pool.specs.declared.ending.Refusal.{Refusal}
use Rattle.plc_types.specs.declared.kind.BlockKind.{BlockKind}
use Rattle.command_pool.specs.declared.notes.Note.{Note}
use Rattle.command_pool.specs.declared.wanted.Wanted.{Wanted}
use Rattle.fb_outputs.specs.InstanceState.{InstanceState}
use Rattle.fb_outputs.specs.Replies.{Happening, HasNumber, IsNumbered, IsReply, after_all, is_error_number, may_hold}
use Rattle.fb_outputs.specs.Steps.{finished, opened, outputs_of, started}
use Rattle.plc_types.specs.declared.inputs.Inputs.{Inputs}
use Rattle.group_core.specs.Calls as group_calls
use Rattle.group_core.specs.Calls.{commanded, powered_off}
use Rattle.group_core.specs.Cores as group_cores
use Rattle.group_core.specs.Refusals as group_refusals
use Rattle.group_core.specs.declared.reason.Reason as group_reason
use Rattle.motion_history.specs.Setup.{Setup}
use Rattle.motion_kernel.specs.calls.Asking.{is_done_at_once, wanted_of}
use Rattle.motion_kernel.specs.calls.Calls.{after_axis_command, after_group_command, after_power, asked_of_axis, called, group_without_power, members_led, with_answer, with_axis_core, with_execute, with_group_core, without_owner}
use Rattle.motion_kernel.specs.looks.GroupLooks.{group_look}
use Rattle.motion_kernel.specs.Machine.{Machine, axis_core_at, group_core_at, instance_at}
use Rattle.motion_kernel.specs.members.Members.{membership_of}
use Rattle.motion_kernel.specs.calls.Telling.{told_end, told_notes}
use Rattle.motion_kernel.specs.declared.memberships.Membership.{Membership}
use Rattle.motion_kernel.proofs.kept.Machine.{MachinesStayKept}
use Rattle.motion_kernel.proofs.Sizes.{by_if}
use Rattle.motion_kernel.proofs.walk.Events.{members_instances}
use Rattle.motion_kernel.proofs.walk.Requests.{by_request}
use Rattle.motion_laws.proofs.entries.replies.AxisNumbers.{AreNumbered, axis_numbered, command_told, group_numbered, power_told}
use Rattle.motion_laws.proofs.entries.replies.GroupNumbers.{group_command_told, group_power_told}

-- fb_outputs' replies_tell_one_result
pub record InstancesTellOne : Type 0 where
  pub single : (kind : BlockKind) (happenings : List Happening) →
      IsReply (may_hold (after_all (opened kind) happenings))
      (outputs_of (after_all (opened kind) happenings))
  pub numbered : (kind : BlockKind) (happenings : List Happening) →
      AllByRecursion IsNumbered happenings →
      (outputs_of (after_all (opened kind) happenings)).error ≡ true →
      is_error_number (outputs_of (after_all (opened kind) happenings)).error_id ≡ true

-- the laws on which it rests that replies report one result
pub record ReplyLaws : Type 0 where
  pub machines : MachinesStayKept
  pub instances : InstancesTellOne

-- what holds of the instances of a machine and stays where one's command ends, with its number, or
-- starts
pub record Stays (P : List InstanceState → Type 0) : Type 0 where
  pub ends : (is : List InstanceState) (k : ℕ) (f : Finish) → HasNumber f → P is → P
      (slice_set is k (finished (instance_at is k) f))
  pub starts : (is : List InstanceState) (k : ℕ) (active : Bool) → P is → P
      (slice_set is k (started (instance_at is k) active))

pub notes_stay : (P : List InstanceState → Type 0) → Stays P → (ns : List Note)
    (is : List InstanceState) → AreNumbered ns → P is → P (told_notes ns is)
notes_stay P c [] is n h = h
notes_stay P c (x ∷ xs) is n h = notes_stay P c xs (told_end x.owner x.finish is) n.1
    (c.ends is x.owner x.finish n.0 h)

-- a command that is asked
abbrev IsAnswer : Result Bool Refusal → Type 0
IsAnswer (Ok active) = Unit {0}
IsAnswer (Err r) = is_error_number r.number ≡ true

answer_stays : (P : List InstanceState → Type 0) → Stays P → (k : ℕ) (kind : BlockKind)
    (answer : Result Bool Refusal) (m : Machine) →
    IsAnswer answer → P m.instances → P (with_answer k kind answer m).instances
answer_stays P c k kind (Err r) m n h = c.ends m.instances k (finish.Error r.number) n h
answer_stays P c k kind (Ok true) m n h = c.starts m.instances k true h
answer_stays P c k kind (Ok false) m n h =
    by_if (λ (i : InstanceState). P (slice_set m.instances k i)) (is_done_at_once kind) _ _
    (c.ends m.instances k finish.Done tt h) (c.starts m.instances k false h)

axis_answered : (o : Option axis_reason.Reason) (w : Wanted) (c : cores.Core) → IsAnswer
    (answer_by o w c)
axis_answered None w c = tt
axis_answered (Some r) w c = axis_numbered r

axis_command_stays : (P : List InstanceState → Type 0) → Stays P → (s : Setup) (k n : ℕ)
    (kind : BlockKind) (i : Inputs) (m : Machine) →
    P m.instances → P (after_axis_command s k n kind i m).instances
unfolding after_axis_command answer_of
axis_command_stays P c s k n kind i m h =
    let core = axis_core_at m n in
    let q = asked_of_axis s k n kind i m in
    answer_stays P c k kind (answer_by (axis_refusals.refusal_of q) q.wanted core)
    (with_axis_core m n (core_after_command q core))
    (axis_answered (axis_refusals.refusal_of q) q.wanted core)
    (notes_stay P c (core_after_command q core).notes m.instances (command_told q core tt) h)

group_answered : (o : Option group_reason.Reason) (w : Wanted) (c : group_cores.Core) → IsAnswer
    (group_calls.answer_by o w c)
group_answered None w c = tt
group_answered (Some r) w c = group_numbered r

group_command_stays : (P : List InstanceState → Type 0) → Stays P → (s : Setup) (k j : ℕ)
    (kind : BlockKind) (i : Inputs) (m : Machine) →
    P m.instances → P (after_group_command s k j kind i m).instances
unfolding after_group_command group_calls.answer_of
group_command_stays P c s k j kind i m h =
    let core = group_core_at m j in
    let w = wanted_of k kind i in
    let members = group_look s m j 0 in
    let refusal = group_refusals.refusal_of (group_calls.asked_in core w i.jerk members) in
    let answer = group_calls.answer_by refusal w core in
    let x = with_group_core m j (commanded w i.jerk members core) in
    answer_stays P c k kind answer (members_led s j kind answer x) (group_answered refusal w core)
    (subst P (sym (members_instances s j kind answer x))
    (notes_stay P c (commanded w i.jerk members core).notes m.instances
    (group_command_told w i.jerk members core tt) h))

-- a Power
group_off_stays : (P : List InstanceState → Type 0) → Stays P → (o : Option Membership)
    (m : Machine) → P m.instances → P (group_without_power o m).instances
group_off_stays P c None m h = h
group_off_stays P c (Some at) m h =
    let core = group_core_at m at.group in
    notes_stay P c (powered_off core).notes m.instances (group_power_told core tt) h

power_stays : (P : List InstanceState → Type 0) → Stays P → (s : Setup) (n : ℕ) (enable : Bool)
    (m : Machine) → P m.instances → P (after_power s n enable m).instances
unfolding after_power
power_stays P c s n enable m h =
    let core = axis_core_at m n in
    let powered = with_axis_core m n (core_after_power enable core) in
    let one = notes_stay P c (core_after_power enable core).notes m.instances
    (power_told enable core tt) h in
    by_if (λ (x : Machine). P x.instances) enable powered
    (group_without_power (membership_of s n) powered) one
    (group_off_stays P c (membership_of s n) powered one)

-- a call: from where its instance took Execute, if its block is there
pub call_stays : (P : List InstanceState → Type 0) → Stays P → (s : Setup) (k : ℕ) (i : Inputs)
    (m : Machine) → (slice_get s.blocks k ≡ None → P m.instances) →
    P (with_execute k i m).instances → P (called s k i m).instances
unfolding without_owner
call_stays P c s k i m absent h =
    let x = with_execute k i m in
    by_request s k i m (λ r y. P y.instances) (record {
      absent = absent;
      quiet = λ b at other e. h;
      power = λ b at is. power_stays P c s b.object i.execute x h;
      axis_command = λ b at other e off.
          axis_command_stays P c s k b.object b.kind i (without_owner k x) h;
      group_command = λ b at other e on.
          group_command_stays P c s k b.object b.kind i (without_owner k x) h;
    })
