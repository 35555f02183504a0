-- Each end that a group gives has an error's number, where it is an error.
-- for: replies_tell_one_result, replies_show_commands, results_are_told and others
use Rattle.std.specs.Prelude.{◌≡◌, refl, ℕ, Bool, true, false, not, ◌&&◌, nat_eq, ℤ, if◌then◌else◌, Option, Some, None, is_some, List, [], ◌∷◌}
use Rattle.std.specs.Ordering.{int_eq}
use Rattle.std.proofs.Common.{inl, inr}
use Rattle.std.proofs.lemmas.Bool.{and_parts, cases_Bool}
use Rattle.axis_core.specs.Drives.{answer_error_of}
use Rattle.axis_core.specs.declared.axis.Axis.{Axis}
use Rattle.buffer_modes.specs.Queue.{is_active_at_once, noted}
use Rattle.plc_types.specs.declared.drive.DriveIn.{DriveIn}
use Rattle.command_pool.specs.declared.ending.Finish.{Finish}
use Rattle.command_pool.specs.declared.ending.Finish.TheVariants as finish
use Rattle.plc_types.specs.declared.kind.BlockKind.{BlockKind}
use Rattle.plc_types.specs.declared.kind.BlockKind.TheVariants as kind
use Rattle.command_pool.specs.declared.wanted.Wanted.{Wanted}
use Rattle.fb_outputs.specs.Replies.{is_error_number}
use Rattle.group_core.specs.Calls as group_calls
use Rattle.group_core.specs.Cores as groups
use Rattle.group_core.specs.Cycles as group_cycles
use Rattle.group_core.specs.Kinds as group_kinds
use Rattle.group_core.specs.Refusals as group_refusals
use Rattle.group_core.specs.States as group_states
use Rattle.group_core.specs.Tracks.{OnPath}
use Rattle.group_core.specs.blocks.Reset as group_reset
use Rattle.group_core.specs.declared.group.Group.{Group}
use Rattle.group_core.specs.declared.group.Motion.{Motion}
use Rattle.buffer_modes.specs.declared.reset.PendingReset.{PendingReset}
use Rattle.group_core.specs.declared.look.GroupLook.{GroupLook}
use Rattle.group_core.specs.declared.reason.Reason as group_reason
use Rattle.motion_kernel.specs.looks.DriveAnswers.{answer_at, first_error}
use Rattle.motion_kernel.specs.Machine.{axis_among}
use Rattle.motion_kernel.proofs.Sizes.{by_if}
use Rattle.motion_laws.proofs.entries.replies.AxisNumbers.{AreNumbered, both, one_told, active_told, all_told, queue_told, EndsWell, IsNumberOrNone, answer_numbered, replaced_told}

-- what a group has reported so far
abbrev GroupTells : groups.Core → Type 0
GroupTells c = AreNumbered c.notes

group_failed : (n : ℕ) (c : groups.Core) → is_error_number n ≡ true → GroupTells c → GroupTells
    (groups.failed n c)
unfolding groups.failed
group_failed n c e h = both c.notes _ h (all_told (finish.Error n) (group_calls.queue_in c) e)

-- a command that is asked of a group
line_told : (members : GroupLook) (w : Wanted) (c : groups.Core) → GroupTells c → GroupTells
    (group_calls.line_joined members w c)
line_told members w c h =
    let all = both c.notes (noted (group_calls.queue_in c) w) h
    (queue_told (group_calls.queue_in c) w) in
    by_if GroupTells (group_calls.waits_for_rest w c.path) _ _
    (both c.notes _ h (all_told finish.Aborted (group_calls.queue_in c) tt))
    (by_if GroupTells (is_active_at_once (group_calls.queue_in c) w) _ _ all all)

group_admitted : (k : BlockKind) (members : GroupLook) (w : Wanted) (c : groups.Core) →
    GroupTells c → GroupTells (group_calls.admitted_by k members w c)
group_admitted kind.GroupEnable members w c h = h
group_admitted kind.GroupDisable members w c h = h
group_admitted kind.GroupReset members w c h = both c.notes _ h (replaced_told c.group.reset)
group_admitted kind.GroupStop members w c h = both c.notes _ h
    (all_told finish.Aborted (group_calls.queue_in c) tt)
group_admitted kind.GroupHalt members w c h = both c.notes _ h
    (all_told finish.Aborted (group_calls.queue_in c) tt)
group_admitted kind.MoveLinearAbsolute members w c h = line_told members w c h
group_admitted _ members w c h = h

group_verdict : (o : Option group_reason.Reason) (members : GroupLook) (w : Wanted)
    (c : groups.Core) → GroupTells c → GroupTells (group_calls.commanded_by o members w c)
group_verdict None members w c h = group_admitted w.kind members w c h
group_verdict (Some r) members w c h = h

pub group_command_told : (w : Wanted) (jerk : ℤ) (members : GroupLook) (c : groups.Core) →
    AreNumbered c.notes →
    AreNumbered (group_calls.commanded w jerk members c).notes
unfolding group_calls.commanded
group_command_told w jerk members c h = group_verdict
    (group_refusals.refusal_of (group_calls.asked_in c w jerk members)) members w c h

-- a Power off of a member
pub group_power_told : (c : groups.Core) → AreNumbered c.notes → AreNumbered
    (group_calls.powered_off c).notes
unfolding group_calls.powered_off
group_power_told c h = by_if GroupTells (group_states.may_fail c.group.state) _ _
    (group_failed 102 c refl h) h

-- the ends of a group's step
line_well : (k : BlockKind) (m : Motion) (step : ℤ) → EndsWell (group_kinds.ending_by k m step)
line_well kind.MoveLinearAbsolute m step =
    by_if EndsWell (int_eq m.place m.limits.hi && int_eq step _) (Some finish.Done) None tt tt
line_well _ m step = by_if EndsWell (int_eq step _) (Some finish.Done) None tt tt

moves_well : (active : Option Wanted) (m : Motion) → EndsWell
    (group_cycles.advanced_with active m).ending
moves_well None m = tt
moves_well (Some w) m = line_well w.kind m _

group_advances : (g : Group) (p : Option OnPath) → EndsWell (group_cycles.ending_of g p)
unfolding group_cycles.advanced
group_advances g None = tt
group_advances g (Some p) =
    by_if (λ (x : group_cycles.Advance). EndsWell x.ending)
    (group_states.is_error_stop g.state) _ _ tt (moves_well g.active p.motion)

group_over : (members : GroupLook) (setpoints : List ℤ) (ws : List Wanted) (c : groups.Core) →
    GroupTells c → GroupTells (groups.taken_over members setpoints ws c)
group_over members setpoints [] c h = h
group_over members setpoints (w ∷ ws) c h = h

group_ended : (members : GroupLook) (setpoints : List ℤ) (o : Option Finish) (c : groups.Core) →
    EndsWell o → GroupTells c →
    GroupTells (groups.ended_by members setpoints o c)
unfolding groups.ended
group_ended members setpoints None c e h = h
group_ended members setpoints (Some f) c e h = group_over members setpoints c.waiting _
    (both c.notes _ h (active_told f c.group.active e))

group_where : (b : Bool) (c d : groups.Core) → (b ≡ true → GroupTells c) → GroupTells d → GroupTells
    (if b then c else d)
group_where true c d h k = h refl
group_where false c d h k = k

is_there : (n : ℕ) (b : Bool) → not (nat_eq n 0) && b ≡ true → nat_eq n 0 ≡ false
is_there n b e = elim (cases_Bool (nat_eq n 0)) [
  | inl zero ↦ absurd (let p = and_parts (not (nat_eq n 0)) b e in let q = p.0 in cc)
  | inr other ↦ other
]

group_answered : (error : ℕ) (c : groups.Core) → IsNumberOrNone error → GroupTells c → GroupTells
    (group_cycles.answered error c)
group_answered error c i h =
    group_where (not (nat_eq error 0) && group_states.may_fail c.group.state) _ c
    (λ e. group_failed error c (i (is_there error _ e)) h) h

pub group_cycle_told : (members : GroupLook) (c : groups.Core) → IsNumberOrNone members.error →
    AreNumbered c.notes →
    AreNumbered (group_cycles.cycled members c).notes
unfolding group_cycles.cycled
group_cycle_told members c i h =
    let stopped = group_cycles.answered members.error c in
    let path = group_cycles.path_after stopped.group stopped.path in
    group_ended members _ (group_cycles.ending_of stopped.group stopped.path)
    (record stopped { path = path })
    (group_advances stopped.group stopped.path) (group_answered members.error c i h)

-- a GroupReset
group_done : (o : Option PendingReset) (on_path : Bool) (g : Group) → AreNumbered
    (group_reset.reset_notes o on_path g)
group_done None on_path g = tt
group_done (Some p) on_path g = by_if AreNumbered (group_reset.may_reset on_path g) _ _
    (one_told p.owner finish.Done tt) tt

pub group_reset_told : (members : GroupLook) (c : groups.Core) → AreNumbered c.notes → AreNumbered
    (group_cycles.reset_cycled members c).notes
group_reset_told members c h = both c.notes _ h (group_done c.group.reset (is_some c.path) c.group)

-- the error that a group gets from its axes
error_first : (error more : ℕ) → IsNumberOrNone error → IsNumberOrNone more → IsNumberOrNone
    (if nat_eq error 0 then more else error)
error_first error more h k = by_if IsNumberOrNone (nat_eq error 0) more error k h

pub first_numbered : (axes : List Axis) (ins : List DriveIn) (ns : List ℕ) → IsNumberOrNone
    (first_error axes ins ns)
first_numbered axes ins [] h = absurd (cc)
first_numbered axes ins (n ∷ ns) h =
    error_first (answer_error_of (axis_among axes n) (answer_at ins n)) (first_error axes ins ns)
    (answer_numbered (axis_among axes n) (answer_at ins n)) (first_numbered axes ins ns) h
