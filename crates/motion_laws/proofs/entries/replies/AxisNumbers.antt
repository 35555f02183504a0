-- Each end that an axis gives has an error's number, where it is an error.
-- for: replies_tell_one_result, replies_show_commands, results_are_told and others
use Rattle.std.specs.Prelude.{◌≡◌, refl, ℕ, Bool, true, false, ◌&&◌, ◌||◌, nat_eq, ℤ, ◌-ℤ◌, Option, Some, None, is_some, Result, Ok, Err, List, [], ◌∷◌, ◌++◌, slice_get}
use Rattle.std.proofs.Common.{ap}
use Rattle.axis_core.specs.declared.profile.Goal.{Goal}
use Rattle.axis_core.specs.declared.profile.Goal.TheVariants.{FromBefore}
use Rattle.axis_core.proofs.AxisWalk.{by-test}
use Rattle.axis_core.specs.Calls.{core_after_command, core_after_joining, core_after_leaving, core_after_power, core_after_verdict, core_entered_in, queue_in}
use Rattle.axis_core.specs.Cores.{Core, core_after_end, core_after_ending, core_after_error, core_after_take_over, core_taken_in}
use Rattle.axis_core.specs.Cycles.{Advance, advance_by_command, advance_by_progress, advance_in_cycle, advance_without_error, core_after_answer, core_after_cycle, core_after_step, progress_by_step}
use Rattle.axis_core.specs.Drives.{answer_error_of, is_driven}
use Rattle.axis_core.specs.Kinds.{end_by, wish_by, wish_in}
use Rattle.axis_core.specs.Profiles.{profile_of}
use Rattle.axis_core.specs.Refusals as axis_refusals
use Rattle.axis_core.specs.Refusals.{Asked}
use Rattle.axis_state.specs.States.{is_error_stop}
use Rattle.axis_core.specs.Steps.{is_braking, is_safe_step, old_step_of, step_for_wish, step_toward, wish_within_limits}
use Rattle.axis_core.specs.blocks.Cam.{cam_wish_where}
use Rattle.axis_core.specs.blocks.Gear.{gear_step_of}
use Rattle.axis_core.specs.blocks.Moves.{known_target_of, target_of, with_target}
use Rattle.axis_core.specs.blocks.Path.{place_on_path}
use Rattle.axis_core.specs.blocks.Reset as axis_reset
use Rattle.axis_core.specs.blocks.Velocity.{step_to_velocity}
use Rattle.axis_core.specs.declared.axis.Axis.{Axis}
use Rattle.axis_core.specs.declared.profile.Closes.{Closes}
use Rattle.axis_core.specs.declared.profile.Closes.TheVariants.{Never, AtOnce, WhenDone, ForNext}
use Rattle.axis_core.specs.declared.profile.Entry.{Entry}
use Rattle.axis_core.specs.declared.profile.Entry.TheVariants.{Joins, Leaves, Awaits}
use Rattle.axis_core.specs.declared.profile.Manner.{Manner}
use Rattle.axis_core.specs.declared.profile.Manner.TheVariants.{Runs, Gears, Cams}
use Rattle.buffer_modes.specs.Resets.{replaced_note}
use Rattle.buffer_modes.specs.declared.reset.PendingReset.{PendingReset}
use Rattle.axis_core.specs.declared.look.AxisLook.{AxisLook}
use Rattle.axis_core.specs.declared.reason.Reason as axis_reason
use Rattle.axis_core.specs.declared.reason.Reason.TheVariants as axis_reasons
use Rattle.buffer_modes.specs.Queue.{Commands, active_note, end_notes, is_aborting, is_active_at_once, noted}
use Rattle.plc_types.specs.declared.drive.DriveIn.{DriveIn}
use Rattle.command_pool.specs.Waiting.{last_of, notes_of, told_to}
use Rattle.command_pool.specs.declared.ending.Finish.{Finish}
use Rattle.command_pool.specs.declared.ending.Finish.TheVariants as finish
use Rattle.command_pool.specs.declared.notes.Note.{Note}
use Rattle.command_pool.specs.declared.wanted.Wanted.{Wanted}
use Rattle.fb_outputs.specs.Replies.{HasNumber, is_error_number}
use Rattle.follow_plan.specs.Gear.{gear_toward_of}
use Rattle.group_core.specs.Refusals as group_refusals
use Rattle.group_core.specs.declared.reason.Reason as group_reason
use Rattle.group_core.specs.declared.reason.Reason.TheVariants as group_reasons
use Rattle.motion_kernel.proofs.Sizes.{by_if}
use Rattle.motion_laws.proofs.causes.Answers.{answer_brings}
use Rattle.motion_laws.specs.causes.Axis.{AnswerBrings}
use Rattle.motion_laws.specs.causes.Axis as brings

-- each note of an end by an error has its number
abbrev pub AreNumbered : List Note → Type 0
AreNumbered [] = Unit {0}
AreNumbered (n ∷ ns) = HasNumber n.finish × AreNumbered ns

pub both : (ns more : List Note) → AreNumbered ns → AreNumbered more → AreNumbered (ns ++ more)
both [] more h k = k
both (n ∷ ns) more h k = (h.0, both ns more h.1 k)

pub one_told : (o : Option ℕ) (f : Finish) → HasNumber f → AreNumbered (told_to o f)
one_told None f h = tt
one_told (Some k) f h = (h, tt)

all_aborted : (ws : List Wanted) → AreNumbered (notes_of finish.Aborted ws)
all_aborted [] = tt
all_aborted (w ∷ ws) = both (told_to w.owner finish.Aborted) (notes_of finish.Aborted ws)
    (one_told w.owner finish.Aborted tt) (all_aborted ws)

pub active_told : (f : Finish) (active : Option Wanted) → HasNumber f → AreNumbered
    (active_note f active)
active_told f None h = tt
active_told f (Some w) h = one_told w.owner f h

pub all_told : (f : Finish) (q : Commands) → HasNumber f → AreNumbered (end_notes f q)
all_told f q h = both (active_note f q.active) (notes_of finish.Aborted q.waiting)
    (active_told f q.active h) (all_aborted q.waiting)

pub queue_told : (q : Commands) (w : Wanted) → AreNumbered (noted q w)
queue_told q w = by_if AreNumbered (is_aborting w.mode) _ _ (all_told finish.Aborted q tt) tt

-- the numbers of refusals
pub axis_numbered : (r : axis_reason.Reason) → is_error_number (axis_refusals.number_of r) ≡ true
axis_numbered axis_reasons.NotPowered = refl
axis_numbered _ = refl

pub group_numbered : (r : group_reason.Reason) → is_error_number (group_refusals.number_of r) ≡ true
group_numbered group_reasons.NotPowered = refl
group_numbered _ = refl

-- what an axis has reported so far
abbrev TellsNumbers : Core → Type 0
TellsNumbers c = AreNumbered c.notes

failed_told : (n : ℕ) (c : Core) → is_error_number n ≡ true → TellsNumbers c → TellsNumbers
    (core_after_error n c)
unfolding core_after_error
failed_told n c e h = both c.notes _ h (all_told (finish.Error n) (queue_in c) e)

-- a command that is asked of an axis
pub replaced_told : (o : Option PendingReset) → AreNumbered (replaced_note o)
replaced_told None = tt
replaced_told (Some p) = one_told p.owner finish.Aborted tt

joined_told : (w : Wanted) (c : Core) → TellsNumbers c → TellsNumbers (core_after_joining w c)
joined_told w c h =
    let all = both c.notes (noted (queue_in c) w) h (queue_told (queue_in c) w) in
    by_if TellsNumbers (is_active_at_once (queue_in c) w) _ _ all all

left_told : (w : Wanted) (c : Core) → TellsNumbers c → TellsNumbers (core_after_leaving w c)
left_told w c h = both c.notes _ h (all_told finish.Aborted (queue_in c) tt)

admitted_told : (e : Entry) (w : Wanted) (c : Core) → TellsNumbers c → TellsNumbers
    (core_entered_in e w c)
admitted_told Awaits w c h = both c.notes _ h (replaced_told c.axis.reset)
admitted_told Leaves w c h = left_told w c h
admitted_told Joins w c h = joined_told w c h

verdict_told : (o : Option axis_reason.Reason) (w : Wanted) (c : Core) → TellsNumbers c →
    TellsNumbers (core_after_verdict o w c)
verdict_told None w c h = admitted_told (profile_of w.kind).entry
    (with_target (known_target_of c.axis (last_of c.waiting) w) w) c h
verdict_told (Some r) w c h = h

pub command_told : (q : Asked) (c : Core) → AreNumbered c.notes → AreNumbered
    (core_after_command q c).notes
unfolding core_after_command
command_told q c h = verdict_told (axis_refusals.refusal_of q) q.wanted c h

-- a Power
pub power_told : (enable : Bool) (c : Core) → AreNumbered c.notes → AreNumbered
    (core_after_power enable c).notes
unfolding core_after_power
power_told true c h = h
power_told false c h = by_if TellsNumbers (is_error_stop c.axis.state) _ _ h
    (both c.notes _ h (all_told finish.Aborted (queue_in c) tt))

-- how a command of an axis ends by its step
abbrev pub EndsWell : Option Finish → Type 0
EndsWell None = Unit {0}
EndsWell (Some f) = HasNumber f

abbrev IsWish : Result ℤ ℕ → Type 0
IsWish (Ok step) = Unit {0}
IsWish (Err n) = is_error_number n ≡ true

ends_well : (x : Closes) (next : Option Wanted) (holds : Bool) → EndsWell (end_by x next holds)
ends_well Never next holds = tt
ends_well AtOnce next holds = tt
ends_well WhenDone next holds = by_if EndsWell holds (Some finish.Done) None tt tt
ends_well ForNext next holds =
    by_if EndsWell (is_some next && holds) (Some finish.Aborted) None tt tt

limited_wish : (a : Axis) (step : ℤ) → IsWish (wish_within_limits a step)
limited_wish a step = by_if IsWish (is_braking (old_step_of a) step || is_safe_step a step)
    (Ok step) (Err 103) tt refl

cam_wish : (safe : Bool) (a : Axis) (w : Wanted) (cam : ℤ) → IsWish (cam_wish_where safe a w cam)
cam_wish true a w cam = tt
cam_wish false a w cam = by_if IsWish a.reached (Err 104)
    (wish_within_limits a (step_toward a cam w)) refl (limited_wish a (step_toward a cam w))

is_wish : (m : Manner) (a : Axis) (w : Wanted) (next : Option Wanted) (look : AxisLook) →
    IsWish (wish_in m a w next look)
is_wish Runs a w next look = limited_wish a (step_to_velocity a w.rates.v w)
is_wish Gears a w next look = limited_wish a
    (step_to_velocity a (gear_toward_of (gear_step_of w.follow look.master) a.limits.vmax) w)
is_wish Cams a w next look = cam_wish (is_safe_step a (look.cam -ℤ a.setpoint)) a w look.cam
is_wish _ a w next look = tt

wished_well : (wish : Result ℤ ℕ) (w : Wanted) (next : Option Wanted) (look : AxisLook) (a : Axis) →
    IsWish wish →
    EndsWell (advance_by_progress w.kind (target_of w) a
    (progress_by_step a w next look (step_for_wish a wish))).ending
wished_well (Ok step) w next look a i = ends_well (profile_of w.kind).closes next _
wished_well (Err n) w next look a i = i

commanded_well : (active next : Option Wanted) (look : AxisLook) (a : Axis) → EndsWell
    (advance_by_command active next look a).ending
commanded_well None next look a = tt
commanded_well (Some w) next look a = wished_well (wish_by w.kind a w next look) w next look a
    (is_wish (profile_of w.kind).manner a w next look)

placed_well : (o : Option ℤ) (next : Option Wanted) (look : AxisLook) (a : Axis) → EndsWell
    (advance_without_error o next look a).ending
placed_well None next look a = commanded_well a.active next look a
placed_well (Some place) next look a = tt

advances_well : (next : Option Wanted) (look : AxisLook) (a : Axis) → EndsWell
    (advance_in_cycle next look a).ending
unfolding advance_in_cycle
advances_well next look a =
    by_if (λ (x : Advance). EndsWell x.ending) (is_error_stop a.state) _ _ tt
    (placed_well (place_on_path a look) next look a)

-- the ends of a cycle of an axis
taken_told : (g : Goal) (t : Option ℤ) (w : Wanted) (c : Core) → TellsNumbers c → TellsNumbers
    (core_taken_in g t w c)
taken_told (FromBefore base) None w c h =
    by_if TellsNumbers _ _ _
    (failed_told 106 (record c { axis = record c.axis { active = Some w } }) refl h) h
taken_told (FromBefore base) (Some t) w c h = h
taken_told _ t w c h = h

over_told : (ws : List Wanted) (c : Core) → TellsNumbers c → TellsNumbers
    (core_after_take_over ws c)
over_told [] c h = h
over_told (w ∷ ws) c h = taken_told (profile_of w.kind).goal w.target w (record c { waiting = ws }) h

end_told : (f : Finish) (c : Core) → HasNumber f → TellsNumbers c → TellsNumbers
    (core_after_end f c)
unfolding core_after_end
end_told f c e h = over_told c.waiting _ (both c.notes _ h (active_told f c.axis.active e))

ending_told : (o : Option Finish) (c : Core) → EndsWell o → TellsNumbers c → TellsNumbers
    (core_after_ending o c)
ending_told None c e h = h
ending_told (Some (finish.Error n)) c e h = failed_told n c e h
ending_told (Some finish.Done) c e h = end_told finish.Done c tt h
ending_told (Some finish.Aborted) c e h = end_told finish.Aborted c tt h

step_told : (look : AxisLook) (driven : Bool) (c : Core) → TellsNumbers c → TellsNumbers
    (core_after_step look driven c)
step_told look driven c h =
    let step = advance_in_cycle (slice_get c.waiting 0) look c.axis in
    by_if TellsNumbers (driven && c.axis.driven) _ _
    (ending_told step.ending (record c { axis = step.axis })
    (advances_well (slice_get c.waiting 0) look c.axis) h) h

-- the error that an answer brings
abbrev pub IsNumberOrNone : ℕ → Type 0
IsNumberOrNone n = nat_eq n 0 ≡ false → is_error_number n ≡ true

brought_number : (a : Axis) (d : DriveIn) (n : ℕ) → AnswerBrings a d n → is_error_number n ≡ true
brought_number a d n (brings.fault e h) = ap is_error_number e
brought_number a d n (brings.lost e h) = ap is_error_number e
brought_number a d n (brings.outside e h) = ap is_error_number e

pub answer_numbered : (a : Axis) (input : DriveIn) → IsNumberOrNone (answer_error_of a input)
answer_numbered a input some =
    brought_number a input (answer_error_of a input) (answer_brings a input some)

answer_told : (input : DriveIn) (c : Core) → TellsNumbers c → TellsNumbers
    (core_after_answer input c)
answer_told input c h =
    by-test TellsNumbers (nat_eq (answer_error_of c.axis input) 0) c
    (core_after_error (answer_error_of c.axis input) c) (λ e. h)
    (λ e. failed_told (answer_error_of c.axis input) c (answer_numbered c.axis input e) h)

done_told : (o : Option PendingReset) (input : DriveIn) (a : Axis) → AreNumbered
    (axis_reset.reset_notes o input a)
done_told None input a = tt
done_told (Some p) input a = by_if AreNumbered (axis_reset.may_reset input a) _ _
    (one_told p.owner finish.Done tt) tt

pub cycle_told : (look : AxisLook) (c : Core) → AreNumbered c.notes → AreNumbered
    (core_after_cycle look c).notes
unfolding core_after_cycle
cycle_told look c h =
    let ran = core_after_step look (is_driven c.axis look.input) (core_after_answer look.input c) in
    both ran.notes _ (step_told look (is_driven c.axis look.input) (core_after_answer look.input c)
    (answer_told look.input c h))
    (done_told ran.axis.reset look.input ran.axis)
