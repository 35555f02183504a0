-- An axis has the error that its cycle gives.
-- for: errors_have_causes, errors_are_told_as_shown, commands_end_by_their_kinds
use Rattle.std.specs.Prelude.{◌≡◌, ◌≢◌, ◌⊎◌, refl, ℕ, Bool, true, false, ◌&&◌, nat_eq, if◌then◌else◌, ℤ, ◌+ℤ◌, Option, Some, None, List, [], ◌∷◌, slice_get}
use Rattle.std.proofs.Common.{ap, subst, sym, ◌∙◌, inl, inr}
use Rattle.std.proofs.lemmas.Bool.{cases_Bool}
use Rattle.axis_core.specs.declared.profile.Goal.{Goal}
use Rattle.axis_core.specs.declared.profile.Goal.TheVariants.{FromBefore}
use Rattle.axis_core.specs.Profiles.{profile_of}
use Rattle.axis_core.proofs.KeptCycles.{reset-same}
use Rattle.axis_core.specs.Cores.{Core, axis_under, axis_under_by, core_after_end, core_after_ending, core_after_error, core_after_take_over, core_taken_in}
use Rattle.axis_core.specs.Cycles.{Advance, advance_in_cycle, advance_without_error, axis_after_braking, core_after_advance, core_after_answer, core_after_cycle, core_after_going_on, core_after_step}
use Rattle.axis_core.specs.Drives.{answer_error_of, is_driven, new_error_of}
use Rattle.axis_core.specs.blocks.Halts.{axis_after_stop, leaves_stopping}
use Rattle.axis_core.specs.blocks.Moves.{position_of, with_target}
use Rattle.axis_core.specs.blocks.Path.{place_on_path}
use Rattle.axis_core.specs.blocks.Power.{state_when_driven}
use Rattle.axis_core.specs.blocks.Reset.{after_reset, may_reset, reset_axis, reset_notes, state_after_reset}
use Rattle.axis_core.specs.declared.axis.Axis.{Axis}
use Rattle.axis_core.specs.declared.look.AxisLook.{AxisLook}
use Rattle.axis_state.specs.Diagram.{next_of}
use Rattle.axis_state.specs.States.{is_error_stop, is_stopping}
use Rattle.axis_state.specs.declared.diagram.AxisEvent.TheVariants.{StopReleased}
use Rattle.plc_types.specs.declared.axis_state.AxisState.{AxisState}
use Rattle.plc_types.specs.declared.axis_state.AxisState.TheVariants as state
use Rattle.buffer_modes.specs.Owners.{owner_count, owner_by}
use Rattle.buffer_modes.specs.Queue.{active_note, end_notes}
use Rattle.buffer_modes.specs.declared.reset.PendingReset.{PendingReset}
use Rattle.plc_types.specs.declared.drive.DriveIn.{DriveIn}
use Rattle.command_changes.proofs.axis.Cycles.{advance_stays}
use Rattle.command_changes.specs.Axis.{command_state_of}
use Rattle.command_core.specs.CommandState.{CommandState}
use Rattle.command_pool.specs.Waiting.{told_to}
use Rattle.command_pool.specs.declared.ending.Finish.{Finish}
use Rattle.command_pool.specs.declared.ending.Finish.TheVariants as finish
use Rattle.command_pool.specs.declared.wanted.Wanted.{Wanted}
use Rattle.motion_kernel.proofs.Sizes.{by_if}
use Rattle.motion_numbers.specs.Ranges.{is_outside}
use Rattle.motion_laws.specs.entries.Numbers.{MayFail, waits_first}
use Rattle.motion_laws.proofs.entries.numbers.Notes.{AllTell, IsPlain, Nothing, Shows, aborts_plain, active_plain, all_told, done_plain, more, plain, untold, weaker}

-- each error that is reported is the axis's
abbrev Tells : CommandState → Core → Type 0
Tells c d = AllTell (Shows c d.axis.error) d.notes

none_told : (P : ℕ → ℕ → Type 0) (c : Core) → c.notes ≡ [] → AllTell P c.notes
none_told P c e = untold P c.notes e

-- all commands end by an error
failed_tells : (n : ℕ) (c : CommandState) (d : Core) → AllTell (Shows c n) d.notes →
    ((k : ℕ) → owner_count k (owner_by d.axis.active) ≡ 1 → MayFail k c n) →
    Tells c (core_after_error n d)
unfolding core_after_error
failed_tells n c d h may =
    more (Shows c n) d.notes
    (end_notes (finish.Error n) (record { active = d.axis.active; waiting = d.waiting })) h
    (all_told (Shows c n) n (record { active = d.axis.active; waiting = d.waiting })
    (λ k e. (may k e, refl)))

-- the active command ends, and the first that waits takes over
from_nothing : (P : ℕ → ℕ → Type 0) (d : Core) → AllTell Nothing d.notes → AllTell P d.notes
from_nothing P d h = weaker Nothing P d.notes (λ k x n. absurd n) h

taken_tells : (g : Goal) (t : Option ℤ) (w : Wanted) (c : CommandState) (d : Core) →
    ((k : ℕ) → owner_count k w.owner ≡ 1 → waits_first k c.waiting ≡ 1) → AllTell Nothing d.notes →
    Tells c (core_taken_in g t w d)
unfolding axis_under_by
taken_tells (FromBefore base) None w c d first h =
    let target = d.axis.setpoint +ℤ position_of w in
    by_if (Tells c) (is_outside d.axis.limits.lo target d.axis.limits.hi)
    (core_after_error 106 (record d { axis = record d.axis { active = Some w } }))
    (record d { axis = axis_under (with_target (Some target) w) d.axis })
    (failed_tells 106 c (record d { axis = record d.axis { active = Some w } })
    (from_nothing (Shows c 106) d h) (λ k e. inr (first k e, refl)))
    (from_nothing (Shows c d.axis.error) d h)
taken_tells (FromBefore base) (Some t) w c d first h = from_nothing (Shows c d.axis.error) d h
taken_tells _ t w c d first h = from_nothing (Shows c d.axis.error) d h

over_tells : (ws : List Wanted) (c : CommandState) (d : Core) → c.waiting ≡ ws →
    AllTell Nothing d.notes → Tells c (core_after_take_over ws d)
over_tells [] c d e h = from_nothing (Shows c d.axis.error) d h
over_tells (w ∷ ws) c d e h =
    taken_tells (profile_of w.kind).goal w.target w c (record d { waiting = ws })
    (λ k own. ap (waits_first k) e ∙ own) h

ended_tells : (f : Finish) (d : Core) → IsPlain f → d.notes ≡ [] →
    Tells (command_state_of d) (core_after_end f d)
unfolding core_after_end
ended_tells f d p e =
    over_tells d.waiting (command_state_of d) _ refl
    (more Nothing d.notes (active_note f d.axis.active) (none_told Nothing d e)
    (active_plain Nothing d.axis.active f p))

ending_tells : (o : Option Finish) (d : Core) → d.notes ≡ [] →
    Tells (command_state_of d) (core_after_ending o d)
ending_tells None d e = none_told (Shows (command_state_of d) d.axis.error) d e
ending_tells (Some (finish.Error n)) d e =
    failed_tells n (command_state_of d) d (none_told (Shows (command_state_of d) n) d e) (λ k h. inl h)
ending_tells (Some finish.Done) d e = ended_tells finish.Done d done_plain e
ending_tells (Some finish.Aborted) d e = ended_tells finish.Aborted d aborts_plain e

-- the step of a cycle
pub stop_error : (look : AxisLook) (a : Axis) → (axis_after_stop look a).error ≡ a.error
stop_error look a = by_if (λ (x : Axis). x.error ≡ a.error) (leaves_stopping look a) _ a refl refl

stop_reset : (look : AxisLook) (a : Axis) → (axis_after_stop look a).reset ≡ a.reset
stop_reset look a = by_if (λ (x : Axis). x.reset ≡ a.reset) (leaves_stopping look a) _ a refl refl

going_tells : (look : AxisLook) (d : Core) → d.notes ≡ [] →
    Tells (command_state_of d) (core_after_going_on look d)
going_tells look d e =
    let step = advance_in_cycle (slice_get d.waiting 0) look d.axis in
    let x = core_after_advance look d in
    let told : Tells (command_state_of d) x =
    subst (λ c. Tells c x) (advance_stays (slice_get d.waiting 0) look d)
    (ending_tells step.ending (record d { axis = step.axis }) e) in
    subst (λ n. AllTell (Shows (command_state_of d) n) x.notes) (sym (stop_error look x.axis)) told

step_tells : (look : AxisLook) (driven : Bool) (d : Core) → d.notes ≡ [] →
    Tells (command_state_of d) (core_after_step look driven d)
step_tells look driven d e =
    by_if (Tells (command_state_of d)) (driven && d.axis.driven) _ _ (going_tells look d e)
    (none_told (Shows (command_state_of d) d.axis.error) d e)

-- a step of an axis in ErrorStop gives nothing, and leaves the error
pub record IsStill (d x : Core) : Type 0 where
  pub notes : x.notes ≡ d.notes
  pub error : x.axis.error ≡ d.axis.error
  pub reset : x.axis.reset ≡ d.axis.reset
  pub state : is_error_stop x.axis.state ≡ true

driven_stopped : (driven : Bool) (s : AxisState) → is_error_stop s ≡ true →
    is_error_stop (state_when_driven driven s) ≡ true
driven_stopped true state.ErrorStop h = refl
driven_stopped false state.ErrorStop h = refl
driven_stopped driven _ h = absurd (cc)

no_stop : (s : AxisState) → is_error_stop s ≡ true → is_stopping s ≡ false
no_stop state.ErrorStop h = refl
no_stop _ h = absurd (cc)

pub braked : (next : Option Wanted) (look : AxisLook) (a : Axis) → is_error_stop a.state ≡ true →
    advance_in_cycle next look a ≡ record { axis = axis_after_braking a; ending = None }
unfolding advance_in_cycle
braked next look a h =
    ap (λ b. let x : Advance = if b
    then record { axis = axis_after_braking a; ending = None }
    else advance_without_error (place_on_path a look) next look a in x) h

stop_same : (look : AxisLook) (a : Axis) → is_error_stop a.state ≡ true → axis_after_stop look a ≡ a
stop_same look a h = by (is_stopping a.state) _ _ _ (no_stop a.state h)
  where
    by : (b idle rests free : Bool) → b ≡ false → (if b && idle && rests && free
        then record a { state = next_of StopReleased; hold = None } else a) ≡ a
    by true idle rests free e = absurd (cc)
    by false idle rests free e = refl

pub step_still : (look : AxisLook) (driven : Bool) (d : Core) → is_error_stop d.axis.state ≡ true →
    IsStill d (core_after_step look driven d)
step_still look driven d h =
    let brakes : core_after_advance look d ≡ record d { axis = axis_after_braking d.axis } =
    ap (λ (y : Advance). core_after_ending y.ending (record d { axis = y.axis }))
    (braked (slice_get d.waiting 0) look d.axis h) in
    let P : Core → Type 0 = λ y. IsStill d (record y { axis = axis_after_stop look y.axis }) in
    by_if (IsStill d) (driven && d.axis.driven) (core_after_going_on look d) _
    (subst P (sym brakes) (record {
      notes = refl;
      error = stop_error look (axis_after_braking d.axis);
      reset = stop_reset look (axis_after_braking d.axis);
      state = ap (λ (a : Axis). is_error_stop a.state)
          (stop_same look (axis_after_braking d.axis) h) ∙ h;
    }))
    (record {
      notes = refl;
      error = refl;
      reset = refl;
      state = driven_stopped driven d.axis.state h;
    })

-- after the answer and the step
still_tells : (c : CommandState) (d x : Core) → IsStill d x → Tells c d → Tells c x
still_tells c d x still h =
    subst (λ n. AllTell (Shows c n) x.notes) (sym still.error)
    (subst (AllTell (Shows c d.axis.error)) (sym still.notes) h)

stepped_tells : (look : AxisLook) (driven : Bool) (d : Core) → d.notes ≡ [] →
    Tells (command_state_of d) (core_after_step look driven (core_after_answer look.input d))
unfolding core_after_error
stepped_tells look driven d e =
    let n = answer_error_of d.axis look.input in
    let failed = core_after_error n d in
    by_if (λ y. Tells (command_state_of d) (core_after_step look driven y)) (nat_eq n 0) d failed
    (step_tells look driven d e)
    (still_tells (command_state_of d) failed (core_after_step look driven failed)
    (step_still look driven failed refl)
    (failed_tells n (command_state_of d) d (none_told (Shows (command_state_of d) n) d e) (λ k h. inl h)))

-- a Reset leaves the error, or ErrorStop
abbrev pub KeepsError : Axis → Axis → Type 0
KeepsError a x = (x.error ≡ a.error) ⊎ (is_error_stop x.state ≡ false)

reset_clear : (s : AxisState) (driven : Bool) → is_error_stop s ≡ true →
    is_error_stop (state_after_reset driven s) ≡ false
reset_clear state.ErrorStop true h = refl
reset_clear state.ErrorStop false h = refl
reset_clear _ driven h = absurd (cc)

pub reset_leaves : (s : AxisState) (driven : Bool) → is_error_stop (state_after_reset driven s) ≡ false
reset_leaves s driven = elim (cases_Bool (is_error_stop s)) [
  | inl h ↦ reset_clear s driven h
  | inr h ↦ ap is_error_stop (reset-same s driven h) ∙ h
]

pub reset_keeps : (o : Option PendingReset) (input : DriveIn) (a : Axis) →
    KeepsError a (reset_axis o input a)
reset_keeps None input a = inl refl
reset_keeps (Some p) input a =
    by_if (KeepsError a) (may_reset input a) (after_reset a) a (inr (reset_leaves a.state a.driven))
    (inl refl)

pub reset_plain : (P : ℕ → ℕ → Type 0) (o : Option PendingReset) (input : DriveIn) (a : Axis) →
    AllTell P (reset_notes o input a)
reset_plain P None input a = tt
reset_plain P (Some p) input a =
    by_if (AllTell P) (may_reset input a) (told_to p.owner finish.Done) []
    (plain P p.owner finish.Done done_plain) tt

-- an error that is reported in a cycle
abbrev pub IsTold : CommandState → Axis → ℕ → ℕ → Type 0
IsTold c a k x = MayFail k c x × ((a.error ≡ x) ⊎ (is_error_stop a.state ≡ false))

then_told : (c : CommandState) (a x : Axis) → KeepsError a x → (k n : ℕ) → Shows c a.error k n →
    IsTold c x k n
then_told c a x keeps k n h = (h.0, elim keeps [ inl e ↦ inl (e ∙ h.1) | inr e ↦ inr e ])

pub cycle_told : (look : AxisLook) (d : Core) → d.notes ≡ [] →
    AllTell (IsTold (command_state_of d) (core_after_cycle look d).axis) (core_after_cycle look d).notes
unfolding core_after_cycle
cycle_told look d e =
    let x = core_after_step look (is_driven d.axis look.input) (core_after_answer look.input d) in
    let now = reset_axis x.axis.reset look.input x.axis in
    let P = IsTold (command_state_of d) now in
    more P x.notes (reset_notes x.axis.reset look.input x.axis)
    (weaker (Shows (command_state_of d) x.axis.error) P x.notes
    (then_told (command_state_of d) x.axis now (reset_keeps x.axis.reset look.input x.axis))
    (stepped_tells look (is_driven d.axis look.input) d e))
    (reset_plain P x.axis.reset look.input x.axis)

-- the error stays in ErrorStop: a cycle keeps it
no_answer : (a : Axis) (input : DriveIn) → is_error_stop a.state ≡ true →
    nat_eq (answer_error_of a input) 0 ≡ true
unfolding answer_error_of
no_answer a input h = ap (λ b. nat_eq (if b then 0 else new_error_of a input) 0) h

pub cycle_keeps : (look : AxisLook) (d : Core) → is_error_stop d.axis.state ≡ true →
    KeepsError d.axis (core_after_cycle look d).axis
unfolding core_after_cycle
cycle_keeps look d h =
    let driven = is_driven d.axis look.input in
    let n = answer_error_of d.axis look.input in
    let same : core_after_answer look.input d ≡ d =
    ap (λ b. if b then d else core_after_error n d) (no_answer d.axis look.input h) in
    let still = step_still look driven d h in
    subst (λ y. let x = core_after_step look driven y in
    KeepsError d.axis (reset_axis x.axis.reset look.input x.axis)) (sym same)
    (let x = core_after_step look driven d in
    elim (reset_keeps x.axis.reset look.input x.axis) [
      | inl e ↦ inl (e ∙ still.error)
      | inr e ↦ inr e
    ])

-- an error that the drive's answer brings is the axis's, unless a Reset was pending
reset_same : (o : Option PendingReset) (input : DriveIn) (a : Axis) →
    ((reset_axis o input a).error ≡ a.error) ⊎ (o ≢ None)
reset_same None input a = inl refl
reset_same (Some p) input a = inr (λ e. cc)

pub cycle_answers : (look : AxisLook) (d : Core) →
    nat_eq (answer_error_of d.axis look.input) 0 ≡ false →
    ((core_after_cycle look d).axis.error ≡ answer_error_of d.axis look.input)
    ⊎ (d.axis.reset ≢ None)
unfolding core_after_cycle core_after_error
cycle_answers look d h =
    let driven = is_driven d.axis look.input in
    let n = answer_error_of d.axis look.input in
    let failed = core_after_error n d in
    let same : core_after_answer look.input d ≡ failed =
    ap (λ b. if b then d else core_after_error n d) h in
    let still = step_still look driven failed refl in
    subst (λ y. let x = core_after_step look driven y in
    ((reset_axis x.axis.reset look.input x.axis).error ≡ n) ⊎ (d.axis.reset ≢ None)) (sym same)
    (let x = core_after_step look driven failed in
    elim (reset_same x.axis.reset look.input x.axis) [
      | inl e ↦ inl (e ∙ still.error)
      | inr e ↦ inr (λ none. e (still.reset ∙ none))
    ])
