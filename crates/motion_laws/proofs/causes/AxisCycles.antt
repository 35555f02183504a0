-- An error that an axis has or reports after a cycle has a cause.
-- for: errors_have_causes, commands_end_by_their_kinds
use Rattle.std.specs.Prelude.{◌≡◌, ◌≢◌, ◌⊎◌, refl, ℕ, ℤ, ◌+ℤ◌, Bool, true, false, ◌&&◌, nat_eq, if◌then◌else◌, Option, Some, None, is_some, Result, Ok, Err, List, [], ◌∷◌, ◌++◌, slice_get}
use Rattle.std.proofs.Common.{ap, subst, sym, inl, inr, ◌∙◌}
use Rattle.std.proofs.lemmas.Bool.{and_parts}
use Rattle.axis_core.specs.blocks.Moves.{is_relative_in}
use Rattle.motion_laws.specs.Orders.{is_relative}
use Rattle.axis_core.specs.declared.profile.Goal.{Goal}
use Rattle.axis_core.specs.declared.profile.Goal.TheVariants.{FromBefore}
use Rattle.axis_core.proofs.AxisWalk.{by-test, core_ended}
use Rattle.axis_core.proofs.RowFacts.{entry-event, is_entry}
use Rattle.axis_core.specs.Cores.{Core, axis_under, axis_under_by, core_after_end, core_after_ending, core_after_error, core_after_take_over, core_taken_in, next_by, state_after_last}
use Rattle.axis_core.specs.Cycles.{Advance, advance_by_command, advance_by_progress, advance_in_cycle, advance_without_error, axis_after_braking, core_after_advance, core_after_answer, core_after_cycle, core_after_going_on, core_after_step, progress_by_step, progress_in_cycle}
use Rattle.axis_core.specs.Drives.{answer_error_of, axis_at_drive, is_driven}
use Rattle.axis_core.specs.Fates.{cycle_fate, ending_fate, is_blended, moved_fate}
use Rattle.axis_core.specs.Kinds.{end_by, event_of, wish_by}
use Rattle.axis_core.specs.Profiles.{profile_of}
use Rattle.axis_core.specs.Steps.{axis_after_step, step_for_wish}
use Rattle.axis_core.specs.blocks.Halts.{leaves_stopping}
use Rattle.axis_core.specs.blocks.Moves.{position_of, target_of, with_target}
use Rattle.axis_core.specs.blocks.Path.{axis_after_path, place_on_path}
use Rattle.axis_core.specs.blocks.Power.{state_when_driven}
use Rattle.axis_core.specs.blocks.Reset.{after_reset, may_reset, reset_axis, reset_notes}
use Rattle.axis_core.specs.declared.axis.Axis.{Axis}
use Rattle.axis_core.specs.declared.look.AxisLook.{AxisLook}
use Rattle.axis_core.specs.declared.profile.Closes.{Closes}
use Rattle.axis_core.specs.declared.profile.Closes.TheVariants.{Never, AtOnce, WhenDone, ForNext}
use Rattle.axis_state.specs.States.{is_error_stop}
use Rattle.axis_state.specs.declared.diagram.AxisEvent.{AxisEvent}
use Rattle.axis_state.specs.declared.diagram.AxisEvent.TheVariants as event
use Rattle.plc_types.specs.declared.axis_state.AxisState.{AxisState}
use Rattle.plc_types.specs.declared.axis_state.AxisState.TheVariants as state
use Rattle.buffer_modes.specs.Fates.{goes_on, replaced}
use Rattle.buffer_modes.specs.Queue.{active_note, end_notes}
use Rattle.buffer_modes.specs.declared.reset.PendingReset.{PendingReset}
use Rattle.plc_types.specs.declared.drive.DriveIn.{DriveIn}
use Rattle.command_pool.specs.declared.ending.Finish.{Finish}
use Rattle.command_pool.specs.declared.ending.Finish.TheVariants as finish
use Rattle.plc_types.specs.declared.kind.BlockKind.{BlockKind}
use Rattle.command_pool.specs.declared.notes.Note.{Note}
use Rattle.command_pool.specs.declared.wanted.Wanted.{Wanted}
use Rattle.plc_types.specs.declared.limits.Limits.{Limits}
use Rattle.motion_kernel.proofs.Sizes.{by_if}
use Rattle.motion_numbers.specs.Ranges.{is_outside}
use Rattle.motion_laws.proofs.causes.Answers.{answer_brings, inside}
use Rattle.motion_laws.proofs.causes.Wishes.{TakesSafe, error_of, wish_caused}
use Rattle.motion_laws.proofs.entries.numbers.Axes.{reset_leaves, reset_plain, step_still}
use Rattle.motion_laws.proofs.entries.numbers.Notes.{AllTell, IsPlain, aborts_plain, active_plain, all_told, done_plain, more, untold}
use Rattle.motion_laws.specs.causes.Axis.{AnswerBrings, CycleBrings, answer, relative}

never : (b : Bool) → b ≡ true → b ≡ false → ⊥
never b h k = cc

-- how the active command ends never by an error
abbrev NoError : Option Finish → Type 0
NoError o = (error : ℕ) → o ≢ Some (finish.Error error)

ends_plainly : (x : Closes) (next : Option Wanted) (holds : Bool) → NoError (end_by x next holds)
ends_plainly Never next holds error e = cc
ends_plainly AtOnce next holds error e = cc
ends_plainly WhenDone next holds error e =
    by_if (λ (o : Option Finish). o ≢ Some (finish.Error error)) holds (Some finish.Done) None
    (λ f. cc) (λ f. cc) e
ends_plainly ForNext next holds error e =
    by_if (λ (o : Option Finish). o ≢ Some (finish.Error error)) (is_some next && holds)
    (Some finish.Aborted) None (λ f. cc) (λ f. cc) e

same_number : (x y : ℕ) → Some (finish.Error x) ≡ Some (finish.Error y) → x ≡ y
same_number x y e = cc

-- the state of the command that takes over, and that in which the axis settles
begun_by : (o : Option AxisEvent) (s : AxisState) → is_entry o ≡ true → is_error_stop s ≡ false →
    is_error_stop (next_by o s) ≡ false
begun_by None s i h = h
begun_by (Some event.HomeAdmitted) s i h = refl
begun_by _ s i h = cc

begun : (k : BlockKind) (s : AxisState) → is_error_stop s ≡ false →
    is_error_stop (next_by (event_of k) s) ≡ false
begun k s h = begun_by (event_of k) s (entry-event k) h

last : (s : AxisState) → is_error_stop s ≡ false → is_error_stop (state_after_last s) ≡ false
last state.DiscreteMotion h = refl
last state.Homing h = refl
last _ h = h

driven_clear : (driven : Bool) (s : AxisState) → is_error_stop s ≡ false →
    is_error_stop (state_when_driven driven s) ≡ false
driven_clear true state.Disabled h = refl
driven_clear true _ h = h
driven_clear false s h = h

-- the fate says how the active command ends
pub fate_ends : (blends : Bool) (o : Option Finish) (ws : List Wanted) (a : Axis) →
    (ending_fate blends o ws a).ends ≡ o
fate_ends blends None ws a = refl
fate_ends blends (Some finish.Done) ws a = refl
fate_ends blends (Some finish.Aborted) ws a = refl
fate_ends blends (Some (finish.Error n)) ws a = refl

-- each error of some notes has its cause, where the axis stands at this place
abbrev pub AllCaused : AxisLook → Core → ℤ → List Note → Type 0
AllCaused look c place ns = AllTell (λ k n. CycleBrings look c place n) ns

-- each error has its cause where the axis stands: its own in ErrorStop, and those it reports
pub record IsCaused (look : AxisLook) (c d : Core) : Type 0 where
  pub axis : is_error_stop d.axis.state ≡ true → CycleBrings look c d.axis.setpoint d.axis.error
  pub notes : AllCaused look c d.axis.setpoint d.notes

module _ (look : AxisLook) (c : Core) where
  abbrev Causes : ℤ → ℕ → ℕ → Type 0
  Causes place k n = CycleBrings look c place n

  -- the step of a driven axis that no error stops
  record IsStep (x : Advance) : Type 0 where
    state : is_error_stop x.axis.state ≡ false
    limits : x.axis.limits ≡ c.axis.limits
    fails : (place : ℤ) (error : ℕ) → x.ending ≡ Some (finish.Error error) →
        CycleBrings look c place error

  made : (w : Wanted) (next : Option Wanted) → TakesSafe c.axis →
      is_error_stop c.axis.state ≡ false → c.axis.active ≡ Some w →
      IsStep
      (advance_by_progress w.kind (target_of w) c.axis (progress_in_cycle c.axis w next look))
  made w next exact h active = by (wish_by w.kind c.axis w next look) refl
    where
      by : (wish : Result ℤ ℕ) → wish_by w.kind c.axis w next look ≡ wish →
          IsStep (advance_by_progress w.kind (target_of w) c.axis
          (progress_by_step c.axis w next look (step_for_wish c.axis wish)))
      by (Ok step) is = record {
        state = h;
        limits = refl;
        fails = λ place error e. absurd (ends_plainly (profile_of w.kind).closes next _ error e);
      }
      by (Err n) is = record {
        state = h;
        limits = refl;
        fails = λ place error e.
            wish_caused (profile_of w.kind).manner look c w next place error exact active refl
            (is ∙ ap error_of (same_number n error e));
      }

  by_command : (o next : Option Wanted) → TakesSafe c.axis → is_error_stop c.axis.state ≡ false →
      c.axis.active ≡ o → IsStep (advance_by_command o next look c.axis)
  by_command None next exact h active =
      record { state = h; limits = refl; fails = λ place error e. absurd (cc) }
  by_command (Some w) next exact h active = made w next exact h active

  led : (ends : Bool) (a : Axis) → is_error_stop a.state ≡ false → a.limits ≡ c.axis.limits →
      IsStep (record { axis = axis_after_path ends a; ending = None })
  led true a h same = record { state = refl; limits = same; fails = λ place error e. absurd (cc) }
  led false a h same = record { state = h; limits = same; fails = λ place error e. absurd (cc) }

  without_error : (o : Option ℤ) (next : Option Wanted) → TakesSafe c.axis →
      is_error_stop c.axis.state ≡ false → IsStep (advance_without_error o next look c.axis)
  without_error (Some place) next exact h =
      led look.path_ends (axis_after_step place c.axis) h refl
  without_error None next exact h = by_command c.axis.active next exact h refl

  steps : (next : Option Wanted) → TakesSafe c.axis → is_error_stop c.axis.state ≡ false →
      IsStep (advance_in_cycle next look c.axis)
  unfolding advance_in_cycle
  steps next exact h =
      subst (λ b. IsStep (if b
      then record { axis = axis_after_braking c.axis; ending = None }
      else advance_without_error (place_on_path c.axis look) next look c.axis)) (sym h)
      (without_error (place_on_path c.axis look) next exact h)

  -- all commands end by an error
  failed_notes : (place : ℤ) (n : ℕ) (d : Core) → CycleBrings look c place n →
      AllCaused look c place d.notes → AllCaused look c place (core_after_error n d).notes
  unfolding core_after_error
  failed_notes place n d cause h =
      more (Causes place) d.notes
      (end_notes (finish.Error n) (record { active = d.axis.active; waiting = d.waiting })) h
      (all_told (Causes place) n (record { active = d.axis.active; waiting = d.waiting })
      (λ k e. cause))

  failed : (n : ℕ) (d : Core) → CycleBrings look c d.axis.setpoint n →
      AllCaused look c d.axis.setpoint d.notes → IsCaused look c (core_after_error n d)
  unfolding core_after_error
  failed n d cause h =
      record { axis = λ now. cause; notes = failed_notes d.axis.setpoint n d cause h }

  -- the command that takes over begins
  begins : (w : Wanted) (d : Core) → is_error_stop d.axis.state ≡ false →
      AllCaused look c d.axis.setpoint d.notes →
      IsCaused look c (record d { axis = axis_under w d.axis })
  unfolding axis_under_by
  begins w d h notes = record {
    axis = λ now. absurd (never _ now (begun w.kind d.axis.state h));
    notes = notes;
  }

  -- how the active command ends in a cycle
  abbrev EndsPlainly : Type 0
  EndsPlainly =
      ((cycle_fate look c).ends ≡ Some finish.Done)
      ⊎ ((cycle_fate look c).ends ≡ Some finish.Aborted)

  -- or fails, where it is relative and its target lies outside
  relative_cause : (w : Wanted) (d : Core) → is_relative w.kind ≡ true → w.target ≡ None →
      slice_get c.waiting 0 ≡ Some w → d.axis.limits ≡ c.axis.limits → EndsPlainly →
      is_outside d.axis.limits.lo (d.axis.setpoint +ℤ position_of w) d.axis.limits.hi ≡ true →
      CycleBrings look c d.axis.setpoint 106
  relative_cause w d is unset first same ends out = relative refl (record {
    ends = ends;
    next = w;
    waits = first;
    of_kind = is;
    unset = unset;
    outside = λ b.
        let P : Limits → Type 0 =
        λ l. is_outside l.lo (d.axis.setpoint +ℤ position_of w) l.hi ≡ true in
        let here : P c.axis.limits = subst P same out in
        let near = inside c.axis.limits.lo (d.axis.setpoint +ℤ position_of w) c.axis.limits.hi b in
        cc;
  })

  taken : (g : Goal) (t : Option ℤ) (w : Wanted) (d : Core) → (profile_of w.kind).goal ≡ g →
      w.target ≡ t →
      slice_get c.waiting 0 ≡ Some w → d.axis.limits ≡ c.axis.limits →
      is_error_stop d.axis.state ≡ false → EndsPlainly →
      AllCaused look c d.axis.setpoint d.notes → IsCaused look c (core_taken_in g t w d)
  taken (FromBefore base) None w d is unset first same h ends notes =
      by-test (IsCaused look c)
      (is_outside d.axis.limits.lo (d.axis.setpoint +ℤ position_of w) d.axis.limits.hi)
      (core_after_error 106 (record d { axis = record d.axis { active = Some w } }))
      (record d { axis = axis_under (with_target (Some (d.axis.setpoint +ℤ position_of w)) w) d.axis })
      (λ out. failed 106 (record d { axis = record d.axis { active = Some w } })
      (relative_cause w d (ap is_relative_in is) unset first same ends out) notes)
      (λ out. begins (with_target (Some (d.axis.setpoint +ℤ position_of w)) w) d h notes)
  taken (FromBefore base) (Some t) w d is unset first same h ends notes = begins w d h notes
  taken _ t w d is unset first same h ends notes = begins w d h notes

  over : (ws : List Wanted) (d : Core) → c.waiting ≡ ws → d.axis.limits ≡ c.axis.limits →
      is_error_stop d.axis.state ≡ false → EndsPlainly →
      AllCaused look c d.axis.setpoint d.notes → IsCaused look c (core_after_take_over ws d)
  over [] d first same h ends notes =
      record { axis = λ now. absurd (never _ now (last d.axis.state h)); notes = notes }
  over (w ∷ ws) d first same h ends notes =
      taken (profile_of w.kind).goal w.target w (record d { waiting = ws }) refl refl
      (ap (λ us. slice_get us 0) first) same h ends notes

  -- the end of the active command
  told : (f : Finish) (d : Core) → IsPlain f → AllCaused look c d.axis.setpoint d.notes →
      AllCaused look c d.axis.setpoint (d.notes ++ active_note f d.axis.active)
  told f d plain h =
      more (Causes d.axis.setpoint) d.notes (active_note f d.axis.active) h
      (active_plain (Causes d.axis.setpoint) d.axis.active f plain)

  ended : (o : Option Finish) (d : Core) → d.waiting ≡ c.waiting →
      d.axis.limits ≡ c.axis.limits → is_error_stop d.axis.state ≡ false →
      (cycle_fate look c).ends ≡ o →
      ((place : ℤ) (error : ℕ) → o ≡ Some (finish.Error error) → CycleBrings look c place error) →
      AllCaused look c d.axis.setpoint d.notes → IsCaused look c (core_after_ending o d)
  unfolding core_after_end
  ended None d queue same h fate fails notes =
      record { axis = λ now. absurd (never _ now h); notes = notes }
  ended (Some finish.Done) d queue same h fate fails notes =
      over d.waiting (core_ended finish.Done d.waiting d) (sym queue) same h (inl fate)
      (told finish.Done d done_plain notes)
  ended (Some finish.Aborted) d queue same h fate fails notes =
      over d.waiting (core_ended finish.Aborted d.waiting d) (sym queue) same h (inr fate)
      (told finish.Aborted d aborts_plain notes)
  ended (Some (finish.Error n)) d queue same h fate fails notes =
      failed n d (fails d.axis.setpoint n refl) notes

  fate_of_step : nat_eq (answer_error_of c.axis look.input) 0 ≡ true →
      is_driven c.axis look.input && c.axis.driven ≡ true →
      (cycle_fate look c).ends ≡ (advance_in_cycle (slice_get c.waiting 0) look c.axis).ending
  unfolding cycle_fate
  fate_of_step none goes =
      ap (λ b. (if b then (if is_driven c.axis look.input && c.axis.driven then moved_fate look c
      else goes_on) else replaced (finish.Error (answer_error_of c.axis look.input)) c.axis.active None).ends) none
      ∙ ap (λ b. (if b then moved_fate look c else goes_on).ends) goes
      ∙ fate_ends (is_blended c.axis.active c) _ c.waiting _

  -- a driven spell goes on
  going : c.notes ≡ [] → TakesSafe c.axis → is_error_stop c.axis.state ≡ false →
      nat_eq (answer_error_of c.axis look.input) 0 ≡ true →
      is_driven c.axis look.input && c.axis.driven ≡ true →
      IsCaused look c (core_after_going_on look c)
  going empty exact h none goes =
      let x = advance_in_cycle (slice_get c.waiting 0) look c.axis in
      let step = steps (slice_get c.waiting 0) exact h in
      let d = core_after_advance look c in
      let moved = ended x.ending (record c { axis = x.axis }) refl step.limits step.state
      (fate_of_step none goes) step.fails (untold (Causes x.axis.setpoint) c.notes empty) in
      by_if (λ (a : Axis). IsCaused look c (record d { axis = a })) (leaves_stopping look d.axis) _
      d.axis (record { axis = λ now. absurd (cc); notes = moved.notes }) moved

  -- or the axis stands where its drive does
  stepped : c.notes ≡ [] → (is_driven c.axis look.input && c.axis.driven ≡ true → TakesSafe c.axis) →
      is_error_stop c.axis.state ≡ false → nat_eq (answer_error_of c.axis look.input) 0 ≡ true →
      IsCaused look c (core_after_step look (is_driven c.axis look.input) c)
  stepped empty exact h none =
      let driven = is_driven c.axis look.input in
      by-test (IsCaused look c) (driven && c.axis.driven) (core_after_going_on look c)
      (record c { axis = axis_at_drive driven look.input c.axis })
      (λ goes. going empty (exact goes) h none goes)
      (λ goes. record {
        axis = λ now. absurd (never _ now (driven_clear driven c.axis.state h));
        notes = untold (Causes (axis_at_drive driven look.input c.axis).setpoint) c.notes empty;
      })

  -- after an error of the answer
  answer_caused : c.notes ≡ [] → nat_eq (answer_error_of c.axis look.input) 0 ≡ false →
      IsCaused look c (core_after_step look (is_driven c.axis look.input)
      (core_after_error (answer_error_of c.axis look.input) c))
  unfolding core_after_error
  answer_caused empty some =
      let n = answer_error_of c.axis look.input in
      let after = core_after_step look (is_driven c.axis look.input) (core_after_error n c) in
      let still = step_still look (is_driven c.axis look.input) (core_after_error n c) refl in
      let cause = answer_brings c.axis look.input some in
      record {
        axis = λ now.
            answer (subst (AnswerBrings c.axis look.input) (sym still.error) cause);
        notes = subst (AllCaused look c after.axis.setpoint) (sym still.notes)
            (failed_notes after.axis.setpoint n c (answer cause)
            (untold (Causes after.axis.setpoint) c.notes empty));
      }

  answered : c.notes ≡ [] →
      (is_driven c.axis look.input && c.axis.driven ≡ true → TakesSafe c.axis) →
      is_error_stop c.axis.state ≡ false →
      IsCaused look c
      (core_after_step look (is_driven c.axis look.input) (core_after_answer look.input c))
  answered empty exact h =
      by-test (λ (d : Core). IsCaused look c (core_after_step look (is_driven c.axis look.input) d))
      (nat_eq (answer_error_of c.axis look.input) 0) c
      (core_after_error (answer_error_of c.axis look.input) c)
      (λ none. stepped empty exact h none) (λ some. answer_caused empty some)

  -- a Reset leaves the error and the place, or ErrorStop
  reset_caused : (o : Option PendingReset) (input : DriveIn) (d : Core) → IsCaused look c d →
      IsCaused look c (record d { axis = reset_axis o input d.axis })
  reset_caused None input d h = h
  reset_caused (Some p) input d h =
      by_if (λ (a : Axis). IsCaused look c (record d { axis = a })) (may_reset input d.axis)
      (after_reset d.axis) d.axis (record {
        axis = λ now. absurd (never _ now (reset_leaves d.axis.state d.axis.driven));
        notes = h.notes;
      }) h

  -- a cycle
  pub cycle_caused : c.notes ≡ [] → (c.axis.driven ≡ true → TakesSafe c.axis) →
      is_error_stop c.axis.state ≡ false → IsCaused look c (core_after_cycle look c)
  unfolding core_after_cycle
  cycle_caused empty exact h =
      let x = core_after_step look (is_driven c.axis look.input) (core_after_answer look.input c) in
      let now = reset_axis x.axis.reset look.input x.axis in
      let done = reset_caused x.axis.reset look.input x (answered empty
      (λ goes. exact (and_parts (is_driven c.axis look.input) c.axis.driven goes).1) h) in
      record {
        axis = done.axis;
        notes = more (Causes now.setpoint) x.notes (reset_notes x.axis.reset look.input x.axis)
            done.notes (reset_plain (Causes now.setpoint) x.axis.reset look.input x.axis);
      }
