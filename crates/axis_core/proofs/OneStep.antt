-- A cycle's answer and its step as one: what the axis makes of them alone, and how its commands end
-- by that.
-- for: paths_are_followed
use Rattle.std.proofs.Common.{◌≡◌, ◌∙◌, refl, sym, ap, subst}
use Rattle.std.specs.Prelude.{◌≤◌, Bool, true, false, None, Option, Some, IfSome, List, unsigned_abs, nat_eq, ◌&&◌, slice_get}
use Rattle.axis_state.specs.Diagram.{IsFrom}
use Rattle.plc_types.specs.declared.count.TheConstants.{MOST_REPORTED}
use Rattle.axis_state.specs.declared.diagram.AxisEvent.TheVariants as event
use Rattle.plc_types.specs.declared.axis_state.AxisState.{AxisState}
use Rattle.plc_types.specs.declared.axis_state.AxisState.TheVariants as state
use Rattle.command_pool.specs.declared.ending.Finish.{Finish}
use Rattle.command_pool.specs.declared.wanted.Wanted.{Wanted}
use Rattle.axis_core.specs.AxisKept.{IsCoreKept}
use Rattle.axis_core.specs.Cores.{Core, MayTakeOver, core_after_ending, core_after_error}
use Rattle.axis_core.specs.Cycles.{advance_or_stand, core_after_answer, core_after_step}
use Rattle.axis_core.specs.Kept.{MayEnd}
use Rattle.axis_core.specs.Drives.{answer_error_of, axis_at_drive, is_driven}
use Rattle.axis_state.specs.States.{is_stopping}
use Rattle.axis_core.specs.blocks.Halts.{axis_after_stop}
use Rattle.axis_core.specs.blocks.Power.{state_when_driven}
use Rattle.axis_core.specs.declared.axis.Axis.{Axis}
use Rattle.axis_core.specs.declared.look.AxisLook.{AxisLook}
use Rattle.axis_core.proofs.DriveAnswers.{no_error_where_driven}
use Rattle.axis_core.proofs.KeptCycles.{IsStill, still-cycle}

-- the commands end by what the axis made of the cycle, and it may leave Stopping
abbrev pub core_after_pass : AxisLook → Bool → Core → Core
core_after_pass look driven c =
    let step = advance_or_stand driven (slice_get c.waiting 0) look c.axis in
    let after = core_after_ending step.ending (record c { axis = step.axis }) in
    record after { axis = axis_after_stop look after.axis }

-- an axis that is still is not in Stopping
not-stopping : (s : AxisState) (driven : Bool) → IsStill s → is_stopping (state_when_driven driven s) ≡ false
not-stopping state.Disabled true h = refl
not-stopping state.Disabled false h = refl
not-stopping state.ErrorStop true h = refl
not-stopping state.ErrorStop false h = refl
not-stopping _ driven h = absurd h

pub no-stop : (look : AxisLook) (a : Axis) → is_stopping a.state ≡ false → axis_after_stop look a ≡ a
no-stop look a h = rw h refl

-- an error comes only where the axis is not driven
error-off : (a : Axis) (look : AxisLook) → nat_eq (answer_error_of a look.input) 0 ≡ false → is_driven a look.input ≡ false
error-off a look loud =
    elim (is_driven a look.input) as (λ b. is_driven a look.input ≡ b → b ≡ false) [
      | true ↦ λ on. absurd (let none = no_error_where_driven a look.input on in let bad : nat_eq (answer_error_of a look.input) 0 ≡ true = rw none refl in cc)
      | false ↦ λ off. refl
    ] refl

without-error : (look : AxisLook) (c : Core) → IsCoreKept c → nat_eq (answer_error_of c.axis look.input) 0 ≡ true →
    core_after_pass look (is_driven c.axis look.input) c ≡ core_after_step look (is_driven c.axis look.input) (core_after_answer look.input c)
without-error look c k quiet =
    elim (is_driven c.axis look.input && c.axis.driven) as (λ b. (is_driven c.axis look.input && c.axis.driven) ≡ b →
    core_after_pass look (is_driven c.axis look.input) c ≡ core_after_step look (is_driven c.axis look.input) (core_after_answer look.input c)) [
      | true ↦ λ going. rw (quiet, going) refl
      | false ↦ λ off.
          let still = still-cycle look c k quiet off in
          let stays = no-stop look (axis_at_drive (is_driven c.axis look.input) look.input c.axis) (not-stopping c.axis.state (is_driven c.axis look.input) still.0) in
          rw (quiet, off) (ap (λ (a : Axis). let d : Core = record c { axis = a } in d) stays)
    ] refl

with-error : (look : AxisLook) (c : Core) → nat_eq (answer_error_of c.axis look.input) 0 ≡ false →
    core_after_pass look (is_driven c.axis look.input) c ≡ core_after_step look (is_driven c.axis look.input) (core_after_answer look.input c)
unfolding core_after_error
with-error look c loud = rw (loud, error-off c.axis look loud) refl

pub pass-as-one : (look : AxisLook) (c : Core) → IsCoreKept c →
    core_after_pass look (is_driven c.axis look.input) c ≡ core_after_step look (is_driven c.axis look.input) (core_after_answer look.input c)
pass-as-one look c k =
    elim (nat_eq (answer_error_of c.axis look.input) 0) as (λ b. nat_eq (answer_error_of c.axis look.input) 0 ≡ b →
    core_after_pass look (is_driven c.axis look.input) c ≡ core_after_step look (is_driven c.axis look.input) (core_after_answer look.input c)) [
      | true ↦ λ quiet. without-error look c k quiet
      | false ↦ λ loud. with-error look c loud
    ] refl

-- what the axis made of the cycle, how its commands ended by it, and that it left Stopping, from
-- what the parts gave
pub pass-made : (look : AxisLook) (old : Core) (d : Bool) (next : Option Wanted) (a1 a2 : Axis) (ending : Option Finish) (after : Core) →
    next ≡ slice_get old.waiting 0 → a1 ≡ (advance_or_stand d next look old.axis).axis → ending ≡ (advance_or_stand d next look old.axis).ending →
    after ≡ core_after_ending ending (record old { axis = a1 }) → a2 ≡ axis_after_stop look after.axis →
    (let made : Core = record after { axis = a2 } in made) ≡ core_after_pass look d old
pass-made look old d next a1 a2 ending after en ea ee ef es =
    let F : Option Wanted → Core = λ n.
    (let step = advance_or_stand d n look old.axis in
    let e = core_after_ending step.ending (record old { axis = step.axis }) in
    record e { axis = axis_after_stop look e.axis }) in
    let step = advance_or_stand d next look old.axis in
    let q : after ≡ core_after_ending step.ending (record old { axis = step.axis }) =
    ef ∙ (λ t. core_after_ending (ee t) (record old { axis = ea t })) in
    let stop : a2 ≡ axis_after_stop look (core_after_ending step.ending (record old { axis = step.axis })).axis =
    es ∙ ap (λ (c : Core). axis_after_stop look c.axis) q in
    (λ t. record { axis = stop t; waiting = (q t).waiting; notes = (q t).notes }) ∙ ap F en

pub ran-made : (look : AxisLook) (old : Core) (d : Bool) (next : Option Wanted) (a1 a2 : Axis) (ending : Option Finish) (after : Core) →
    IsCoreKept old → d ≡ is_driven old.axis look.input → next ≡ slice_get old.waiting 0 → a1 ≡ (advance_or_stand d next look old.axis).axis →
    ending ≡ (advance_or_stand d next look old.axis).ending → after ≡ core_after_ending ending (record old { axis = a1 }) →
    a2 ≡ axis_after_stop look after.axis →
    (let made : Core = record after { axis = a2 } in made) ≡ core_after_step look (is_driven old.axis look.input) (core_after_answer look.input old)
ran-made look old d next a1 a2 ending after kept ed en ea ee ef es =
    pass-made look old d next a1 a2 ending after en ea ee ef es ∙ ap (λ b. core_after_pass look b old) ed ∙ pass-as-one look old kept

-- a command that ends may do so, and the first one that waits take over
pub may-end : (ending : Option Finish) (a : Axis) (s : AxisState) (waiting : List Wanted) → MayTakeOver s waiting →
    IfSome ending (λ f. unsigned_abs a.setpoint ≤ MOST_REPORTED) → IfSome ending (λ f. a.state ≡ s) →
    IfSome ending (λ f. IsFrom s event.Error) → IfSome ending (λ f. MayEnd a waiting)
may-end None a s waiting queue small same from = tt
may-end (Some f) a s waiting queue small same from = record {
  state = subst (λ (t : AxisState). IsFrom t event.Error) (sym same) from;
  queue = subst (λ (t : AxisState). MayTakeOver t waiting) (sym same) queue;
  setpoint = small;
}
