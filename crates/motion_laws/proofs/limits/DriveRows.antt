-- What the row of an axis in a cycle says of its drive.
-- for: spells_begin_at_drives, targets_follow_setpoints
use Rattle.std.specs.Prelude.{◌≡◌, refl, ℕ, Bool, true, false, ◌&&◌, nat_eq, ℤ, Option, Some, None, slice_get, Result, Ok, Err}
use Rattle.std.proofs.Common.{◌∙◌, sym, ap, subst}
use Rattle.std.proofs.lemmas.Bool.{and_parts}
use Rattle.axis_state.specs.Diagram.{next_of}
use Rattle.axis_state.specs.declared.diagram.AxisEvent.TheVariants as event
use Rattle.command_pool.specs.declared.wanted.Wanted.{Wanted}
use Rattle.plc_types.specs.Counts as counts
use Rattle.plc_types.specs.declared.axis.AxisRow.{AxisRow}
use Rattle.plc_types.specs.declared.kind.BlockKind.{BlockKind}
use Rattle.axis_core.specs.Along.{KeepsDefinition}
use Rattle.axis_core.specs.Cores.{Core, core_after_error}
use Rattle.axis_core.specs.Cycles.{Advance, advance_by_command, advance_by_progress, advance_in_cycle, advance_without_error, axis_after_braking, core_after_advance, core_after_answer, core_after_cycle, core_after_going_on, core_after_step, progress_in_cycle, row_shown}
use Rattle.axis_core.specs.Drives.{answer_error_of, axis_at_drive, is_driven}
use Rattle.axis_core.specs.Steps.{axis_after_step}
use Rattle.axis_core.specs.blocks.Halts.{axis_after_stop, leaves_stopping}
use Rattle.axis_core.specs.blocks.Moves.{target_of}
use Rattle.axis_core.specs.blocks.Path.{axis_after_path, place_on_path}
use Rattle.axis_core.specs.declared.axis.Axis.{Axis}
use Rattle.axis_core.specs.declared.look.AxisLook.{AxisLook}
use Rattle.axis_core.specs.declared.progress.Progress.{Progress}
use Rattle.axis_state.specs.States.{is_error_stop}
use Rattle.axis_core.proofs.AxisWalk.{by-if, by-test}
use Rattle.axis_core.proofs.KeptRows.{Place, place-ended_by, place_of, reset-place}

-- ---- a driven spell that goes on stays driven

progressed_driven : (k : BlockKind) (target : ℤ) (a : Axis) (r : Result Progress ℕ) → (advance_by_progress k target a r).axis.driven ≡ a.driven
progressed_driven k target a (Ok p) = refl
progressed_driven k target a (Err n) = refl

commanded_driven : (o next : Option Wanted) (look : AxisLook) (a : Axis) → (advance_by_command o next look a).axis.driven ≡ a.driven
commanded_driven None next look a = refl
commanded_driven (Some w) next look a = progressed_driven w.kind (target_of w) a (progress_in_cycle a w next look)

path_driven : (ends : Bool) (a : Axis) → (axis_after_path ends a).driven ≡ a.driven
path_driven true a = refl
path_driven false a = refl

free_driven : (o : Option ℤ) (next : Option Wanted) (look : AxisLook) (a : Axis) → (advance_without_error o next look a).axis.driven ≡ a.driven
free_driven (Some place) next look a = path_driven look.path_ends (axis_after_step place a)
free_driven None next look a = commanded_driven a.active next look a

advanced_driven : (next : Option Wanted) (look : AxisLook) (a : Axis) → (advance_in_cycle next look a).axis.driven ≡ a.driven
unfolding advance_in_cycle
advanced_driven next look a =
    by-test (λ (s : Advance). s.axis.driven ≡ a.driven) (is_error_stop a.state)
    (record { axis = axis_after_braking a; ending = None }) (advance_without_error (place_on_path a look) next look a)
    (λ h. refl) (λ h. free_driven (place_on_path a look) next look a)

stopped_driven : (look : AxisLook) (a : Axis) → (axis_after_stop look a).driven ≡ a.driven
stopped_driven look a =
    by-if (λ (b : Axis). b.driven ≡ a.driven) (leaves_stopping look a) (record a { state = next_of event.StopReleased; hold = None }) a refl refl

gone_on_driven : (look : AxisLook) (c : Core) → (core_after_going_on look c).axis.driven ≡ c.axis.driven
gone_on_driven look c =
    let step = advance_in_cycle (slice_get c.waiting 0) look c.axis in
    stopped_driven look (core_after_advance look c).axis
    ∙ ap (λ (p : Place). p.driven) (place-ended_by step.ending (record c { axis = step.axis }))
    ∙ advanced_driven (slice_get c.waiting 0) look c.axis

-- ---- so an axis is driven after a cycle where it is in it

stepped_driven : (look : AxisLook) (driven : Bool) (c : Core) → (core_after_step look driven c).axis.driven ≡ driven
stepped_driven look driven c =
    by-test (λ (x : Core). x.axis.driven ≡ driven) (driven && c.axis.driven) (core_after_going_on look c)
    (record c { axis = axis_at_drive driven look.input c.axis })
    (λ h. let both = and_parts driven c.axis.driven h in gone_on_driven look c ∙ both.1 ∙ sym both.0) (λ h. refl)

-- ---- and else stands where its drive does

failed_stood : (n : ℕ) (look : AxisLook) (driven : Bool) (c : Core) → (driven && c.axis.driven) ≡ false →
    place_of (core_after_step look driven (core_after_error n c)).axis ≡ place_of (axis_at_drive driven look.input c.axis)
unfolding core_after_error
failed_stood n look driven c off = rw off refl

answered_stood : (look : AxisLook) (driven : Bool) (c : Core) → (driven && c.axis.driven) ≡ false →
    place_of (core_after_step look driven (core_after_answer look.input c)).axis ≡ place_of (axis_at_drive driven look.input c.axis)
answered_stood look driven c off =
    by-test (λ (x : Core). place_of (core_after_step look driven x).axis ≡ place_of (axis_at_drive driven look.input c.axis))
    (nat_eq (answer_error_of c.axis look.input) 0) c (core_after_error (answer_error_of c.axis look.input) c)
    (λ h. rw off refl) (λ h. failed_stood (answer_error_of c.axis look.input) look driven c off)

-- ---- a cycle and its row

-- the axis after its step in a cycle
abbrev axis_stepped : AxisLook → Core → Axis
axis_stepped look c = (core_after_step look (is_driven c.axis look.input) (core_after_answer look.input c)).axis

-- a Reset and a controlword move no axis
cycled_place : (look : AxisLook) (c : Core) → place_of (core_after_cycle look c).axis ≡ place_of (axis_stepped look c)
unfolding core_after_cycle
cycled_place look c = reset-place (axis_stepped look c).reset look.input (axis_stepped look c)

cycled_driven : (look : AxisLook) (c : Core) → (core_after_cycle look c).axis.driven ≡ is_driven c.axis look.input
cycled_driven look c =
    ap (λ (p : Place). p.driven) (cycled_place look c) ∙ stepped_driven look (is_driven c.axis look.input) (core_after_answer look.input c)

-- what a row says of the drive of an axis, which was so before its cycle
pub record ShowsDrive (a : Axis) (r : AxisRow) : Type 0 where
  pub target : r.output.target ≡ counts.count_of r.setpoint r.offset a.inc
  pub driven : r.driven ≡ is_driven a r.input
  pub stands : (a.driven && r.driven) ≡ false → r.setpoint ≡ counts.place_of a.limits.lo r.input.actual r.offset a.inc

-- the other way round
and_turned : (a b : Bool) → (a && b) ≡ false → (b && a) ≡ false
and_turned true true h = h
and_turned true false h = refl
and_turned false true h = refl
and_turned false false h = refl

cycled_stands : (look : AxisLook) (c : Core) → (is_driven c.axis look.input && c.axis.driven) ≡ false →
    place_of (core_after_cycle look c).axis ≡ place_of (axis_at_drive (is_driven c.axis look.input) look.input c.axis)
cycled_stands look c off = cycled_place look c ∙ answered_stood look (is_driven c.axis look.input) c off

-- each row of a cycle says this
pub row_of_drive : ((look : AxisLook) (c : Core) → KeepsDefinition c.axis (core_after_cycle look c).axis) → (look : AxisLook) (c : Core) →
    ShowsDrive c.axis (row_shown look.input (core_after_cycle look c).axis)
unfolding row_shown
row_of_drive law look c =
    let a = (core_after_cycle look c).axis in
    record {
      target = ap (counts.count_of a.setpoint a.offset) (law look c).inc;
      driven = cycled_driven look c;
      stands = λ off.
          let still : (is_driven c.axis look.input && c.axis.driven) ≡ false =
          and_turned c.axis.driven (is_driven c.axis look.input) (subst (λ b. (c.axis.driven && b) ≡ false) (cycled_driven look c) off) in
          let there = cycled_stands look c still in
          ap (λ (p : Place). p.setpoint) there
          ∙ sym (ap (λ z. counts.place_of c.axis.limits.lo look.input.actual z c.axis.inc) (ap (λ (p : Place). p.offset) there));
    }
