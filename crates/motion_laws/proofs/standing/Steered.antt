-- How the drive of an axis is led, after every call and every cycle.
-- for: machines_can_stand
use Rattle.std.specs.Prelude.{◌≡◌, ◌⊎◌, refl, ℕ, Bool, true, false, ◌&&◌, not, nat_eq, is_some, ℤ, Option, Some, None, Result, Ok, Err, slice_get}
use Rattle.std.proofs.Common.{ap, sym, subst, ◌∙◌, inl, inr}
use Rattle.std.proofs.lemmas.Bool.{and_parts}
use Rattle.axis_core.proofs.AxisWalk.{by-test}
use Rattle.axis_core.proofs.KeptRows.{Place, place-ended_by, place_of, reset-place}
use Rattle.axis_core.specs.AxisKept.{IsAxisKept, IsSet}
use Rattle.axis_core.specs.Cores.{Core, core_after_error}
use Rattle.axis_core.specs.Cycles.{Place as Stand, with_place, Advance, advance_by_command, advance_by_progress, advance_in_cycle, advance_without_error, axis_after_progress, axis_at_opening, core_after_advance, core_after_answer, core_after_cycle, core_after_going_on, core_after_step, progress_in_cycle}
use Rattle.axis_core.specs.Drives.{answer_error_of, axis_at_drive, is_driven}
use Rattle.axis_core.specs.Kinds.{is_homing_manner}
use Rattle.axis_core.specs.Profiles.{profile_of}
use Rattle.axis_core.specs.Ranges.{IsBetween}
use Rattle.axis_core.specs.blocks.Halts.{axis_after_stop, leaves_stopping}
use Rattle.axis_core.specs.blocks.Moves.{target_of}
use Rattle.axis_core.specs.blocks.Path.{place_on_path}
use Rattle.axis_core.specs.blocks.Power.{is_powered}
use Rattle.axis_core.specs.blocks.Reset.{reset_axis}
use Rattle.axis_core.specs.declared.axis.Axis.{Axis}
use Rattle.axis_core.specs.declared.look.AxisLook.{AxisLook}
use Rattle.axis_core.specs.declared.progress.Progress.{Progress}
use Rattle.axis_state.specs.States.{is_error_stop}
use Rattle.plc_types.specs.declared.axis.AxisDef.{AxisDef}
use Rattle.cia402_machine.specs.Controlword.{has_reset_bit, next_controlword_of}
use Rattle.cia402_machine.specs.Statusword.{state_of_word}
use Rattle.plc_types.specs.declared.drive.DriveIn.{DriveIn}
use Rattle.plc_types.specs.declared.drive.DriveState.{DriveState}
use Rattle.plc_types.specs.declared.drive.DriveState.TheVariants.{SwitchOnDisabled, ReadyToSwitchOn, SwitchedOn, OperationEnabled, Fault}
use Rattle.plc_types.specs.declared.kind.BlockKind.{BlockKind}
use Rattle.command_pool.specs.declared.wanted.Wanted.{Wanted}
use Rattle.plc_types.specs.declared.limits.Limits.{Limits}
use Rattle.motion_kernel.proofs.Sizes.{by_if}
use Rattle.motion_laws.proofs.walk.Stays.{StandsAs, Stance}
use Rattle.motion_laws.specs.Standing.{IsSteered, is_given}

-- an axis that stands as before is led as before
pub put : (a b : Axis) → StandsAs a b → IsSteered a → IsSteered b
put a b e h =
    let P : Stance → Type 0 =
    λ s. s.driven ≡ true → IsBetween s.limits.lo s.previous s.limits.hi in
    record { before = subst P (sym e) h.before; word = ap (λ (s : Stance). is_given s.word) e ∙ h.word }

-- a cycle: what moves no axis
stops : (look : AxisLook) (a : Axis) → place_of (axis_after_stop look a) ≡ place_of a
stops look a = by_if (λ (b : Axis). place_of b ≡ place_of a) (leaves_stopping look a) _ _ refl refl

answers : (input : DriveIn) (c : Core) → place_of (core_after_answer input c).axis ≡ place_of c.axis
unfolding core_after_error
answers input c =
    by_if (λ (d : Core). place_of d.axis ≡ place_of c.axis)
    (nat_eq (answer_error_of c.axis input) 0) _ _ refl refl

-- a step: the setpoint before is the one that was there, or the new one
abbrev Steps : Axis → Axis → Type 0
Steps a b = (b.previous ≡ a.setpoint) ⊎ (b.previous ≡ b.setpoint)

progresses : (x : BlockKind) (t : ℤ) (p : Progress) (a : Axis) → Steps a (axis_after_progress x t p a)
progresses x t p a =
    by_if (λ (b : Stand). Steps a (with_place b a)) (is_homing_manner (profile_of x).manner) _ _
    (inr refl) (inl refl)

by_result : (x : BlockKind) (t : ℤ) (r : Result Progress ℕ) (a : Axis) →
    Steps a (advance_by_progress x t a r).axis
by_result x t (Ok p) a = progresses x t p a
by_result x t (Err n) a = inl refl

by_active : (active next : Option Wanted) (look : AxisLook) (a : Axis) →
    Steps a (advance_by_command active next look a).axis
by_active None next look a = inl refl
by_active (Some w) next look a =
    by_result w.kind (target_of w) (progress_in_cycle a w next look) a

by_place : (o : Option ℤ) (next : Option Wanted) (look : AxisLook) (a : Axis) →
    Steps a (advance_without_error o next look a).axis
by_place None next look a = by_active a.active next look a
by_place (Some place) next look a = by_if (Steps a) look.path_ends _ _ (inl refl) (inl refl)

advances : (next : Option Wanted) (look : AxisLook) (a : Axis) →
    Steps a (advance_in_cycle next look a).axis
unfolding advance_in_cycle
advances next look a =
    by_if (λ (x : Advance). Steps a x.axis) (is_error_stop a.state) _ _ (inl refl)
    (by_place (place_on_path a look) next look a)

goes_on : (look : AxisLook) (c : Core) → Steps c.axis (core_after_going_on look c).axis
goes_on look c =
    let next = slice_get c.waiting 0 in
    let step = advance_in_cycle next look c.axis in
    let S : Place → Type 0 = λ p. (p.previous ≡ c.axis.setpoint) ⊎ (p.previous ≡ p.setpoint) in
    subst S (sym (stops look (core_after_advance look c).axis
    ∙ place-ended_by step.ending (record c { axis = step.axis }))) (advances next look c.axis)

-- so it is in a cycle, where the axis was driven before, or begins to be
abbrev Moves : Place → Place → Type 0
Moves a b = ((b.previous ≡ a.setpoint) × (a.driven ≡ true)) ⊎ (b.previous ≡ b.setpoint)

driven_steps : (a b : Axis) → a.driven ≡ true → Steps a b → Moves (place_of a) (place_of b)
driven_steps a b d (inl e) = inl (e, d)
driven_steps a b d (inr e) = inr e

steps : (look : AxisLook) (driven : Bool) (c : Core) →
    Moves (place_of c.axis) (place_of (core_after_step look driven c).axis)
steps look driven c =
    by-test (λ (d : Core). Moves (place_of c.axis) (place_of d.axis)) (driven && c.axis.driven)
    (core_after_going_on look c) (record c { axis = axis_at_drive driven look.input c.axis })
    (λ e. driven_steps c.axis (core_after_going_on look c).axis
    (and_parts driven c.axis.driven e).1 (goes_on look c)) (λ e. inr refl)

pub cycle_moves : (look : AxisLook) (c : Core) →
    Moves (place_of c.axis) (place_of (core_after_cycle look c).axis)
unfolding core_after_cycle
cycle_moves look c =
    let input = look.input in
    let answered = core_after_answer input c in
    let stepped = core_after_step look (is_driven c.axis input) answered in
    subst (λ p. Moves p (place_of (reset_axis stepped.axis.reset input stepped.axis)))
    (answers input c) (subst (Moves (place_of answered.axis))
    (sym (reset-place stepped.axis.reset input stepped.axis))
    (steps look (is_driven c.axis input) answered))

-- the controlword
given : (s : Option DriveState) (power reset : Bool) (last : ℕ) →
    is_given (next_controlword_of s power reset last) ≡ true
given (Some SwitchOnDisabled) power reset last =
    by_if (λ w. is_given w ≡ true) power 0x0006 0x0000 refl refl
given (Some ReadyToSwitchOn) power reset last =
    by_if (λ w. is_given w ≡ true) power 0x0007 0x0000 refl refl
given (Some SwitchedOn) power reset last =
    by_if (λ w. is_given w ≡ true) power 0x000f 0x0000 refl refl
given (Some OperationEnabled) power reset last =
    by_if (λ w. is_given w ≡ true) power 0x000f 0x0000 refl refl
given (Some Fault) power reset last =
    by_if (λ w. is_given w ≡ true) (reset && not (has_reset_bit last)) 0x0080 0x0000 refl refl
given (Some _) power reset last = refl
given None power reset last = refl

pub cycle_word : (look : AxisLook) (c : Core) →
    is_given (core_after_cycle look c).axis.controlword ≡ true
unfolding core_after_cycle
cycle_word look c =
    let input = look.input in
    let stepped = core_after_step look (is_driven c.axis input) (core_after_answer input c) in
    let a = reset_axis stepped.axis.reset input stepped.axis in
    given (state_of_word input.statusword) (is_powered a) (is_some a.reset) a.controlword

-- an axis that is driven stands within its limits
within : (b : Bool) (a : Axis) → b ≡ true → IsSet b a.limits a.previous a.setpoint →
    IsBetween a.limits.lo a.setpoint a.limits.hi
within true a e k = record { above = k.above; below = k.below }
within false a e k = absurd (cc)

pub within_now : (a : Axis) → IsAxisKept a → a.driven ≡ true →
    IsBetween a.limits.lo a.setpoint a.limits.hi
within_now a h d = within a.driven a d h.base.set

pub cycle_steered : (look : AxisLook) (c : Core) → let d = core_after_cycle look c in
    IsAxisKept c.axis → IsAxisKept d.axis → d.axis.limits ≡ c.axis.limits → IsSteered d.axis
cycle_steered look c kept after limits =
    let d = (core_after_cycle look c).axis in
    record {
      before = λ on. elim (cycle_moves look c) [
        | inl m ↦ subst (λ (l : Limits). IsBetween l.lo d.previous l.hi) (sym limits)
            (subst (λ z. IsBetween c.axis.limits.lo z c.axis.limits.hi) (sym m.0)
            (within_now c.axis kept m.1))
        | inr m ↦ subst (λ z. IsBetween d.limits.lo z d.limits.hi) (sym m)
            (within_now d after on)
      ];
      word = cycle_word look c;
    }

-- at opening
opened_word : (d : AxisDef) → is_given (axis_at_opening d).controlword ≡ true
unfolding axis_at_opening
opened_word d = by_if (λ w. is_given w ≡ true) d.ready _ _ refl refl

opened_stands : (d : AxisDef) → (axis_at_opening d).previous ≡ (axis_at_opening d).setpoint
unfolding axis_at_opening
opened_stands d = refl

pub opened_steered : (d : AxisDef) → IsAxisKept (axis_at_opening d) → IsSteered (axis_at_opening d)
opened_steered d kept =
    let a = axis_at_opening d in
    record {
      before = λ on. subst (λ z. IsBetween a.limits.lo z a.limits.hi) (sym (opened_stands d))
          (within_now a kept on);
      word = opened_word d;
    }
