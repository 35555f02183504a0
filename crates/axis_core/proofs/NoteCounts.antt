-- How many notes a cycle brings.
-- for: cycle
use Rattle.std.specs.Prelude.{ℕ, ◌+◌, ◌≤◌, Bool, true, false, nat_eq, ◌&&◌, ℤ, Option, Some, None, List, [], ◌∷◌, ◌++◌, length, slice_get, if◌then◌else◌}
use Rattle.std.proofs.Common.{arith, length-append}
use Rattle.buffer_modes.specs.Queue.{active_note}
use Rattle.plc_types.specs.declared.drive.DriveIn.{DriveIn}
use Rattle.command_pool.specs.Waiting.{notes_of}
use Rattle.command_pool.specs.declared.ending.Finish.{Finish}
use Rattle.command_pool.specs.declared.ending.Finish.TheVariants as finish
use Rattle.command_pool.specs.declared.wanted.Wanted.{Wanted}
use Rattle.axis_core.specs.Cores.{Core, axis_under, core_under_from, core_after_end, core_after_ending, core_after_error, core_after_take_over, core_taken_in}
use Rattle.axis_core.specs.Cycles.{advance_in_cycle, core_after_answer, core_after_going_on, core_after_advance, core_after_step}
use Rattle.axis_core.specs.Drives.{answer_error_of, axis_at_drive}
use Rattle.motion_numbers.specs.Ranges.{is_outside}
use Rattle.axis_core.specs.blocks.Moves.{with_target}
use Rattle.axis_core.specs.declared.look.AxisLook.{AxisLook}
use Rattle.buffer_modes.specs.Laws.{AreOwners}
use Rattle.axis_core.specs.declared.profile.Goal.{Goal}
use Rattle.axis_core.specs.declared.profile.Goal.TheVariants.{FromBefore}
use Rattle.axis_core.specs.Profiles.{profile_of}

-- this many notes after a core, where this many were there and this many commands waited
abbrev pub IsCounted : ℕ → Core → Core → Type 0
IsCounted more before after = length after.notes ≤ length before.notes + length before.waiting + more

module _ (owners : AreOwners) where
  open owners use {few_active as active-count, few_waiting as notes-count}

  failed-count : (n : ℕ) (c : Core) → IsCounted 1 c (core_after_error n c)
  unfolding core_after_error
  failed-count n c =
      let a = active-count (finish.Error n) c.axis.active in
      let w = notes-count finish.Aborted c.waiting in
      let l = length-append c.notes (active_note (finish.Error n) c.axis.active ++ notes_of finish.Aborted c.waiting) in
      let m = length-append (active_note (finish.Error n) c.axis.active) (notes_of finish.Aborted c.waiting) in
      omega arith

  begun_from-count : (w : Wanted) (t : ℤ) (c : Core) → IsCounted 1 c (core_under_from w t c)
  begun_from-count w t c =
      elim (is_outside c.axis.limits.lo t c.axis.limits.hi) as (λ o. IsCounted 1 c (if o then core_after_error 106 (record c { axis = record c.axis { active = Some w } }) else record c { axis = axis_under (with_target (Some t) w) c.axis }))
      [ true ↦ failed-count 106 (record c { axis = record c.axis { active = Some w } }) | false ↦ omega arith ]

  taken_over_in-count : (g : Goal) (t : Option ℤ) (w : Wanted) (c : Core) → IsCounted 1 c (core_taken_in g t w c)
  taken_over_in-count (FromBefore base) None w c = begun_from-count w _ c
  taken_over_in-count (FromBefore base) (Some t) w c = omega arith
  taken_over_in-count _ t w c = omega arith

  taken_over-count : (ws : List Wanted) (c : Core) → length (core_after_take_over ws c).notes ≤ length c.notes + length ws + 1
  taken_over-count [] c = omega arith
  taken_over-count (w ∷ ws) c = let n = taken_over_in-count (profile_of w.kind).goal w.target w (record c { waiting = ws }) in omega arith

  ended-count : (f : Finish) (c : Core) → IsCounted 2 c (core_after_end f c)
  unfolding core_after_end
  ended-count f c =
      let a = active-count f c.axis.active in
      let l = length-append c.notes (active_note f c.axis.active) in
      let n = taken_over-count c.waiting (record c { axis = record c.axis { active = None; reached = false }; notes = c.notes ++ active_note f c.axis.active }) in
      omega arith

  ended_by-count : (o : Option Finish) (c : Core) → IsCounted 2 c (core_after_ending o c)
  ended_by-count None c = omega arith
  ended_by-count (Some (finish.Error n)) c = let m = failed-count n c in omega arith
  ended_by-count (Some finish.Done) c = ended-count finish.Done c
  ended_by-count (Some finish.Aborted) c = ended-count finish.Aborted c

  moved-count : (look : AxisLook) (c : Core) → IsCounted 2 c (core_after_advance look c)
  moved-count look c =
      let step = advance_in_cycle (slice_get c.waiting 0) look c.axis in ended_by-count step.ending (record c { axis = step.axis })

  pub run-count : (look : AxisLook) (driven : Bool) (c : Core) → IsCounted 2 c (core_after_step look driven c)
  run-count look driven c =
      elim (driven && c.axis.driven) as (λ b. IsCounted 2 c (if b then core_after_going_on look c else record c { axis = axis_at_drive driven look.input c.axis }))
      [ true ↦ moved-count look c | false ↦ omega arith ]

  pub answered-count : (input : DriveIn) (c : Core) → length (core_after_answer input c).notes + length (core_after_answer input c).waiting ≤ length c.notes + length c.waiting + 1
  unfolding core_after_error
  answered-count input c =
      elim (nat_eq (answer_error_of c.axis input) 0) as (λ b. length (if b then c else core_after_error (answer_error_of c.axis input) c).notes
      + length (if b then c else core_after_error (answer_error_of c.axis input) c).waiting ≤ length c.notes + length c.waiting + 1)
      [ true ↦ omega arith | false ↦ let n = failed-count (answer_error_of c.axis input) c in omega (arith, n) ]
