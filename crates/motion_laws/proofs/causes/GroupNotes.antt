-- Each error that a cycle or a call reports of a group has its cause.
-- for: errors_have_causes
use Rattle.std.specs.Prelude.{◌≡◌, refl, ℕ, ℤ, Bool, true, false, if◌then◌else◌, Option, Some, None, List, [], ◌∷◌}
use Rattle.std.proofs.Common.{subst, sym}
use Rattle.buffer_modes.specs.Queue.{active_note, end_notes}
use Rattle.command_changes.specs.Failing.{failing}
use Rattle.command_changes.specs.Group.{command_changes, power_off_changes}
use Rattle.command_core.specs.Changes.{all_changed}
use Rattle.command_core.specs.CommandState.{CommandState, queue_of}
use Rattle.command_pool.specs.declared.ending.Finish.{Finish}
use Rattle.command_pool.specs.declared.ending.Finish.TheVariants as finish
use Rattle.command_pool.specs.declared.wanted.Wanted.{Wanted}
use Rattle.group_core.specs.Cores.{Core, ended, ended_by, failed, taken_over}
use Rattle.group_core.specs.Cycles.{answered, cycled, ending_of, moved, path_after}
use Rattle.group_core.specs.Fates.{is_failing}
use Rattle.group_core.specs.States.{may_fail}
use Rattle.group_core.specs.Tracks.{places_at}
use Rattle.group_core.specs.declared.look.GroupLook.{GroupLook}
use Rattle.motion_kernel.proofs.Sizes.{by_if}
use Rattle.motion_laws.proofs.entries.numbers.Groups.{OnlyDone, moved_still, path_done}
use Rattle.motion_laws.proofs.entries.numbers.Notes.{AllTell, Nothing, active_plain, all_told, done_plain, more, untold, weaker}
use Rattle.motion_laws.proofs.entries.numbers.Quiet.{group_command, none_told}
use Rattle.motion_laws.specs.calls.Group as on_group
use Rattle.motion_laws.specs.calls.Group.{GroupCall}
use Rattle.motion_laws.specs.results.Effects.{group_changes}

-- a step reports none
quiet_over : (members : GroupLook) (places : List ℤ) (ws : List Wanted) (d : Core) →
    AllTell Nothing d.notes → AllTell Nothing (taken_over members places ws d).notes
quiet_over members places [] d h = h
quiet_over members places (w ∷ ws) d h = h

quiet_ended : (members : GroupLook) (places : List ℤ) (o : Option Finish) (d : Core) →
    OnlyDone o → d.notes ≡ [] → AllTell Nothing (ended_by members places o d).notes
unfolding ended
quiet_ended members places None d only e = untold Nothing d.notes e
quiet_ended members places (Some finish.Done) d only e =
    quiet_over members places d.waiting _
    (more Nothing d.notes (active_note finish.Done d.group.active) (untold Nothing d.notes e)
    (active_plain Nothing d.group.active finish.Done done_plain))
quiet_ended members places (Some finish.Aborted) d only e = absurd only
quiet_ended members places (Some (finish.Error n)) d only e = absurd only

quiet_moved : (members : GroupLook) (d : Core) → d.notes ≡ [] →
    AllTell Nothing (moved members d).notes
quiet_moved members d e =
    let path = path_after d.group d.path in
    quiet_ended members (places_at path members.setpoints) (ending_of d.group d.path)
    (record d { path = path }) (path_done d.group d.path) e

-- an error of a member alone does, by its number
abbrev pub OfMember : GroupLook → Core → ℕ → ℕ → Type 0
OfMember members c k n = (is_failing members c ≡ true) × (n ≡ members.error)

failed_notes : (members : GroupLook) (c : Core) → c.notes ≡ [] → is_failing members c ≡ true →
    AllTell (OfMember members c) (failed members.error c).notes
unfolding failed
failed_notes members c empty fails =
    let P = OfMember members c in
    more P c.notes
    (end_notes (finish.Error members.error)
    (record { active = c.group.active; waiting = c.waiting })) (untold P c.notes empty)
    (all_told P members.error (record { active = c.group.active; waiting = c.waiting })
    (λ k h. (fails, refl)))

failed_stays : (members : GroupLook) (c : Core) → AllTell (OfMember members c)
    (failed members.error c).notes →
    AllTell (OfMember members c) (moved members (failed members.error c)).notes
unfolding failed
failed_stays members c h =
    subst (λ (x : Core). AllTell (OfMember members c) x.notes)
    (sym (moved_still members (failed members.error c) refl)) h

moved_notes : (members : GroupLook) (c : Core) → c.notes ≡ [] →
    AllTell (OfMember members c) (moved members (answered members.error c)).notes
moved_notes members c empty = by (is_failing members c) refl
  where
    by : (b : Bool) → is_failing members c ≡ b → AllTell (OfMember members c)
        (moved members (if b then failed members.error c else c)).notes
    by true fails = failed_stays members c (failed_notes members c empty fails)
    by false fails = weaker Nothing (OfMember members c) (moved members c).notes
        (λ k n never. absurd never) (quiet_moved members c empty)

pub cycle_notes : (members : GroupLook) (c : Core) → c.notes ≡ [] →
    AllTell (OfMember members c) (cycled members c).notes
unfolding cycled
cycle_notes members c empty = moved_notes members c empty

-- a call reports an error of a Power off of a member alone, by 102
abbrev pub OfPower : GroupCall → ℕ → ℕ → Type 0
OfPower x k n = (x ≡ on_group.power_off) × (n ≡ 102)

pub call_notes : (x : GroupCall) (d : Core) (c : CommandState) → c.notes ≡ [] →
    AllTell (OfPower x) (all_changed (group_changes x d) c).notes
unfolding power_off_changes
call_notes on_group.rests d c empty = untold (OfPower on_group.rests) c.notes empty
call_notes (on_group.asked w jerk members) d c empty =
    let P = OfPower (on_group.asked w jerk members) in
    none_told P (command_changes w jerk members d) c (group_command w jerk members d)
    (untold P c.notes empty)
call_notes on_group.power_off d c empty =
    let P = OfPower on_group.power_off in
    by_if (λ xs. AllTell P (all_changed xs c).notes) (may_fail d.group.state) (failing 102) []
    (more P c.notes (end_notes (finish.Error 102) (queue_of c)) (untold P c.notes empty)
    (all_told P 102 (queue_of c) (λ k h. (refl, refl)))) (untold P c.notes empty)
