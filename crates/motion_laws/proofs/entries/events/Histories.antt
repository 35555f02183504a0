-- The states change by their events in every entry of a past.
-- for: machines_can_stand, states_change_by_their_events, rows_show_the_machine and others
use Rattle.std.specs.Prelude.{refl, ℕ, ◌+◌, List, [], ◌∷◌, ◌++◌}
use Rattle.plc_types.specs.declared.inputs.Inputs.{Inputs}
use Rattle.plc_types.specs.declared.outputs.Outputs.{Outputs}
use Rattle.motion_history.specs.Calls.{IsCall}
use Rattle.motion_history.specs.Entries.{Entry, call, cycle, cycle_count, end_of}
use Rattle.motion_history.specs.Setup.{Setup, IsSetup}
use Rattle.motion_kernel.specs.Histories.{Follows, IsPast, IsOf, after, machine_after, replay}
use Rattle.motion_kernel.specs.Machine.{Machine, machine_at_opening}
use Rattle.motion_kernel.specs.kept.Machine.{AreWhole, IsMachineKept}
use Rattle.motion_laws.specs.entries.Events.{GoByEvents}
use Rattle.motion_laws.proofs.Histories.{past_kept, past_so_far}
use Rattle.motion_laws.proofs.entries.events.AxisCalls as axes
use Rattle.motion_laws.proofs.entries.events.Cycles.{cycle_goes}
use Rattle.motion_laws.proofs.entries.events.GroupCalls as groups
use Rattle.motion_laws.proofs.entries.events.Laws.{EventLaws}

-- an entry of a history is the machine's
pub record IsEntry (s : Setup) (m : Machine) (e : Entry) : Type 0 where
  pub cycles : ℕ
  pub is : IsOf s cycles m e

pub entry_in : (s : Setup) (cycles : ℕ) (m : Machine) (made more : List Entry) (e : Entry) →
    Follows s cycles m (made ++ e ∷ more) → IsEntry s (replay s m made) e
entry_in s cycles m [] more e f = record { cycles = cycles; is = f.0 }
entry_in s cycles m (x ∷ xs) more e f = entry_in s (cycles + cycle_count x)
    (after s m x) xs more e f.1

pub call_goes : EventLaws → (s : Setup) (m : Machine) (k : ℕ) (i : Inputs) (reply : Outputs) → AreWhole s → IsCall s k i →
    IsMachineKept s m → GoByEvents s m (call k i reply)
call_goes laws s m k i reply whole made h = record {
  axes = λ n l. axes.axis_goes laws s m k i n h whole made l;
  groups = λ j l. groups.group_goes laws s m k i j h whole made l;
}

entry_goes : EventLaws → (s : Setup) (m : Machine) (e : Entry) → AreWhole s → IsMachineKept s m → IsEntry s m e → GoByEvents s m e
entry_goes laws s m (call k i reply) whole h is = let one = is.is in call_goes laws s m k i reply whole one.0 h
entry_goes laws s m (cycle n rows grows) whole h is = cycle_goes laws s m n rows grows h
entry_goes laws s m (end_of task) whole h is = record { axes = λ n l. refl; groups = λ j l. refl }

pub entries_go : EventLaws → (s : Setup) (made more : List Entry) (e : Entry) → IsSetup s → AreWhole s →
    IsPast s (made ++ e ∷ more) → GoByEvents s (machine_after s made) e
unfolding machine_after
entries_go laws s made more e setup whole past =
    let kept = past_kept laws.machines s made setup whole (past_so_far s made (e ∷ more) past) in
    entry_goes laws s (replay s (machine_at_opening s) made) e whole kept
    (entry_in s 0 (machine_at_opening s) made more e past.follows)
