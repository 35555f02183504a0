-- The rows of every entry of a past show the machine after it.
-- for: rows_show_the_machine
use Rattle.std.specs.Prelude.{List, ◌∷◌, ◌++◌}
use Rattle.motion_history.specs.Entries.{Entry, call, cycle, end_of}
use Rattle.motion_history.specs.Setup.{Setup, IsSetup}
use Rattle.motion_kernel.proofs.kept.Machine.{MachinesStayKept}
use Rattle.motion_kernel.specs.Histories.{IsPast, after, machine_after, replay}
use Rattle.motion_kernel.specs.Machine.{Machine, machine_at_opening}
use Rattle.motion_kernel.specs.kept.Machine.{AreWhole, IsMachineKept}
use Rattle.motion_laws.proofs.Histories.{past_kept, past_so_far}
use Rattle.motion_laws.proofs.entries.events.Histories.{IsEntry, entry_in}
use Rattle.motion_laws.proofs.entries.rows.Cycles.{cycle_shows}
use Rattle.motion_laws.specs.entries.Rows.{RowsShow}

entry_shows : MachinesStayKept → (s : Setup) (m : Machine) (e : Entry) → IsMachineKept s m →
    IsEntry s m e → RowsShow (after s m e) e
entry_shows laws s m (call k i reply) h is = tt
entry_shows laws s m (cycle n rows grows) h is =
    let one = is.is in cycle_shows laws s m rows grows h one.1
entry_shows laws s m (end_of task) h is = tt

pub entries_show : MachinesStayKept → (s : Setup) (made more : List Entry) (e : Entry) →
    IsSetup s → AreWhole s → IsPast s (made ++ e ∷ more) →
    RowsShow (after s (machine_after s made) e) e
unfolding machine_after
entries_show laws s made more e setup whole past =
    entry_shows laws s (replay s (machine_at_opening s) made) e
    (past_kept laws s made setup whole (past_so_far s made (e ∷ more) past))
    (entry_in s 0 (machine_at_opening s) made more e past.follows)
