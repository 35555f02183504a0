-- The machines of a past are kept, and the entries with which it begins are one.
-- for: machines_can_stand, spells_begin_at_drives, targets_follow_setpoints and others
use Rattle.std.specs.Prelude.{ℕ, ◌+◌, List, [], ◌∷◌, ◌++◌}
use Rattle.motion_history.specs.Entries.{Entry, call, cycle, cycle_count, end_of}
use Rattle.motion_history.specs.Setup.{Setup, IsSetup}
use Rattle.motion_kernel.specs.calls.Calls.{after_call}
use Rattle.motion_kernel.specs.cycles.Cycles.{after_cycle}
use Rattle.motion_kernel.specs.Histories.{Follows, IsPast, after, inputs_of, replay}
use Rattle.motion_kernel.specs.Machine.{Machine, machine_at_opening}
use Rattle.motion_kernel.specs.kept.Machine.{AreWhole, IsMachineKept}
use Rattle.motion_kernel.proofs.kept.Machine.{MachinesStayKept, kept_by_cycle}

-- a machine is kept by the entries of its history
pub replay_kept : MachinesStayKept → (s : Setup) (cycles : ℕ) (m : Machine) (es : List Entry) → AreWhole s → IsMachineKept s m → Follows s cycles m es →
    IsMachineKept s (replay s m es)
replay_kept laws s cycles m [] whole h f = h
replay_kept laws s cycles m (call k i reply ∷ es) whole h f =
    replay_kept laws s (cycles + cycle_count (call k i reply)) (after_call s m k i) es whole (laws.call s m k i whole f.0.0 h) f.1
replay_kept laws s cycles m (cycle c rows grows ∷ es) whole h f =
    replay_kept laws s (cycles + cycle_count (cycle c rows grows)) (after_cycle s m (inputs_of rows)) es whole
    (kept_by_cycle laws s m rows grows h f.0.1) f.1
replay_kept laws s cycles m (end_of task ∷ es) whole h f = replay_kept laws s (cycles + cycle_count (end_of task)) m es whole h f.1

pub past_kept : MachinesStayKept → (s : Setup) (es : List Entry) → IsSetup s → AreWhole s → IsPast s es →
    IsMachineKept s (replay s (machine_at_opening s) es)
past_kept laws s es setup whole past = replay_kept laws s 0 (machine_at_opening s) es whole (laws.opened s setup whole) past.follows

-- the entries with which a past begins are one
follows_so_far : (s : Setup) (cycles : ℕ) (m : Machine) (es fs : List Entry) → Follows s cycles m (es ++ fs) → Follows s cycles m es
follows_so_far s cycles m [] fs f = tt
follows_so_far s cycles m (e ∷ es) fs f = (f.0, follows_so_far s (cycles + cycle_count e) (after s m e) es fs f.1)

pub past_so_far : (s : Setup) (es fs : List Entry) → IsPast s (es ++ fs) → IsPast s es
past_so_far s es fs past = record { follows = follows_so_far s 0 (machine_at_opening s) es fs past.follows }
