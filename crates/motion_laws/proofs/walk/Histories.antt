-- What every event keeps, and what holds at opening, holds after every past.
-- for: machines_can_stand, at_most_eight_wait, replies_show_commands and others
use Rattle.std.specs.Prelude.{ℕ, ◌+◌, List, [], ◌∷◌}
use Rattle.motion_history.specs.Entries.{Entry, call, cycle, cycle_count, end_of}
use Rattle.motion_history.specs.Setup.{Setup, IsSetup}
use Rattle.motion_kernel.specs.Histories.{Follows, IsPast, inputs_of, replay}
use Rattle.motion_kernel.specs.Machine.{Machine, machine_at_opening}
use Rattle.motion_kernel.specs.calls.Calls.{after_call}
use Rattle.motion_kernel.specs.cycles.Cycles.{after_cycle}
use Rattle.motion_kernel.specs.kept.Machine.{AreWhole, IsMachineKept}
use Rattle.motion_kernel.proofs.kept.Machine.{kept_by_cycle}
use Rattle.motion_kernel.proofs.walk.Calls.{by_call}
use Rattle.motion_kernel.proofs.walk.Cycles.{by_cycle}
use Rattle.motion_kernel.proofs.walk.Keeps.{Keeps, WalkLaws}

module _ (laws : WalkLaws) (s : Setup) (May : ℕ → Type 0) (P Q : Machine → Type 0) (keeps : Keeps s May P Q) (free : (k : ℕ) → May k) where
  by_replay : (cycles : ℕ) (m : Machine) (es : List Entry) → AreWhole s → IsMachineKept s m → P m → Follows s cycles m es → P (replay s m es)
  by_replay cycles m [] whole kept h f = h
  by_replay cycles m (call k i reply ∷ es) whole kept h f =
      by_replay (cycles + cycle_count (call k i reply)) (after_call s m k i) es whole (laws.machines.call s m k i whole f.0.0 kept)
      (by_call laws s May P Q keeps k (free k) m i whole f.0.0 kept h) f.1
  by_replay cycles m (cycle c rows grows ∷ es) whole kept h f =
      by_replay (cycles + cycle_count (cycle c rows grows)) (after_cycle s m (inputs_of rows)) es whole
      (kept_by_cycle laws.machines s m rows grows kept f.0.1) (by_cycle laws s May P Q keeps m (inputs_of rows) kept h) f.1
  by_replay cycles m (end_of task ∷ es) whole kept h f = by_replay (cycles + cycle_count (end_of task)) m es whole kept h f.1

  pub by_history : P (machine_at_opening s) → (es : List Entry) → IsSetup s → AreWhole s → IsPast s es → P (replay s (machine_at_opening s) es)
  by_history opened es setup whole past =
      by_replay 0 (machine_at_opening s) es whole (laws.machines.opened s setup whole) opened past.follows
