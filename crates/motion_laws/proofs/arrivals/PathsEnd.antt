-- The commands of groups come to their end in time, in every past.
-- for: paths_end_in_time
use Rattle.std.specs.Prelude.{ℕ, ◌+◌, ◌<◌, List, ◌∷◌, length, map}
use Rattle.std.proofs.Common.{arith, subst}
use Rattle.group_core.specs.Courses.{bound_of}
use Rattle.motion_history.specs.Entries.{Entry, cycle_count, cycles_of}
use Rattle.motion_history.specs.Setup.{Setup, IsSetup}
use Rattle.motion_laws.specs.arrivals.Paths.{KeepsCourse, PathsEnd}
use Rattle.motion_kernel.specs.Histories.{Follows, IsPast, after, machine_after}
use Rattle.motion_kernel.specs.Machine.{Machine, group_core_at, machine_at_opening}
use Rattle.motion_kernel.specs.kept.Machine.{AreWhole, IsMachineKept, limits_of}
use Rattle.motion_kernel.specs.members.Members.{members_at}
use Rattle.motion_laws.proofs.arrivals.Moves.{behind}
use Rattle.motion_laws.proofs.arrivals.Paths.{arrives, fate_shown, kept_after}
use Rattle.motion_laws.proofs.arrivals.PathsDone.{DoneLaws, IsGoing, done_there, toward_here}
use Rattle.motion_laws.proofs.Histories.{past_kept, past_so_far}

-- each entry of a history that follows a kept machine
course_kept : DoneLaws → (s : Setup) (cycles : ℕ) (m : Machine) (e : Entry) (more : List Entry)
    (j : ℕ) → AreWhole s → IsMachineKept s m → Follows s cycles m (e ∷ more) →
    j < length s.groups → IsGoing (group_core_at m j) → KeepsCourse s m e more j
course_kept laws s cycles m e more j whole h f l goes =
    let sizes = h.sized in
    let size = sizes.groups in
    let here : j < length m.groups = omega arith in
    let next = kept_after laws.groups s cycles m e whole h f.0 in
    let then = next.sized in
    let count = then.groups in
    let behind_it : j < length (after s m e).groups = omega arith in
    let fate = fate_shown laws.groups s cycles m e j whole h f.0 here in
    record {
      fate = fate;
      in_time = λ w course p begins leads on most.
          let under = laws.groups.courses.begins course (map (limits_of s) (members_at s j))
          (group_core_at (after s m e) j) w p (next.groups j behind_it).core
          (fate.begins w begins) on leads in
          arrives laws.groups s (cycles + cycle_count e) (after s m e) more j
          (bound_of course p.motion) course whole next f.1 l under most;
      done = λ w active done.
          done_there laws s cycles m e j w whole h f.0 here goes active done;
    }

-- and so each entry of a past
pub paths_end : DoneLaws → (s : Setup) (es : List Entry) → IsSetup s → AreWhole s → IsPast s es →
    PathsEnd s es
unfolding machine_after
paths_end laws s es setup whole past made more e j is l =
    let all = subst (IsPast s) is past in
    let so_far = past_so_far s made (e ∷ more) all in
    course_kept laws s (0 + cycles_of made) (machine_after s made) e more j whole
    (past_kept laws.groups.machines s made setup whole so_far)
    (behind s 0 (machine_at_opening s) made (e ∷ more) all.follows) l
    (toward_here laws s made j setup whole so_far.follows l)
