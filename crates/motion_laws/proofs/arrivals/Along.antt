-- The rows of the axes of a group follow its path.
-- for: rows_follow_lines
use Rattle.std.specs.Prelude.{◌≡◌, ℕ, ◌<◌, ℤ, ◌≤ℤ◌, true, List, [], ◌∷◌, ◌++◌, length}
use Rattle.std.proofs.Common.{arith, subst, sym, ◌∙◌}
use Rattle.std.proofs.lemmas.List.{append_assoc}
use Rattle.axis_core.specs.blocks.Path.{is_on_path}
use Rattle.group_core.proofs.KeptParts.{stepping-of}
use Rattle.group_core.specs.Targets.{IsToward}
use Rattle.motion_history.specs.Entries.{Entry, cycle}
use Rattle.motion_history.specs.Setup.{Setup, IsSetup}
use Rattle.motion_kernel.proofs.kept.Ready.{member_kept}
use Rattle.motion_kernel.specs.Histories.{IsPast, after, machine_after}
use Rattle.motion_kernel.specs.Machine.{Machine, axis_at, group_at}
use Rattle.motion_kernel.specs.kept.Machine.{AreWhole, IsMachineKept}
use Rattle.motion_kernel.specs.members.Members.{member_at, members_at}
use Rattle.motion_laws.proofs.Histories.{past_kept, past_so_far}
use Rattle.motion_laws.proofs.arrivals.PathsDone.{DoneLaws, toward_here}
use Rattle.motion_laws.proofs.results.Comes.{after_more}
use Rattle.motion_laws.specs.arrivals.Along.{FollowsPath, RowsFollow}
use Rattle.motion_laws.specs.entries.Rows.{RowsShow}

-- an axis that is on its group's path in a kept machine
on_path : (s : Setup) (m : Machine) (j place : ℕ) (setpoint : ℤ) → IsMachineKept s m →
    j < length m.groups → place < length (members_at s j) →
    let n = member_at (members_at s j) place in
    is_on_path (axis_at m n) ≡ true → setpoint ≡ (axis_at m n).setpoint →
    IsToward (group_at m j).group.active (group_at m j).path →
    FollowsPath (group_at m j) place (axis_at m n).previous setpoint
on_path s m j place setpoint h l k on same toward =
    let one = member_kept s m j place h l k in
    let placed = one.placed in
    let its = placed.on on in
    let stands = its.stands in
    let g = h.groups j l in
    let core = g.core in
    let step = stepping-of (group_at m j).group.axes _ its.path core.axes core.limits_are
    (core.path its.path its.on) in
    let motion = step.motion in
    let zero = motion.from in
    let end = step.length in
    let pair = motion.kept in
    let above = pair.above in
    let below = pair.below in
    record {
      path = its.path;
      on = its.on;
      was = stands.before_is;
      is = same ∙ stands.now_is;
      from = subst (λ z. z ≤ℤ its.path.motion.place) zero above;
      to = subst (λ z. its.path.motion.place ≤ℤ z) end below;
      leads = λ w active line. toward w its.path active line its.on;
    }

-- the laws on which it rests
pub record AlongLaws : Type 0 where
  pub done : DoneLaws
  pub rows : (s : Setup) (made more : List Entry) (e : Entry) → IsSetup s → AreWhole s →
      IsPast s (made ++ e ∷ more) → RowsShow (after s (machine_after s made) e) e

-- what holds after some entries
record IsGoing (s : Setup) (j : ℕ) (m : Machine) : Type 0 where
  kept : IsMachineKept s m
  toward : IsToward (group_at m j).group.active (group_at m j).path

going : AlongLaws → (s : Setup) (es : List Entry) (j : ℕ) → IsSetup s → AreWhole s →
    IsPast s es → j < length s.groups → IsGoing s j (machine_after s es)
unfolding machine_after
going laws s es j setup whole past l =
    let done = laws.done in
    let groups = done.groups in
    record {
      kept = past_kept groups.machines s es setup whole past;
      toward = toward_here done s es j setup whole past.follows l;
    }

pub rows_follow : AlongLaws → (s : Setup) (es : List Entry) → IsSetup s → AreWhole s →
    IsPast s es → RowsFollow s es
rows_follow laws s es setup whole past made more c j place rows grows r is l k at on =
    let e = cycle c rows grows in
    let here = subst (IsPast s) is past in
    let joined : (made ++ e ∷ []) ++ more ≡ made ++ e ∷ more = append_assoc made (e ∷ []) more in
    let so_far = past_so_far s (made ++ e ∷ []) more (subst (IsPast s) (sym joined) here) in
    let m = after s (machine_after s made) e in
    let x : IsGoing s j m =
    subst (IsGoing s j) (after_more s made [] e) (going laws s (made ++ e ∷ []) j setup whole so_far l) in
    let h = x.kept in
    let sizes = h.sized in
    let groups = sizes.groups in
    let n = member_at (members_at s j) place in
    let shows = laws.rows s made more e setup whole here in
    let shown = shows.axes n r at in
    on_path s m j place r.setpoint h (omega arith) k on shown.setpoint x.toward
