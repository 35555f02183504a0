-- Errors are reported as they are shown, in every entry of a past.
-- for: errors_are_told_as_shown
use Rattle.std.specs.Prelude.{refl, List, ◌∷◌, ◌++◌}
use Rattle.std.proofs.Common.{arith}
use Rattle.motion_history.specs.Entries.{Entry, call, cycle, end_of}
use Rattle.motion_history.specs.Setup.{Setup, IsSetup}
use Rattle.motion_kernel.specs.Histories.{IsPast, machine_after, replay}
use Rattle.motion_kernel.specs.Machine.{Machine, machine_at_opening}
use Rattle.motion_kernel.specs.kept.Machine.{AreWhole, IsMachineKept}
use Rattle.motion_laws.specs.entries.Numbers.{ErrorsAreTold}
use Rattle.motion_kernel.specs.owners.Objects.{a_group, an_axis}
use Rattle.motion_laws.proofs.Histories.{past_kept, past_so_far}
use Rattle.motion_laws.proofs.entries.events.Histories.{IsEntry, entry_in}
use Rattle.motion_laws.proofs.entries.numbers.Calls.{axis_called, group_called}
use Rattle.motion_laws.proofs.entries.numbers.Cycles.{axis_cycled, group_cycled}
use Rattle.motion_kernel.proofs.walk.Keeps.{WalkLaws}

entry_tells : WalkLaws → (s : Setup) (m : Machine) (e : Entry) → AreWhole s → IsMachineKept s m →
    IsEntry s m e → ErrorsAreTold s m e
entry_tells laws s m (call k i reply) whole h is (an_axis n) l = axis_called s m k i reply n h l
entry_tells laws s m (call k i reply) whole h is (a_group j) l =
    let one = is.is in group_called laws s m k i reply j whole one.0 h l
entry_tells laws s m (cycle c rows grows) whole h is (an_axis n) l =
    axis_cycled laws s m c rows grows n h l
entry_tells laws s m (cycle c rows grows) whole h is (a_group j) l =
    group_cycled laws s m c rows grows j h l
entry_tells laws s m (end_of task) whole h is (an_axis n) l = record {
  shown = λ k x e. absurd (cc);
  whose = λ k x e. absurd (cc);
  stays = λ a b. refl;
  comes = tt;
}
entry_tells laws s m (end_of task) whole h is (a_group j) l = record {
  shown = λ k x e. absurd (cc);
  whose = λ k x e. absurd (cc);
  stays = λ a b. refl;
  comes = λ one a b. absurd (omega arith);
}

pub errors_told : WalkLaws → (s : Setup) (made more : List Entry) (e : Entry) → IsSetup s →
    AreWhole s → IsPast s (made ++ e ∷ more) → ErrorsAreTold s (machine_after s made) e
unfolding machine_after
errors_told laws s made more e setup whole past =
    let start = machine_at_opening s in
    entry_tells laws s (replay s start made) e whole
    (past_kept laws.machines s made setup whole (past_so_far s made (e ∷ more) past))
    (entry_in s 0 start made more e past.follows)
