-- An instance without a command stays as it is in the calls of others and in cycles.
-- for: results_are_told
use Rattle.std.specs.Prelude.{◌≡◌, ℕ, false, nat_eq, List}
use Rattle.std.proofs.Common.{ap, ◌∙◌}
use Rattle.plc_types.specs.declared.drive.DriveIn.{DriveIn}
use Rattle.command_core.specs.Brought.{brought}
use Rattle.command_core.specs.Changes.{Change}
use Rattle.fb_outputs.specs.InstanceState.{InstanceState}
use Rattle.fb_outputs.specs.Steps as instance
use Rattle.plc_types.specs.declared.inputs.Inputs.{Inputs}
use Rattle.fb_outputs.specs.declared.instance.Progress.{Progress}
use Rattle.motion_history.specs.Calls.{IsCall}
use Rattle.motion_history.specs.Setup.{Setup}
use Rattle.motion_kernel.specs.Machine.{Machine, instance_at}
use Rattle.motion_kernel.specs.calls.Calls.{after_call}
use Rattle.motion_kernel.specs.cycles.Cycles.{after_cycle}
use Rattle.motion_kernel.specs.kept.Machine.{AreWhole, IsMachineKept}
use Rattle.motion_kernel.specs.owners.Commands.{CommandsAreShown, commands_shown}
use Rattle.motion_kernel.specs.owners.Objects.{Object}
use Rattle.motion_laws.proofs.owners.Events.{event_changes, free_same, free_shown}
use Rattle.motion_laws.proofs.owners.Kept.{answered_other, commands_kept}
use Rattle.motion_kernel.proofs.owners.commands.Events.{OwnerLaws, ShownOf}
use Rattle.motion_laws.proofs.results.Cycles.{found_spares}
use Rattle.motion_laws.proofs.results.Events.{beside, event_spares, none_spared, progress_in}
use Rattle.motion_kernel.proofs.walk.Calls.{by_call}
use Rattle.motion_kernel.proofs.walk.Cycles.{by_cycle}
use Rattle.motion_kernel.proofs.walk.Keeps.{Asks, Event, Keeps, freed}

-- all are where they show, and this instance is as far as before
record IsAsFar (s : Setup) (k : ℕ) (p : Progress) (m : Machine) : Type 0 where
  commands : CommandsAreShown s m
  progress : progress_in m.instances k ≡ p

-- calls of other instances
abbrev Others : ℕ → ℕ → Type 0
Others k j = nat_eq j k ≡ false

module _ (laws : OwnerLaws) (s : Setup) (k : ℕ) (p : Progress) (none : commands_shown p ≡ 0) where
  -- an event that brings the instance nothing
  event_as_far : (m x : Machine) (o : Object) (xs : List Change) → Event m x o xs → brought k xs ≡ 0 → ShownOf s k m →
      progress_in m.instances k ≡ p → progress_in x.instances k ≡ p
  event_as_far m x o xs e nothing shown same =
      ap (λ (i : InstanceState). i.progress)
      (event_spares s k m x o _ (event_changes laws k m x o xs e nothing) shown (none_spared s k m.instances o (ap commands_shown same ∙ none)))
      ∙ same

  asked_as_far : (j : ℕ) (m z : Machine) → nat_eq j k ≡ false → Asks s j m z → IsAsFar s k p m → progress_in z.instances k ≡ p
  asked_as_far j m z d a h =
      ap (λ (i : InstanceState). i.progress) (answered_other s j k m z a d)
      ∙ event_as_far (freed j a.called m) a.asked a.object a.changes a.event (a.others k d) (free_shown laws s j k a.called m d (h.commands k))
      (ap (λ (i : InstanceState). i.progress) (free_same j k a.called m d) ∙ h.progress)

  as_far_kept : Keeps s (Others k) (IsAsFar s k p) (IsAsFar s k p)
  as_far_kept =
      let c = commands_kept laws s in
      record {
        executed = λ j b i m d at quiet h. record {
          commands = c.executed j b i m tt at quiet h.commands;
          progress = ap (λ (x : InstanceState). x.progress) (beside m j k (instance.called (instance_at m.instances j) i.execute) d) ∙ h.progress;
        };
        powered = λ m x o xs e brings call h. record {
          commands = c.powered m x o xs e brings call h.commands;
          progress = event_as_far m x o xs e (laws.once.none k xs brings) (h.commands k) h.progress;
        };
        asked = λ j m z d a h. record { commands = c.asked j m z tt a h.commands; progress = asked_as_far j m z d a h };
        replied = λ j m d h. record {
          commands = c.replied j m tt h.commands;
          progress = ap (λ (x : InstanceState). x.progress) (beside m j k (instance.shown (instance_at m.instances j)) d) ∙ h.progress;
        };
        begins = λ m sized h. h;
        cycled = λ m x o xs e brings h. record {
          commands = c.cycled m x o xs e brings h.commands;
          progress = event_as_far m x o xs e (laws.once.none k xs brings) (h.commands k) h.progress;
        };
        found = λ m sized h. record {
          commands = c.found m sized h.commands;
          progress = found_spares s m k h.commands (ap commands_shown h.progress ∙ none) ∙ h.progress;
        };
      }

pub call_spares : OwnerLaws → (s : Setup) (m : Machine) (k j : ℕ) (i : Inputs) → AreWhole s → IsCall s j i → IsMachineKept s m →
    CommandsAreShown s m → nat_eq j k ≡ false → commands_shown (progress_in m.instances k) ≡ 0 →
    progress_in (after_call s m j i).instances k ≡ progress_in m.instances k
call_spares laws s m k j i whole made kept shown d none =
    let p = progress_in m.instances k in
    (by_call laws.walk s (Others k) (IsAsFar s k p) (IsAsFar s k p) (as_far_kept laws s k p none) j d m i whole made kept
    (record { commands = shown; progress = λ x. p })).progress

pub cycle_spares : OwnerLaws → (s : Setup) (m : Machine) (ins : List DriveIn) (k : ℕ) → IsMachineKept s m →
    CommandsAreShown s m → commands_shown (progress_in m.instances k) ≡ 0 →
    progress_in (after_cycle s m ins).instances k ≡ progress_in m.instances k
cycle_spares laws s m ins k kept shown none =
    let p = progress_in m.instances k in
    (by_cycle laws.walk s (Others k) (IsAsFar s k p) (IsAsFar s k p) (as_far_kept laws s k p none) m ins kept
    (record { commands = shown; progress = λ x. p })).progress
