-- What each entry of a past makes of the command of an instance.
-- for: replies_show_commands, entries_make_outcomes, results_are_told and others
use Rattle.std.specs.Prelude.{◌≡◌, ℕ, ◌+◌, false, Some, List, ◌∷◌, ◌++◌, slice_get}
use Rattle.fb_outputs.specs.Steps.{is_power}
use Rattle.motion_history.specs.Entries.{Entry, cycles_of}
use Rattle.motion_history.specs.Setup.{Setup, IsSetup}
use Rattle.motion_history.specs.declared.config.BlockDef.{BlockDef}
use Rattle.motion_kernel.specs.Histories.{IsPast, machine_after}
use Rattle.motion_kernel.specs.Machine.{machine_at_opening}
use Rattle.motion_kernel.specs.kept.Machine.{AreWhole}
use Rattle.motion_kernel.proofs.kept.Laws.{ConfigurationsAreSound}
use Rattle.motion_laws.specs.results.Outcomes.{IsOutcome}
use Rattle.motion_laws.proofs.Histories.{past_kept, past_so_far}
use Rattle.motion_laws.proofs.arrivals.Moves.{behind}
use Rattle.motion_laws.proofs.owners.Shown.{past_all_shown}
use Rattle.motion_laws.proofs.results.outcomes.Entries.{entry_outcome}
use Rattle.motion_laws.proofs.results.outcomes.Final.{OutcomeLaws}

-- what each entry of a past makes of each instance with commands
abbrev pub EntriesMakeOutcomes : Type 0
EntriesMakeOutcomes = (s : Setup) (made more : List Entry) (e : Entry) (k : ℕ) (b : BlockDef) → IsSetup s → AreWhole s →
    IsPast s (made ++ e ∷ more) → slice_get s.blocks k ≡ Some b → is_power b.kind ≡ false → IsOutcome s (machine_after s made) e k b

pub outcomes_made : OutcomeLaws → ConfigurationsAreSound → EntriesMakeOutcomes
unfolding machine_after
outcomes_made laws sound s made more e k b setup whole past at other =
    let so_far = past_so_far s made (e ∷ more) past in
    entry_outcome laws sound s (0 + cycles_of made) (machine_after s made) e k b whole
    (past_kept laws.owners.walk.machines s made setup whole so_far) (past_all_shown laws.owners s made setup whole so_far)
    (behind s 0 (machine_at_opening s) made (e ∷ more) past.follows).0 at other
