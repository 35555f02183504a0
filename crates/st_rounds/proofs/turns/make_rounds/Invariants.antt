use Rattle.std.specs.Prelude.{◌-◌}
use Rattle.motion_history.specs.Entries.{cycles_of}
use Rattle.st_rounds.proofs.RoundLaws.{AreInRounds}
use Rattle.st_rounds.proofs.turns.make_rounds.Given as goal

abbrev pub invariant-loop-players : goal.invariant-loop-players
invariant-loop-players l =
    AreInRounds l.cell l.kernel.kernel l.drives l.players l.initial.kernel.kernel l.initial.drives
    l.initial.players

abbrev pub decreases-loop-players : goal.decreases-loop-players
decreases-loop-players l = l.kernel.kernel.config.cycles - cycles_of l.kernel.kernel.history
