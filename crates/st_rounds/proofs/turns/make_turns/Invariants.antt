use Rattle.st_rounds.proofs.TurnLaws.{AreInTurns}
use Rattle.st_rounds.proofs.turns.make_turns.Given as goal

abbrev pub invariant-loop-number : goal.invariant-loop-number
invariant-loop-number l =
    AreInTurns l.cell l.number l.kernel.kernel l.players l.initial.kernel.kernel l.initial.players
