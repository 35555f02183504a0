use Rattle.st_rounds.proofs.OpenLaws.{AreOpenedTo}
use Rattle.st_rounds.proofs.run.open_players.Given as goal

abbrev pub invariant-loop-number : goal.invariant-loop-number
invariant-loop-number l = AreOpenedTo l.code l.number l.players.items
