-- The lemmas on halts.
use Rattle.otg.proofs.Ends.{halt_done, halt_by_limits}
use Rattle.otg.proofs.laws.halts_are_done.Goals as goal

pub returns-clause-by_limits : goal.returns-clause-by_limits
returns-clause-by_limits c = λ run k n m steps halt. halt_done run k n m steps (halt_by_limits (run _) halt)

pub returns-clause-by_rates : goal.returns-clause-by_rates
returns-clause-by_rates c = halt_done
