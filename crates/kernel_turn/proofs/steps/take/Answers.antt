use Rattle.kernel_turn.proofs.Turns.{holds_of}
use Rattle.kernel_turn.proofs.steps.take.Goals as goal

pub returns-clause-holds : goal.returns-clause-holds
returns-clause-holds g c = holds_of c.args.seat.now.me c.draw-number.new.seat.me c.wait.new.seat.me _ c.draw-number.ensures.drawn.0 c.draw-number.ensures.drawn.2 c.wait.ensures.found.0 c.wait.ensures.found.1 c.wait.ensures.found.2 c.wait.ensures.stopped c.wait.ensures.whole
