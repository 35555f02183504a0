use Rattle.std.proofs.Common.{rules, false, arith}
use Rattle.kernel_turn.proofs.Moves.{passes_at}
use Rattle.kernel_turn.proofs.steps.pass_on.Goals as goal

pub fetch_add-requires : goal.fetch_add-requires
fetch_add-requires c = (search rules, omega (arith, c.requires.lock.1), passes_at false _ _ _ c.put_back.new.seat.me c.args.kernel (search rules) (search rules) (search rules))
