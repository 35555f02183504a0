use Rattle.std.proofs.Common.{arith}
use mathlib.Core.Option.{none}
use Rattle.atomic_table.specs.Table.{step}
use Rattle.kernel_turn.proofs.Moves.{looks_at, looked}
use Rattle.kernel_turn.proofs.steps.look.Goals as goal

pub load-requires : goal.load-requires
load-requires c = (c.requires.lock.0, omega (arith, c.requires.lock.1), looks_at _ _ _ _ c.requires.hand.0 c.requires.live.0 c.requires.hand.2 c.requires.live.1 c.requires.live.2)

pub returns-clause-taken : goal.returns-clause-taken
returns-clause-taken c = looked (step c.args.top.now.table_id.slots 1 0 0 none) _ _ _ _ c.requires.hand.0 c.requires.hand.1 c.requires.hand.2 c.load.ensures.2
