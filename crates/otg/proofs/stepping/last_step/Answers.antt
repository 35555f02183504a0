-- Both lie within the limits.
use Rattle.std.proofs.Common.{arith}
use Rattle.std.proofs.lemmas.Int.{ints}
use Rattle.otg.proofs.Opens.{last_within}
use Rattle.otg.proofs.stepping.last_step.Goals as goal

pub difference-requires-clause-within : goal.difference-requires-clause-within
difference-requires-clause-within c = omega (arith, ints, last_within c.args.otg.now c.requires.opened)
