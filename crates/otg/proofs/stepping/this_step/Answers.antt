-- Both lie within the limits.
use Rattle.std.proofs.Common.{arith}
use Rattle.std.proofs.lemmas.Int.{ints}
use Rattle.otg.proofs.Opens.{this_within}
use Rattle.otg.proofs.stepping.this_step.Goals as goal

pub difference-requires-clause-within : goal.difference-requires-clause-within
difference-requires-clause-within c = omega (arith, ints, this_within c.args.otg.now c.requires.opened)
