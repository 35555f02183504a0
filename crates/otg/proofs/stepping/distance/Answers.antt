-- Both lie within the limits.
use Rattle.std.proofs.Common.{arith}
use Rattle.std.proofs.lemmas.Int.{ints}
use Rattle.otg.proofs.Opens.{distance_way}
use Rattle.otg.proofs.stepping.distance.Goals as goal

pub difference-requires-clause-within : goal.difference-requires-clause-within
difference-requires-clause-within c = omega (arith, ints, distance_way c.args.otg.now c.requires.opened)
