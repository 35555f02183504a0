-- What a move does in a cycle.
use Rattle.std.specs.Option.{option_copied}
use Rattle.std.proofs.Common.{arith, to_z, of_z, w64}
use Rattle.std.proofs.lemmas.Int.{ints}
use Rattle.axis_core.proofs.Progresses.{move-progress}
use Rattle.axis_core.proofs.kinds.moved.Goals as goal

pub returns-clause-value : goal.returns-clause-value
returns-clause-value c look =
    move-progress c.args.axis.now c.args.wanted.now (option_copied c.args.next) look (to_z w64 (of_z w64 c.progress-motion.result.step)) c.progress-motion.result.step
    c.progress-motion.result.reached c.progress-motion.result.closes c.ends_where-ending.result c.requires.named (let small = c.progress-motion.ensures.small in omega (arith, ints, small))
    c.progress-motion.ensures.step c.progress-motion.ensures.reached c.progress-motion.ensures.closes c.ends_where-ending.ensures
