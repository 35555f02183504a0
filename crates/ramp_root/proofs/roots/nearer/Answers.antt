-- The mean isn't below the root.
use Rattle.ramp_root.proofs.RootLemmas.{mean-not_below}
use Rattle.ramp_root.proofs.roots.nearer.Goals as goal

pub returns-clause-not_below : goal.returns-clause-not_below
returns-clause-not_below c = mean-not_below c.args.n c.args.above c.requires.some
