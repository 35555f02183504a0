-- The index has each name.
use Rattle.std.proofs.Common.{◌∙◌}
use Rattle.st_check.specs.Indexes.{value_at}
use Rattle.st_check.proofs.index.UsedNames.has.Goals as goal

pub returns : goal.returns
unfolding value_at
returns c = rw (← c.self.view_is) (c.contains_key.ensures ∙ c.self.invariant c.args.name.now)
