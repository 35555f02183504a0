-- The index has what each name names.
use Rattle.std.proofs.Common.{◌∙◌}
use Rattle.st_check.specs.Indexes.{value_at}
use Rattle.st_check.proofs.index.KnownNames.sort_of.Goals as goal

pub returns : goal.returns
unfolding value_at
returns c =
    rw (← c.self.view_is) (c.copied.ensures ∙ c.get.ensures.value ∙ c.self.invariant c.args.name.now)
