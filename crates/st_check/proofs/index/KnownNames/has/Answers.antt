-- The index has each name.
use Rattle.std.proofs.Common.{ap, ◌∙◌}
use Rattle.std.specs.Prelude.{is_some}
use Rattle.st_check.specs.Indexes.{value_at}
use Rattle.st_check.proofs.Indexes.{some_among}
use Rattle.st_check.proofs.index.KnownNames.has.Goals as goal

pub returns : goal.returns
unfolding value_at
returns c =
    rw (← c.self.view_is)
    (c.contains_key.ensures ∙ ap is_some (c.self.invariant c.args.name.now) ∙ some_among c.args.name.now c.self.inside.names.items)
