-- The index has what each name names.
use Rattle.std.proofs.Common.{◌∙◌, ap}
use Rattle.iec_names.specs.Indexes.{value_at}
use Rattle.iec_names.proofs.table.Table.sort_of.Goals as goal

pub returns : goal.returns
unfolding value_at
returns c =
    rw (← c.self.view_is)
    (c.copied.ensures ∙ c.get.ensures.value ∙ ap (λ key. value_at key c.self.inside.index) c.key_of-key.ensures.bytes
    ∙ c.self.invariant c.args.name.now)
