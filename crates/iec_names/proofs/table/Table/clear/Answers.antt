-- An empty index has no name.
use Rattle.std.proofs.Common.{refl}
use Rattle.iec_names.specs.Indexes.{value_at}
use Rattle.iec_names.specs.Tables.{sort_among}
use Rattle.iec_names.proofs.table.Table.clear.Goals as goal

pub invariant_of-self : goal.invariant_of-self
unfolding value_at sort_among
invariant_of-self c = λ q. rw (c.clear-2.ensures.empty, c.clear.ensures.items) refl
