-- An empty index has no name.
use Rattle.std.proofs.Common.{refl}
use Rattle.iec_names.specs.Indexes.{value_at}
use Rattle.iec_names.specs.Tables.{sort_among}
use Rattle.iec_names.proofs.table.Table.new.Goals as goal

pub invariant_of-result : goal.invariant_of-result
unfolding value_at sort_among
invariant_of-result c = λ q. rw (c.new-2.ensures.empty, c.new.ensures.items) refl
