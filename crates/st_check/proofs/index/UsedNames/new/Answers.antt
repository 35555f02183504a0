-- An empty index has no name.
use Rattle.std.proofs.Common.{refl}
use Rattle.st_check.specs.Indexes.{value_at}
use Rattle.st_check.proofs.index.UsedNames.new.Goals as goal

pub invariant_of-result : goal.invariant_of-result
unfolding value_at
invariant_of-result c = λ q. rw (c.new-2.ensures.empty, c.new.ensures.items) refl
