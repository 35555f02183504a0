-- An empty index has no name.
use Rattle.std.proofs.Common.{refl}
use Rattle.st_check.specs.Indexes.{value_at}
use Rattle.st_check.proofs.index.KnownNames.clear.Goals as goal

pub invariant_of-self : goal.invariant_of-self
unfolding value_at
invariant_of-self c = λ q. rw (c.clear-2.ensures.empty, c.clear.ensures.items) refl
