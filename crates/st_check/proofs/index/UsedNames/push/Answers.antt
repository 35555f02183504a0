-- The index has one name more.
use Rattle.std.proofs.Common.{◌≡◌, ◌∷◌, [], ◌++◌, rules}
use Rattle.st_check.specs.Indexes.{value_at}
use Rattle.st_check.proofs.Indexes.{used_put}
use Rattle.st_check.proofs.index.UsedNames.push.Goals as goal

pub invariant_of-self-2 : goal.invariant_of-self-2
invariant_of-self-2 c =
    λ q.
    let more : c.push.new.self.items ≡ c.self.inside.names.items ++ c.args.name ∷ [] = search rules in
    rw more
    (used_put c.self.inside.names.items c.args.name q (value_at q c.self.inside.index) (value_at q c.insert.new.index)
    (c.self.invariant q) (rw c.bytes.ensures.bytes at (c.in_ok-insert.ensures.inserted q)))
