-- The index has one name more, or named it already.
use Rattle.std.proofs.Common.{◌≡◌, ◌∷◌, [], ◌++◌, rules, sym, ap, ◌∙◌}
use Rattle.std.specs.Prelude.{is_some}
use Rattle.st_check.specs.Indexes.{value_at}
use Rattle.st_check.specs.Names.{sort_among}
use Rattle.st_check.proofs.Indexes.{known_kept, known_put, none_of}
use Rattle.st_check.proofs.index.KnownNames.push.Goals as goal
use Rattle.st_check.proofs.index.KnownNames.push.Goals.{then-is_none+in_ok-insert, else-is_none}

pub invariant_of-self-3 : goal.invariant_of-self-3
invariant_of-self-3 c =
    λ q.
    let more : c.push.new.self.items ≡ c.self.inside.names.items ++ c.args.known ∷ [] = search rules in
    let sort : c.sort_of.result ≡ sort_among c.self.inside.names.items c.args.known.name = search rules in
    let leads : sort_among (c.self.inside.names.items ++ c.args.known ∷ []) q ≡ sort_among c.push.new.self.items q =
    ap (λ l. sort_among l q) (sym more) in
    elim c.if-is_none.branch [
      | then-is_none+in_ok-insert w ↦
          ap (λ s. value_at q s.index) w.self-inside-is
          ∙ known_put c.self.inside.names.items c.args.known q (value_at q c.self.inside.index) (value_at q w.insert.new.index)
          (c.self.invariant q) (sym sort ∙ none_of c.sort_of.result w.if-is_none.ensures)
          (rw w.bytes-then-is_none.ensures.bytes at (w.in_ok-insert.ensures.inserted q))
          ∙ leads
      | else-is_none w ↦
          ap (λ s. value_at q s.index) w.self-inside-is
          ∙ known_kept c.self.inside.names.items c.args.known q (value_at q c.self.inside.index)
          (c.self.invariant q) (ap is_some (sym sort) ∙ w.if-is_none.ensures)
          ∙ leads
    ]
