-- The index has what the latest of a name does.
use Rattle.std.proofs.Common.{◌≡◌, ◌∷◌, [], ◌++◌, rules, sym, ap, ◌∙◌}
use Rattle.std.specs.Prelude.{reverse}
use Rattle.std.specs.Str.{str_to_ascii_lowercase}
use Rattle.std.proofs.lemmas.List.{reverse-append}
use Rattle.iec_names.specs.Indexes.{value_at}
use Rattle.iec_names.specs.Tables.{sort_among}
use Rattle.iec_names.proofs.Indexes.{defined}
use Rattle.iec_names.proofs.table.Table.define.Goals as goal

pub invariant_of-self-2 : goal.invariant_of-self-2
invariant_of-self-2 c =
    λ q.
    let known = c.args.known in
    let more : c.push.new.self.items ≡ c.self.inside.names.items ++ known ∷ [] = search rules in
    let turned : reverse c.push.new.self.items ≡ known ∷ reverse c.self.inside.names.items = ap reverse more ∙ reverse-append c.self.inside.names.items (known ∷ []) in
    defined q known (reverse c.self.inside.names.items) (value_at (str_to_ascii_lowercase q) c.self.inside.index)
    (value_at (str_to_ascii_lowercase q) c.insert.new.index) (c.self.invariant q)
    (rw c.key_of-key.ensures.bytes at (c.in_ok-insert.ensures.inserted (str_to_ascii_lowercase q)))
    ∙ ap (λ l. sort_among l q) (sym turned)
