-- A name has what it was given, and the others what they had.
use Rattle.std.proofs.Common.{◌≡◌, Some, ap, rules, ◌∙◌}
use Rattle.std.specs.Prelude.{cond}
use Rattle.std.specs.Map.{lookup}
use Rattle.std.specs.Str.{bytes_eq}
use Rattle.iec_names.specs.Indexes.{value_at}
use Rattle.iec_names.proofs.Indexes.{at, found_after}
use Rattle.iec_names.proofs.table.insert.Goals as goal

pub returns-in-Ok-insert-clause-inserted : goal.returns-in-Ok-insert-clause-inserted
unfolding value_at
returns-in-Ok-insert-clause-inserted g c =
    λ q.
    let key : c.extend_from_slice.new.self.items ≡ c.args.bytes.now = search rules in
    ap (lookup (at q)) c.in-Ok-insert.ensures.entries
    ∙ found_after q c.extend_from_slice.new.self c.args.value c.args.index.now.entries
    ∙ ap (λ l. cond (bytes_eq q l) (Some c.args.value) (lookup (at q) c.args.index.now.entries)) key

pub returns-clause-left : goal.returns-clause-left
unfolding value_at
returns-clause-left g c = λ q. ap (lookup (at q)) c.in-Err.ensures.err
