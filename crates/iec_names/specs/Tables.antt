-- Names, and what they name, the latest first. IEC 61131-3: no case of letters counts.
use Rattle.std.specs.Prelude.{ℕ, if◌then◌else◌, Option, Some, None, List, [], ◌∷◌}
use Rattle.iec_names.specs.declared.sort.Known.{Known}
use Rattle.iec_names.specs.declared.sort.Sort.{Sort}
use Rattle.iec_tokens.specs.Names.{is_same}

-- what a name names: what it named last
unfoldable pub sort_among : List Known → List ℕ → Option Sort
sort_among [] name = None
sort_among (k ∷ known) name = if is_same name k.name then Some k.sort else sort_among known name
