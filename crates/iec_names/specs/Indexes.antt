-- Names and what they stand for, found in the order of their bytes in small letters.
use Rattle.std.specs.Prelude.{◌≡◌, ℕ, Option, Vec, List, reverse}
use Rattle.std.specs.BTreeMap as tree
use Rattle.std.specs.BTreeMap.{BTreeMap}
use Rattle.std.specs.Cmp.Lexicographic.{slice_cmp}
use Rattle.std.specs.Global.{Global}
use Rattle.std.specs.Ordering.{nat_cmp}
use Rattle.std.specs.Str.{str_to_ascii_lowercase}
use Rattle.iec_names.specs.Tables.{sort_among}
use Rattle.iec_names.specs.declared.sort.Known.{Known}
use Rattle.iec_names.specs.declared.sort.Sort.{Sort}

-- what a key stands for
unfoldable pub value_at : {X : Type 0} → List ℕ → BTreeMap (Vec ℕ Global) X → Option X
value_at key index = tree.get_by (λ k. slice_cmp nat_cmp key k.items) index

-- an index has what each name names, in small letters
abbrev pub HasSorts : List Known → BTreeMap (Vec ℕ Global) Sort → Type 0
HasSorts names index =
    (q : List ℕ) → value_at (str_to_ascii_lowercase q) index ≡ sort_among (reverse names) q
