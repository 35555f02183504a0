-- Names and what they stand for, found in the order of their bytes.
use Rattle.std.specs.Prelude.{◌≡◌, ℕ, Option, is_some, Vec, List}
use Rattle.std.specs.BTreeMap as tree
use Rattle.std.specs.BTreeMap.{BTreeMap}
use Rattle.std.specs.Cmp.Lexicographic.{slice_cmp}
use Rattle.std.specs.Global.{Global}
use Rattle.std.specs.List.{list_any}
use Rattle.std.specs.Ordering.{nat_cmp}
use Rattle.std.specs.Str.{bytes_eq}
use Rattle.st_check.specs.Names.{sort_among}
use Rattle.st_check.specs.declared.known.Known.{Known}
use Rattle.st_check.specs.declared.known.Sort.{Sort}

-- what a name stands for
unfoldable pub value_at : {X : Type 0} → List ℕ → BTreeMap (Vec ℕ Global) X → Option X
value_at name index = tree.get_by (λ k. slice_cmp nat_cmp name k.items) index

-- an index has these names and no others
abbrev pub HasNames : List (List ℕ) → BTreeMap (Vec ℕ Global) (Unit {0}) → Type 0
HasNames names index =
    (q : List ℕ) → is_some (value_at q index) ≡ list_any (λ n. bytes_eq n q) names

-- an index has what each name of a task names
abbrev pub HasSorts : List Known → BTreeMap (Vec ℕ Global) Sort → Type 0
HasSorts names index = (q : List ℕ) → value_at q index ≡ sort_among names q
