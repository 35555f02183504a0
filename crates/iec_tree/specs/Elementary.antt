-- The elementary data types. IEC 61131-3.
use Rattle.std.specs.Prelude.{ℕ, codes, Bool, ◌||◌, Option, List}
use Rattle.std.specs.List.{find}
use Rattle.std.specs.Str.{str_eq_ignore_ascii_case}
use Rattle.iec_tree.specs.declared.elementary.Elementary.{Elementary}
use Rattle.iec_tree.specs.declared.elementary.Elementary.TheVariants as elementary
use Rattle.iec_tree.specs.declared.elementary.TheConstants.{ELEMENTARY}

-- how each is written in capitals
unfoldable pub elementary_text : Elementary → List ℕ
elementary_text elementary.Bool = codes "BOOL"
elementary_text elementary.Int = codes "INT"
elementary_text elementary.Dint = codes "DINT"
elementary_text elementary.Lreal = codes "LREAL"
elementary_text elementary.Time = codes "TIME"

-- how it is written with `REAL` for `LREAL`
unfoldable pub real_text : Elementary → List ℕ
real_text elementary.Lreal = codes "REAL"
real_text e = elementary_text e

-- a type is written so, in any case of letters
unfoldable pub is_written : List ℕ → Elementary → Bool
is_written name e =
    str_eq_ignore_ascii_case (elementary_text e) name || str_eq_ignore_ascii_case (real_text e) name

-- the one of this name
unfoldable pub elementary_named : List ℕ → Option Elementary
elementary_named name = find (is_written name) ELEMENTARY
