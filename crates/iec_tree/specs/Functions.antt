-- The standard functions. IEC 61131-3.
use Rattle.std.specs.Prelude.{ℕ, codes, Bool, ◌||◌, Option, List}
use Rattle.std.specs.List.{find}
use Rattle.std.specs.Str.{str_eq_ignore_ascii_case}
use Rattle.iec_tree.specs.declared.function.Function.{Function}
use Rattle.iec_tree.specs.declared.function.Function.TheVariants as function
use Rattle.iec_tree.specs.declared.function.TheConstants.{FUNCTIONS}

-- how each is written in capitals
unfoldable pub function_text : Function → List ℕ
function_text function.Abs = codes "ABS"
function_text function.Min = codes "MIN"
function_text function.Max = codes "MAX"
function_text function.Limit = codes "LIMIT"
function_text function.Sel = codes "SEL"
function_text function.IntToDint = codes "INT_TO_DINT"
function_text function.IntToLreal = codes "INT_TO_LREAL"
function_text function.DintToLreal = codes "DINT_TO_LREAL"
function_text function.DintToInt = codes "DINT_TO_INT"
function_text function.LrealToDint = codes "LREAL_TO_DINT"
function_text function.LrealToInt = codes "LREAL_TO_INT"
function_text function.TimeToDint = codes "TIME_TO_DINT"
function_text function.DintToTime = codes "DINT_TO_TIME"
function_text function.BoolToInt = codes "BOOL_TO_INT"
function_text function.BoolToDint = codes "BOOL_TO_DINT"

-- how it is written with `REAL` for `LREAL`
unfoldable pub real_text : Function → List ℕ
real_text function.IntToLreal = codes "INT_TO_REAL"
real_text function.DintToLreal = codes "DINT_TO_REAL"
real_text function.LrealToDint = codes "REAL_TO_DINT"
real_text function.LrealToInt = codes "REAL_TO_INT"
real_text f = function_text f

-- a function is written so, in any case of letters
unfoldable pub is_written : List ℕ → Function → Bool
is_written name f =
    str_eq_ignore_ascii_case (function_text f) name || str_eq_ignore_ascii_case (real_text f) name

-- the one of this name
unfoldable pub function_named : List ℕ → Option Function
function_named name = find (is_written name) FUNCTIONS
