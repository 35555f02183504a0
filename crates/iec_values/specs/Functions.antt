-- The functions that there are for arguments of each type, and what they give. IEC 61131-3 section
-- 6.6.2.5 (standard functions), in this project's profile.
use Rattle.std.specs.Prelude.{ℕ, ℤ, pos, Bool, if◌then◌else◌, nat_le, ◌==◌, Option, Some, None, option_map, List, [], ◌∷◌, length, slice_index_or}
use Rattle.std.specs.Int.{int_min, int_max}
use Rattle.std.specs.List.{fold, list_all}
use Rattle.std.specs.Option.{option_and_then}
use Rattle.iec_tree.specs.declared.elementary.Elementary.{Elementary}
use Rattle.iec_tree.specs.declared.elementary.Elementary.TheVariants.{Bool as BOOL, Int, Dint, Lreal, Time}
use Rattle.iec_tree.specs.declared.function.Function.{Function}
use Rattle.iec_tree.specs.declared.function.Function.TheVariants.{Abs, Min, Max, Limit, Sel, IntToDint, IntToLreal, DintToLreal, DintToInt, LrealToDint, LrealToInt, TimeToDint, DintToTime, BoolToInt, BoolToDint}
use Rattle.iec_values.specs.Changes.{change_value}
use Rattle.iec_values.specs.Operations.{operation_value}
use Rattle.iec_values.specs.Truths.{is_true}
use Rattle.iec_values.specs.Types.{common_of, widens}
use Rattle.iec_values.specs.declared.changes.Change.{Change}
use Rattle.iec_values.specs.declared.changes.Change.TheVariants as change
use Rattle.iec_values.specs.declared.functions.Call.{Call}
use Rattle.iec_values.specs.declared.functions.Manner.{Manner}
use Rattle.iec_values.specs.declared.functions.Manner.TheVariants as manner
use Rattle.iec_values.specs.declared.operations.Operation.TheVariants as operation

-- a function takes this many arguments
abbrev pub takes : Function → ℕ → Bool
takes Min n = nat_le 2 n
takes Max n = nat_le 2 n
takes Limit n = n == 3
takes Sel n = n == 3
takes f n = n == 1

-- the type of a conversion's parameter
abbrev pub parameter_of : Function → Option Elementary
parameter_of IntToDint = Some Int
parameter_of IntToLreal = Some Int
parameter_of DintToLreal = Some Dint
parameter_of DintToInt = Some Dint
parameter_of DintToTime = Some Dint
parameter_of LrealToDint = Some Lreal
parameter_of LrealToInt = Some Lreal
parameter_of TimeToDint = Some Time
parameter_of BoolToInt = Some BOOL
parameter_of BoolToDint = Some BOOL
parameter_of f = None

-- a type, where all of several widen to it
unfoldable pub widened_to : List Elementary → Elementary → Option Elementary
widened_to ts t = if list_all (λ s. widens s t) ts then Some t else None

-- the common type of what SEL chooses from, behind a BOOL
unfoldable pub chosen_of : List Elementary → Option Elementary
chosen_of (BOOL ∷ ts) = common_of ts
chosen_of ts = None

-- the type to which arguments of these types widen; of SEL, those behind the first
unfoldable pub argument_of : Function → List Elementary → Option Elementary
argument_of Abs ts = common_of ts
argument_of Min ts = common_of ts
argument_of Max ts = common_of ts
argument_of Limit ts = common_of ts
argument_of Sel ts = chosen_of ts
argument_of f ts = option_and_then (widened_to ts) (parameter_of f)

-- how a conversion makes its value: an INT that is given wraps to 16 bits
abbrev pub conversion_of : Function → Change
conversion_of IntToDint = change.ToInt
conversion_of IntToLreal = change.IntToLreal
conversion_of DintToLreal = change.DintToLreal
conversion_of DintToInt = change.ToInt
conversion_of DintToTime = change.DintToTime
conversion_of LrealToDint = change.LrealToDint
conversion_of LrealToInt = change.LrealToInt
conversion_of TimeToDint = change.TimeToDint
conversion_of f = change.Truth

-- a manner that is for arguments of any type but BOOL
abbrev pub ordered : Elementary → Manner → Option Manner
ordered BOOL m = None
ordered t m = Some m

-- how a function makes its value of arguments of one type, if it is for that type
abbrev pub manner_of : Function → Elementary → Option Manner
manner_of Abs Int = Some (manner.Change change.DintAbs)
manner_of Abs Dint = Some (manner.Change change.DintAbs)
manner_of Abs Lreal = Some (manner.Change change.LrealAbs)
manner_of Abs t = None
manner_of Min t = ordered t (manner.Join operation.Least)
manner_of Max t = ordered t (manner.Join operation.Greatest)
manner_of Limit t = ordered t manner.Limit
manner_of Sel t = Some manner.Select
manner_of f t = Some (manner.Change (conversion_of f))

-- the type of a function's value, by that of its arguments
abbrev pub result_of : Function → Elementary → Elementary
result_of IntToDint t = Dint
result_of LrealToDint t = Dint
result_of TimeToDint t = Dint
result_of BoolToDint t = Dint
result_of DintToInt t = Int
result_of LrealToInt t = Int
result_of BoolToInt t = Int
result_of IntToLreal t = Lreal
result_of DintToLreal t = Lreal
result_of DintToTime t = Time
result_of f t = t

-- what a function makes of arguments of one type
unfoldable pub made_of : Function → Elementary → Option Call
made_of f t = option_map
    (λ (m : Manner). record { manner = m; arguments = t; result = result_of f t }) (manner_of f t)

-- what a function makes of arguments by their types: how, the type to which they widen, and that
-- of its value
unfoldable pub call_of : Function → List Elementary → Option Call
call_of f ts =
    if takes f (length ts) then option_and_then (made_of f) (argument_of f ts) else None

-- the value of an argument
unfoldable pub argument : List ℤ → ℕ → ℤ
argument xs i = slice_index_or xs i (pos 0)

-- the first value joined to the second, then to the third and so on
unfoldable pub folded : (ℤ → ℤ → ℤ) → List ℤ → ℤ
folded join [] = pos 0
folded join (x ∷ xs) = fold join x xs

-- the value that a function makes of its arguments: LIMIT has them as least, value, greatest, and
-- SEL as choice, value if FALSE, value if TRUE
abbrev pub manner_value : Manner → List ℤ → ℤ
manner_value (manner.Change c) xs = change_value c (argument xs 0)
manner_value (manner.Join o) xs = folded (operation_value o) xs
manner_value manner.Limit xs = int_min (int_max (argument xs 1) (argument xs 0)) (argument xs 2)
manner_value manner.Select xs = if is_true (argument xs 0) then argument xs 2 else argument xs 1
