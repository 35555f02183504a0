-- What each operation makes of two values. IEC 61131-3 section 6.6.2.5 (functions of operators), in
-- this project's profile.
use Rattle.std.specs.Prelude.{ℤ, pos, ◌+ℤ◌, ◌-ℤ◌, ◌*ℤ◌, ◌^◌, int_lt, int_le, not, ◌&&◌, ◌||◌, Bool, if◌then◌else◌, Option, Some, None}
use Rattle.std.specs.Ordering.{int_eq}
use Rattle.std.specs.Int.{int_wrap, int_min, int_max, w32}
use Rattle.iec_tree.specs.declared.elementary.Elementary.{Elementary}
use Rattle.iec_tree.specs.declared.elementary.Elementary.TheVariants as type
use Rattle.iec_values.specs.Numbers.{quotient, remainder, nearest}
use Rattle.iec_values.specs.Truths.{truth_of, is_true}
use Rattle.iec_values.specs.declared.operations.Operation.{Operation}
use Rattle.iec_values.specs.declared.operations.Operation.TheVariants.{Or, Xor, And, Equal, Different, Below, AtMost, Above, AtLeast, DintPlus, DintMinus, DintTimes, DintOver, DintMod, LrealPlus, LrealMinus, LrealTimes, LrealOver, TimePlus, TimeMinus, TimeTimes, TimeOver, Least, Greatest}

-- one of two truths holds, and not both
abbrev pub either_of : Bool → Bool → Bool
either_of a b = if a then not b else b

-- the value of an operation: DINTs wrap at 32 bits, LREALs and TIMEs end at their bounds, all
-- quotients are toward zero, and a quotient by 0 is 0
abbrev pub operation_value : Operation → ℤ → ℤ → ℤ
operation_value Or a b = truth_of (is_true a || is_true b)
operation_value Xor a b = truth_of (either_of (is_true a) (is_true b))
operation_value And a b = truth_of (is_true a && is_true b)
operation_value Equal a b = truth_of (int_eq a b)
operation_value Different a b = truth_of (not (int_eq a b))
operation_value Below a b = truth_of (int_lt a b)
operation_value AtMost a b = truth_of (int_le a b)
operation_value Above a b = truth_of (int_lt b a)
operation_value AtLeast a b = truth_of (int_le b a)
operation_value DintPlus a b = int_wrap w32 (a +ℤ b)
operation_value DintMinus a b = int_wrap w32 (a -ℤ b)
operation_value DintTimes a b = int_wrap w32 (a *ℤ b)
operation_value DintOver a b = int_wrap w32 (quotient a b)
operation_value DintMod a b = int_wrap w32 (remainder a b)
operation_value LrealPlus a b = nearest type.Lreal (a +ℤ b)
operation_value LrealMinus a b = nearest type.Lreal (a -ℤ b)
operation_value LrealTimes a b = nearest type.Lreal (quotient (a *ℤ b) (pos (10 ^ 9)))
operation_value LrealOver a b = nearest type.Lreal (quotient (a *ℤ pos (10 ^ 9)) b)
operation_value TimePlus a b = nearest type.Time (a +ℤ b)
operation_value TimeMinus a b = nearest type.Time (a -ℤ b)
operation_value TimeTimes a b = nearest type.Time (a *ℤ b)
operation_value TimeOver a b = nearest type.Time (quotient a b)
operation_value Least a b = int_min a b
operation_value Greatest a b = int_max a b

-- the type of which an operation makes values; the least and the greatest are of their operands'
abbrev pub operation_type : Operation → Option Elementary
operation_type Or = Some type.Bool
operation_type Xor = Some type.Bool
operation_type And = Some type.Bool
operation_type Equal = Some type.Bool
operation_type Different = Some type.Bool
operation_type Below = Some type.Bool
operation_type AtMost = Some type.Bool
operation_type Above = Some type.Bool
operation_type AtLeast = Some type.Bool
operation_type LrealPlus = Some type.Lreal
operation_type LrealMinus = Some type.Lreal
operation_type LrealTimes = Some type.Lreal
operation_type LrealOver = Some type.Lreal
operation_type TimePlus = Some type.Time
operation_type TimeMinus = Some type.Time
operation_type TimeTimes = Some type.Time
operation_type TimeOver = Some type.Time
operation_type Least = None
operation_type Greatest = None
operation_type o = Some type.Dint
