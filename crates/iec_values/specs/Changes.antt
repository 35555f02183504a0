-- What each change makes of one value. IEC 61131-3 section 6.6.2.5 (conversions and numerical
-- functions), in this project's profile.
use Rattle.std.specs.Prelude.{ℤ, pos, neg_ℤ, ◌*ℤ◌, ◌^◌, unsigned_abs, not, Option, Some, None}
use Rattle.std.specs.Int.{int_wrap, w16, w32}
use Rattle.iec_tree.specs.declared.elementary.Elementary.{Elementary}
use Rattle.iec_tree.specs.declared.elementary.Elementary.TheVariants as type
use Rattle.iec_values.specs.Numbers.{quotient, nearest, rounded}
use Rattle.iec_values.specs.Truths.{truth_of, is_true}
use Rattle.iec_values.specs.declared.changes.Change.{Change}
use Rattle.iec_values.specs.declared.changes.Change.TheVariants.{Keep, Truth, Not, ToInt, DintMinus, DintAbs, LrealMinus, LrealAbs, TimeMinus, IntToLreal, DintToLreal, LrealToDint, LrealToInt, TimeToDint, DintToTime}

-- the value of a change: a DINT counts 10^9 billionths for one, and 1000 microseconds for one
abbrev pub change_value : Change → ℤ → ℤ
change_value Keep z = z
change_value Truth z = truth_of (is_true z)
change_value Not z = truth_of (not (is_true z))
change_value ToInt z = int_wrap w16 z
change_value DintMinus z = int_wrap w32 (neg_ℤ z)
change_value DintAbs z = nearest type.Dint (pos (unsigned_abs z))
change_value LrealMinus z = nearest type.Lreal (neg_ℤ z)
change_value LrealAbs z = nearest type.Lreal (pos (unsigned_abs z))
change_value TimeMinus z = nearest type.Time (neg_ℤ z)
change_value IntToLreal z = nearest type.Lreal (int_wrap w16 z *ℤ pos (10 ^ 9))
change_value DintToLreal z = nearest type.Lreal (z *ℤ pos (10 ^ 9))
change_value LrealToDint z = nearest type.Dint (rounded z)
change_value LrealToInt z = nearest type.Int (rounded z)
change_value TimeToDint z = nearest type.Dint (quotient z (pos 1000))
change_value DintToTime z = nearest type.Time (z *ℤ pos 1000)

-- the type of which a change makes values; what is kept is of its own
abbrev pub change_type : Change → Option Elementary
change_type Keep = None
change_type Truth = Some type.Bool
change_type Not = Some type.Bool
change_type ToInt = Some type.Int
change_type LrealToInt = Some type.Int
change_type LrealMinus = Some type.Lreal
change_type LrealAbs = Some type.Lreal
change_type IntToLreal = Some type.Lreal
change_type DintToLreal = Some type.Lreal
change_type TimeMinus = Some type.Time
change_type DintToTime = Some type.Time
change_type c = Some type.Dint
