-- Times. IEC 61131-3: one or more of number and unit, the units falling, and only the last number
-- may have a point. Their range is this project's.
use Rattle.std.specs.Prelude.{ℕ, ◌+◌, ◌*◌, ◌/◌, ◌%◌, ◌^◌, ◌==◌, ◌&&◌, ◌||◌, not, nat_le, nat_lt, codes, Bool, if◌then◌else◌, Option, Some, None, List, [], ◌∷◌, take, drop, length}
use Rattle.std.specs.List.{find}
use Rattle.std.specs.Option.{option_and_then, option_map}
use Rattle.std.specs.Str.{str_eq_ignore_ascii_case}
use Rattle.iec_tokens.specs.Digits.{begins}
use Rattle.iec_tokens.specs.Numbers.{billionths_of, written_at}
use Rattle.iec_tokens.specs.declared.digits.Radix.TheVariants as radix
use Rattle.iec_tokens.specs.declared.number.Written.{Written}
use Rattle.iec_tokens.specs.declared.time.TheConstants.{FALLING, UNITS}
use Rattle.iec_tokens.specs.declared.time.Duration.{Duration}
use Rattle.iec_tokens.specs.declared.time.Part.{Part}
use Rattle.iec_tokens.specs.declared.time.Unit.{Unit}
use Rattle.iec_tokens.specs.declared.time.Unit.TheVariants as unit
use Rattle.iec_tokens.specs.declared.token.Number.{Number}
use Rattle.iec_tokens.specs.declared.token.Number.TheVariants as number

-- how each unit is written
unfoldable pub unit_text : Unit → List ℕ
unit_text unit.Day = codes "d"
unit_text unit.Hour = codes "h"
unit_text unit.Minute = codes "m"
unit_text unit.Second = codes "s"
unit_text unit.Millisecond = codes "ms"
unit_text unit.Microsecond = codes "us"

-- the microseconds of each unit
unfoldable pub microseconds_of : Unit → ℕ
microseconds_of unit.Day = 86400000000
microseconds_of unit.Hour = 3600000000
microseconds_of unit.Minute = 60000000
microseconds_of unit.Second = 1000000
microseconds_of unit.Millisecond = 1000
microseconds_of unit.Microsecond = 1

-- a text begins with a word, in any case of letters
unfoldable pub begins_with : List ℕ → List ℕ → Bool
begins_with text word = str_eq_ignore_ascii_case (take (length word) text) word

-- the unit at the front, of two letters where there is such a one
unfoldable pub unit_at : List ℕ → Option Unit
unit_at text = find (λ u. begins_with text (unit_text u)) UNITS

-- a number in a unit
abbrev pub part_of : Written → Unit → Part
part_of w u = record {
  unit = u;
  amount = billionths_of w * microseconds_of u;
  whole = w.places == 0;
  length = w.length + length (unit_text u);
}

-- the number of at most nine places and its unit at the front
unfoldable pub part_at : List ℕ → Option Part
part_at text =
    if ((written_at radix.Decimal text).length == 0) || nat_lt 9 (written_at radix.Decimal text).places
    then None
    else option_map (part_of (written_at radix.Decimal text))
    (unit_at (drop (written_at radix.Decimal text).length text))

-- a part is in this unit
abbrev pub is_in : Unit → Part → Bool
is_in u p = microseconds_of p.unit == microseconds_of u

-- a part alone
abbrev pub alone : Part → Duration
alone p = record { amount = p.amount; length = p.length }

-- a part before others
abbrev pub before : Part → Duration → Duration
before p d = record { amount = p.amount + d.amount; length = p.length + d.length }

-- a part, and the time that follows it where a digit does: then its own number has no point
abbrev pub with_more : Part → List ℕ → Option Duration → Option Duration
with_more p text more =
    if not (begins radix.Decimal text) then Some (alone p)
    else if p.whole then option_map (before p) more else None

-- the time at the front whose parts are in these units, each at most once and in this order
abbrev pub duration_in : List Unit → List ℕ → Option Duration
duration_in [] text = None
duration_in (u ∷ units) text =
    option_and_then (λ p. if is_in u p
    then with_more p (drop p.length text) (duration_in units (drop p.length text))
    else duration_in units text) (part_at text)

-- a time in microseconds, where they are whole and at most 10^15
unfoldable pub time_of : ℕ → Option ℕ
time_of amount =
    if (amount % 10 ^ 9 == 0) && nat_le (amount / 10 ^ 9) (10 ^ 15) then Some (amount / 10 ^ 9)
    else None

-- the time at the front, and how many bytes it takes
unfoldable pub time_at : List ℕ → Option (Number × ℕ)
time_at text = option_map (λ d. (number.Time (time_of d.amount), d.length)) (duration_in FALLING text)

-- how many bytes `T#` or `TIME#` takes at the front of a time
unfoldable pub prefix_length : List ℕ → ℕ
prefix_length text =
    if begins_with text (codes "T#") then 2 else if begins_with text (codes "TIME#") then 5 else 0
