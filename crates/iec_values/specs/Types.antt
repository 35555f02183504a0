-- The values of the elementary types, and which types widen to which. IEC 61131-3 section 6.4
-- (data types), in this project's profile.
use Rattle.std.specs.Prelude.{ℤ, pos, neg_ℤ, ◌≤ℤ◌, ◌-◌, ◌^◌, ◌*ℤ◌, Bool, true, false, Option, List}
use Rattle.std.specs.List.{find, list_all}
use Rattle.iec_tree.specs.declared.elementary.Elementary.{Elementary}
use Rattle.iec_tree.specs.declared.elementary.Elementary.TheVariants.{Bool as BOOL, Int, Dint, Lreal, Time}
use Rattle.iec_tree.specs.declared.elementary.TheConstants.{ELEMENTARY}

-- the least value of a type: a BOOL is 0 or 1, an LREAL is in billionths, a TIME in microseconds
abbrev pub least_of : Elementary → ℤ
least_of BOOL = pos 0
least_of Int = neg_ℤ (pos (2 ^ 15))
least_of Dint = neg_ℤ (pos (2 ^ 31))
least_of Lreal = neg_ℤ (pos (2 ^ 63 - 1))
least_of Time = neg_ℤ (pos (10 ^ 15))

-- the greatest value of a type
abbrev pub greatest_of : Elementary → ℤ
greatest_of BOOL = pos 1
greatest_of Int = pos (2 ^ 15 - 1)
greatest_of Dint = pos (2 ^ 31 - 1)
greatest_of Lreal = pos (2 ^ 63 - 1)
greatest_of Time = pos (10 ^ 15)

-- a number is a value of a type
pub record Holds (t : Elementary) (z : ℤ) : Type 0 where
  pub above : least_of t ≤ℤ z
  pub below : z ≤ℤ greatest_of t

-- values of a type may stand where one of another type is asked for
abbrev pub widens : Elementary → Elementary → Bool
widens BOOL BOOL = true
widens Int Int = true
widens Int Dint = true
widens Int Lreal = true
widens Dint Dint = true
widens Dint Lreal = true
widens Lreal Lreal = true
widens Time Time = true
widens from to = false

-- the common type of several: the first, from BOOL to TIME, to which all of them widen
unfoldable pub common_of : List Elementary → Option Elementary
common_of ts = find (λ t. list_all (λ s. widens s t) ts) ELEMENTARY

-- the type in which expressions of a type are computed: INTs in 32 bits
abbrev pub computed_of : Elementary → Elementary
computed_of Int = Dint
computed_of t = t

-- what a value of a type is as a number, in billionths
abbrev pub billionths_of : Elementary → ℤ → ℤ
billionths_of Int z = z *ℤ pos (10 ^ 9)
billionths_of Dint z = z *ℤ pos (10 ^ 9)
billionths_of t z = z
