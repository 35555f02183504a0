-- How a value is changed where it widens, and where it is stored. IEC 61131-3, in this project's
-- profile.
use Rattle.std.specs.Prelude.{if◌then◌else◌, Option, Some, None}
use Rattle.iec_tree.specs.declared.elementary.Elementary.{Elementary}
use Rattle.iec_tree.specs.declared.elementary.Elementary.TheVariants.{Int, Dint, Lreal}
use Rattle.iec_values.specs.Types.{widens}
use Rattle.iec_values.specs.declared.changes.Change.{Change}
use Rattle.iec_values.specs.declared.changes.Change.TheVariants.{Keep, ToInt, DintToLreal}

-- how a value that widens is changed: a whole number becomes an LREAL, all else stays
abbrev pub widened : Elementary → Elementary → Change
widened Int Lreal = DintToLreal
widened Dint Lreal = DintToLreal
widened from to = Keep

-- how a value that is stored is changed: an INT wraps to 16 bits, all else widens
abbrev pub stored : Elementary → Elementary → Change
stored Int Int = ToInt
stored from to = widened from to

-- the change of a value that widens, if it does
abbrev pub widening_of : Elementary → Elementary → Option Change
widening_of from to = if widens from to then Some (widened from to) else None

-- the change of a value that is stored, if it widens
abbrev pub storing_of : Elementary → Elementary → Option Change
storing_of from to = if widens from to then Some (stored from to) else None
