-- Places and rates in the units of a text: internal ones, or user units of 10^9 internal ones. This
-- project's profile.
use Rattle.std.specs.Prelude.{ℕ, Bool, ◌≤◌, ℤ, pos, ◌&&◌, not, if◌then◌else◌, Result, Ok, Err, List}
use Rattle.std.specs.Ordering.{int_eq}
use Rattle.std.specs.Str.{is_utf8}
use Rattle.fixed_units.specs.Numbers.{reading_of}
use Rattle.fixed_units.specs.PerCycle.{per_cycle_of, per_cycle_squared_of, per_cycle_cubed_of}
use Rattle.fixed_units.specs.declared.reading.UnitFault.{UnitFault}
use Rattle.line_text.specs.Reading.{◌>>=◌}
use Rattle.motion_history.specs.declared.refused.TraceVersion.TheVariants.{One, Two, Three}
use Rattle.machine_words.specs.Numbers.{number}
use Rattle.machine_words.specs.RuleNumbers.{no_value}
use Rattle.machine_words.specs.declared.units.Units.{Units}
use Rattle.machine_words.specs.declared.units.Units.TheVariants.{Internal, User}

-- the length of a cycle in microseconds, 100 to 100,000
pub record IsCycle (cycle_us : ℕ) : Type 0 where
  pub shortest : 100 ≤ cycle_us
  pub longest : cycle_us ≤ 100000

-- rates per second are reported for a cycle of such a length
abbrev pub IsUnits : Units → Type 0
IsUnits Internal = Unit {0}
IsUnits (User cycle_us version) = IsCycle cycle_us

-- a fault of a decimal number breaks the rule
abbrev pub units_or_broken : ℕ → Result ℤ UnitFault → Result ℤ ℕ
units_or_broken rule (Ok units) = Ok units
units_or_broken rule (Err fault) = Err rule

-- a decimal number of user units, in internal units
unfoldable pub decimal_units : ℕ → List ℕ → Result ℤ ℕ
decimal_units rule text = units_or_broken rule (reading_of text)

-- a word is a quantity where it is a decimal number
unfoldable pub quantity : List ℕ → Result ℤ ℕ
quantity word = if is_utf8 word then decimal_units no_value word else Err no_value

-- a place, in internal units
unfoldable pub place_in : Units → List ℕ → Result ℤ ℕ
place_in Internal word = number word
place_in (User cycle_us version) word = quantity word

-- a velocity, in internal units per cycle
unfoldable pub velocity_in : Units → List ℕ → Result ℤ ℕ
velocity_in Internal word = number word
velocity_in (User cycle_us version) word = do
  units ← quantity word
  Ok (per_cycle_of units cycle_us)

-- an acceleration, in internal units per cycle squared
unfoldable pub acceleration_in : Units → List ℕ → Result ℤ ℕ
acceleration_in Internal word = number word
acceleration_in (User cycle_us version) word = do
  units ← quantity word
  Ok (per_cycle_squared_of units cycle_us)

-- whether a jerk that isn't 0 would be rounded to 0
abbrev pub is_lost : ℤ → ℕ → Bool
is_lost units cycle_us = not (int_eq units (pos 0)) && int_eq (per_cycle_cubed_of units cycle_us) (pos 0)

-- a jerk, in internal units per cycle cubed. One that would be rounded to 0 is 1, so that it still
-- asks for a limit
abbrev pub jerk_of : ℤ → ℕ → ℤ
jerk_of units cycle_us = if is_lost units cycle_us then pos 1 else per_cycle_cubed_of units cycle_us

-- a jerk as a text gives it. Before version 3 a machine's units of time didn't count in it
unfoldable pub jerk_in : Units → List ℕ → Result ℤ ℕ
jerk_in Internal word = number word
jerk_in (User cycle_us Three) word = do
  units ← quantity word
  Ok (jerk_of units cycle_us)
jerk_in (User cycle_us One) word = quantity word
jerk_in (User cycle_us Two) word = quantity word
