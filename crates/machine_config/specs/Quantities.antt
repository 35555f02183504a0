-- Quantities of a configuration, in internal units: a user unit is 10^9 of them. This project's
-- profile.
use Rattle.std.specs.Prelude.{ℕ, ◌*◌, ℤ, pos, ◌*ℤ◌, unsigned_abs, nat_le, if◌then◌else◌, Option, Some, None, Result, Ok, Err, List}
use Rattle.std.specs.List.{after_first, before_first, list_any}
use Rattle.line_text.specs.Numbers.{is_colon}
use Rattle.line_text.specs.Reading.{◌>>=◌}
use Rattle.line_text.specs.Rules.{broken_unless}
use Rattle.machine_words.specs.Units.{decimal_units}
use Rattle.toml.specs.Data.{Data, integer, string, Members}
use Rattle.machine_config.specs.Keys.{value_at}
use Rattle.machine_config.specs.declared.key.Key.{Key}
use Rattle.machine_config.specs.RuleNumbers.{no_quantity}

-- a whole number of user units, of at most 10^18 internal units
unfoldable pub whole_units : ℤ → Result ℤ ℕ
whole_units z =
    if nat_le (unsigned_abs z * 1000000000) 1000000000000000000 then Ok (z *ℤ pos 1000000000) else Err no_quantity

-- a quantity: a text, which is a decimal number, or an integer
abbrev pub quantity_in : Option Data → Result ℤ ℕ
quantity_in (Some (string text)) = decimal_units no_quantity text
quantity_in (Some (integer z)) = whole_units z
quantity_in _ = Err no_quantity

-- a quantity, or another where it is left out
abbrev pub quantity_in_or : ℤ → Option Data → Result ℤ ℕ
quantity_in_or other None = Ok other
quantity_in_or other (Some d) = quantity_in (Some d)

-- the quantity under a key
unfoldable pub quantity_at : Key → Members → Result ℤ ℕ
quantity_at k table = quantity_in (value_at k table)

-- the quantity under a key, or another where it is left out
unfoldable pub quantity_or : ℤ → Key → Members → Result ℤ ℕ
quantity_or other k table = quantity_in_or other (value_at k table)

-- the point of two quantities
unfoldable pub point_at : List ℕ → List ℕ → Result (ℤ × ℤ) ℕ
point_at x y = do
  there ← decimal_units no_quantity x
  above ← decimal_units no_quantity y
  Ok (there, above)

-- a point X:Y, the quantities before the first colon and after it
unfoldable pub point_of : List ℕ → Result (ℤ × ℤ) ℕ
point_of text = do
  _ ← broken_unless (list_any is_colon text) no_quantity
  point_at (before_first is_colon text) (after_first is_colon text)
