-- Numbers as operands. IEC 61131-3 section 6.3 (literals); their ranges and their types by their
-- values are this project's.
use Rattle.std.specs.Prelude.{ℕ, nat_le, ℤ, pos, neg_ℤ, int_le, ◌&&◌, Bool, true, false, if◌then◌else◌, Option, Some, None}
use Rattle.iec_operands.specs.declared.number.Literal.{Literal}
use Rattle.iec_operands.specs.declared.operand.Operand.TheVariants.{Value}
use Rattle.iec_tokens.specs.declared.token.Number.{Number}
use Rattle.iec_tokens.specs.declared.token.Number.TheVariants as number
use Rattle.iec_tree.specs.declared.elementary.Elementary.{Elementary}
use Rattle.iec_tree.specs.declared.elementary.Elementary.TheVariants as type

-- a size with its sign
abbrev pub signed : Bool → ℤ → ℤ
signed negative size = if negative then neg_ℤ size else size

-- a number of a type in its range
abbrev pub in_range : Elementary → ℤ → Literal
in_range t z = record { operand = Value t z; fits = true }

-- what stands for a number of a type beyond its range
abbrev pub beyond : Elementary → Literal
beyond t = record { operand = Value t (pos 0); fits = false }

-- a whole number: an INT where it is one, so that it may stand with an INT, and else a DINT
unfoldable pub whole : ℤ → Literal
whole z =
    if int_le (neg_ℤ (pos 32768)) z && int_le z (pos 32767) then in_range type.Int z
    else if int_le (neg_ℤ (pos 2147483648)) z && int_le z (pos 2147483647)
    then in_range type.Dint z else beyond type.Dint

abbrev pub whole_sized : Bool → Option ℕ → Literal
whole_sized negative (Some n) = whole (signed negative (pos n))
whole_sized negative None = beyond type.Dint

-- a number of this size, up to the greatest of its type that may be written
unfoldable pub up_to : ℕ → Elementary → Bool → ℕ → Literal
up_to most t negative n = if nat_le n most then in_range t (signed negative (pos n)) else beyond t

abbrev pub decimal_sized : Bool → Option ℕ → Literal
decimal_sized negative (Some n) = up_to 9000000000000000000 type.Lreal negative n
decimal_sized negative None = beyond type.Lreal

abbrev pub time_sized : Bool → Option ℕ → Literal
time_sized negative (Some n) = up_to 1000000000000000 type.Time negative n
time_sized negative None = beyond type.Time

-- a number with its sign
unfoldable pub literal_of : Bool → Number → Literal
literal_of negative (number.Whole n) = whole_sized negative n
literal_of negative (number.Decimal n) = decimal_sized negative n
literal_of negative (number.Time n) = time_sized negative n
