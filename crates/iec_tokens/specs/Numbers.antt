-- Numbers at the front of a text. IEC 61131-3; their ranges are this project's.
use Rattle.std.specs.Prelude.{ℕ, ◌+◌, ◌-◌, ◌*◌, ◌^◌, ◌==◌, ◌||◌, not, nat_le, if◌then◌else◌, Option, Some, None, List, [], ◌∷◌, drop, length}
use Rattle.iec_tokens.specs.Digits.{count_of, digits_at, size_of}
use Rattle.iec_tokens.specs.declared.digits.Radix.{Radix}
use Rattle.iec_tokens.specs.declared.digits.Radix.TheVariants as radix
use Rattle.iec_tokens.specs.declared.number.Written.{Written}
use Rattle.iec_tokens.specs.declared.token.Number.TheVariants as number
use Rattle.iec_tokens.specs.declared.token.Token.{Token}
use Rattle.iec_tokens.specs.declared.token.Token.TheVariants as token

-- the digits after a point at the front
unfoldable pub fraction_at : List ℕ → List ℕ
fraction_at [] = []
fraction_at (b ∷ text) = if b == 46 then digits_at radix.Decimal text else []

-- how many bytes a number takes: without digits after a point it takes none
abbrev pub length_of : ℕ → ℕ → ℕ
length_of whole fraction = if fraction == 0 then whole else whole + 1 + fraction

-- the number that these digits write before a point and after it
abbrev pub written_so : Radix → List ℕ → List ℕ → Written
written_so r whole fraction = record {
  whole = size_of r whole;
  fraction = size_of radix.Decimal fraction;
  places = count_of fraction;
  length = length_of (length whole) (length fraction);
}

-- the number at the front, and a point with a digit after it belongs to it
unfoldable pub written_at : Radix → List ℕ → Written
written_at r text =
    written_so r (digits_at r text) (fraction_at (drop (length (digits_at r text)) text))

-- a number of at most nine places, in billionths
unfoldable pub billionths_of : Written → ℕ
billionths_of w = w.whole * 10 ^ 9 + w.fraction * 10 ^ (9 - w.places)

-- a number up to the greatest that may stand there
abbrev pub up_to : ℕ → ℕ → Option ℕ
up_to most n = if nat_le n most then Some n else None

-- a whole number, or a decimal number of at most nine places
unfoldable pub number_token : Written → Token
number_token w =
    if w.places == 0 then token.Number (number.Whole (up_to 2147483648 w.whole))
    else if nat_le w.places 9
    then token.Number (number.Decimal (up_to (9 * 10 ^ 18) (billionths_of w)))
    else token.Wrong

-- the whole number whose digits stand after `16#`, with no point
unfoldable pub hexadecimal_token : Written → Token
hexadecimal_token w =
    if (w.length == 0) || not (w.places == 0) then token.Wrong
    else token.Number (number.Whole (up_to 2147483647 w.whole))
