-- Decimal numbers as they are written, and the internal units that they stand for.
use Rattle.std.specs.Prelude.{◌≡◌, ℕ, ◌+◌, ◌-◌, ◌*◌, ◌^◌, ◌≤◌, Bool, true, false, not, ◌&&◌, if◌then◌else◌, ◌==◌, nat_lt, List, [], ◌∷◌, length, drop, ℤ, pos, neg_ℤ, Option, option_map, unwrap_or, position, Result, Ok, Err, IsTrue}
use Rattle.std.specs.List.{before_first, list_all}
use Rattle.std.specs.Option.{option_map_or}
use Rattle.std.specs.Char.{is_ascii_digit}
use Rattle.std.specs.Str.Parse.{digits_value}
use Rattle.fixed_units.specs.declared.reading.UnitFault.{UnitFault}
use Rattle.fixed_units.specs.declared.reading.UnitFault.TheVariants.{NotNumber, TooFine, TooLarge}

-- a minus stands first
abbrev pub is_negative : List ℕ → Bool
is_negative [] = false
is_negative (b ∷ bs) = b == 45

-- the text after its minus, or all of it where none stands first
abbrev pub without_minus : List ℕ → List ℕ
without_minus [] = []
without_minus (b ∷ bs) = if b == 45 then bs else b ∷ bs

-- the point between a whole number and its fraction
abbrev pub is_point : ℕ → Bool
is_point b = b == 46

-- what stands before the point, or all where there is none
unfoldable pub whole_of : List ℕ → List ℕ
whole_of number = before_first is_point number

-- what stands after the point, if there is one
unfoldable pub fraction_of : List ℕ → Option (List ℕ)
fraction_of number = option_map (λ place. drop (place + 1) number) (position is_point number)

-- one decimal digit or more
abbrev pub is_digits : List ℕ → Bool
is_digits ds = nat_lt 0 (length ds) && list_all is_ascii_digit ds

-- one digit or more, and where there is a point one or more after it; this project's profile
abbrev pub is_number : List ℕ → Bool
is_number number = is_digits (whole_of number) && option_map_or is_digits (fraction_of number) true

-- how many digits stand after the point
abbrev pub places_of : List ℕ → ℕ
places_of number = option_map_or length (fraction_of number) 0

-- the digits before the point and after it as billionths
unfoldable pub billionths_of : List ℕ → List ℕ → ℕ
billionths_of whole fraction =
    digits_value 10 whole * 10 ^ 9 + digits_value 10 fraction * 10 ^ (9 - length fraction)

-- a number without a sign in internal units, billionths of a user unit; this project's profile
abbrev pub size_of : List ℕ → ℕ
size_of number = billionths_of (whole_of number) (unwrap_or (fraction_of number) [])

-- the number of this size, below zero or not
abbrev pub with_sign : Bool → ℕ → ℤ
with_sign negative size = if negative then neg_ℤ (pos size) else pos size

-- a number in internal units
abbrev pub units_of : List ℕ → ℤ
units_of text = with_sign (is_negative text) (size_of (without_minus text))

-- the text is a number of at most nine places, and stands for this many internal units
pub record Spells (text : List ℕ) (units : ℤ) : Type 0 where
  pub number : IsTrue (is_number (without_minus text))
  pub places : places_of (without_minus text) ≤ 9
  pub value : units_of text ≡ units

-- what a number without a sign is read as: the first fault, or its size; this project's profile
unfoldable pub size_reading : List ℕ → Result ℕ UnitFault
size_reading number =
    if not (is_number number) then Err NotNumber
    else (if nat_lt 9 (places_of number) then Err TooFine
    else (if nat_lt (10 ^ 18) (size_of number) then Err TooLarge
    else Ok (size_of number)))

-- the sign before what was read
abbrev pub reading_with_sign : Bool → Result ℕ UnitFault → Result ℤ UnitFault
reading_with_sign negative (Ok size) = Ok (with_sign negative size)
reading_with_sign negative (Err fault) = Err fault

-- what a text is read as: a fault, or its internal units; this project's profile
unfoldable pub reading_of : List ℕ → Result ℤ UnitFault
reading_of text = reading_with_sign (is_negative text) (size_reading (without_minus text))

-- what the digits before the point and those after it are read as
unfoldable pub digits_reading : List ℕ → List ℕ → Result ℕ UnitFault
digits_reading whole fraction =
    if not (is_digits whole) then Err NotNumber
    else (if nat_lt 9 (length fraction) then Err TooFine
    else (if nat_lt (10 ^ 18) (billionths_of whole fraction) then Err TooLarge
    else Ok (billionths_of whole fraction)))
