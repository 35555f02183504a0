-- The numbers that words write. This project's profile.
use Rattle.std.specs.Prelude.{ℕ, Bool, false, not, ◌^◌, ◌&&◌, nat_eq, nat_le, nat_lt, if◌then◌else◌, Option, Some, None, List, [], ◌∷◌, length}
use Rattle.std.specs.Str.Parse.{digits_value}
use Rattle.fixed_units.specs.Numbers.{is_digits}

-- one decimal digit or more, at most this many
abbrev pub is_number : ℕ → List ℕ → Bool
is_number most word = is_digits word && nat_le (length word) most

-- a seed: a number of one to ten digits below 2^32
unfoldable pub seed_in : List ℕ → Option ℕ
seed_in word =
    if is_number 10 word && nat_lt (digits_value 10 word) (2 ^ 32)
    then Some (digits_value 10 word) else None

-- after how many events a standby takes over: a number of one to seven digits
unfoldable pub cut_in : List ℕ → Option ℕ
cut_in word = if is_number 7 word then Some (digits_value 10 word) else None

-- whether the first byte is the digit 0
abbrev pub leads_with_zero : List ℕ → Bool
leads_with_zero [] = false
leads_with_zero (c ∷ cs) = nat_eq c 48

-- how many workers there may be: 1 to 16
abbrev pub workers_of : ℕ → Option ℕ
workers_of n = if nat_le 1 n && nat_le n 16 then Some n else None

-- a number of workers: 1 to 16 without a leading zero
unfoldable pub workers_in : List ℕ → Option ℕ
workers_in word =
    if is_number 2 word && not (leads_with_zero word)
    then workers_of (digits_value 10 word) else None
