-- The marks that part the keys and values of a text, as they stand outside strings and comments. TOML
-- 1.1, "Comment", "String"; the bounds are this project's profile. A configuration has at most 330
-- marks, with each item in a table of its own that has each of its keys, and 82,000 commas.
use Rattle.std.specs.Prelude.{ℕ, ◌+◌, ◌==◌, ◌&&◌, ◌||◌, Bool, true, false, nat_lt, if◌then◌else◌, Option, Some, None, List, [], ◌∷◌}
use Rattle.machine_config.specs.declared.mark.Scan.{Scan}
use Rattle.machine_config.specs.declared.mark.Spot.{Spot}
use Rattle.machine_config.specs.declared.mark.Spot.TheVariants as spot

-- ---- where the next byte stands after a byte b; # is 35, " is 34, ' is 39, \ is 92

-- outside strings and comments
abbrev pub plain_after : ℕ → Spot
plain_after b =
    if b == 35 then spot.Comment
    else if (b == 34) || (b == 39) then spot.Opened b else spot.Plain

-- in a comment, which ends with its line
abbrev pub comment_after : ℕ → Spot
comment_after b = if b == 10 then spot.Plain else spot.Comment

-- in a string of one line with the quote q. In a string with " a backslash takes the next byte
abbrev pub short_after : ℕ → ℕ → Spot
short_after q b =
    if (b == q) || (b == 10) then spot.Plain
    else if (b == 92) && (q == 34) then spot.Escaped q else spot.Inside q

-- in a string of three quotes q
abbrev pub long_after : ℕ → ℕ → Spot
long_after q b =
    if b == q then spot.Closing q
    else if (b == 92) && (q == 34) then spot.LongEscaped q else spot.Long q

-- one of these, where b isn't q
abbrev pub unless_quote : ℕ → ℕ → Spot → Spot → Spot
unless_quote q b quoted other = if b == q then quoted else other

-- at each spot
unfoldable pub spot_after : Spot → ℕ → Spot
spot_after spot.Plain b = plain_after b
spot_after spot.Comment b = comment_after b
spot_after (spot.Opened q) b = unless_quote q b (spot.OpenedTwice q) (short_after q b)
spot_after (spot.OpenedTwice q) b = unless_quote q b (spot.Long q) (plain_after b)
spot_after (spot.Inside q) b = short_after q b
spot_after (spot.Escaped q) b = spot.Inside q
spot_after (spot.Long q) b = long_after q b
spot_after (spot.LongEscaped q) b = spot.Long q
spot_after (spot.Closing q) b = unless_quote q b (spot.ClosingTwice q) (long_after q b)
spot_after (spot.ClosingTwice q) b = unless_quote q b (spot.Closed q) (long_after q b)
spot_after (spot.Closed q) b = unless_quote q b (spot.ClosedTwice q) (plain_after b)
spot_after (spot.ClosedTwice q) b = unless_quote q b spot.Plain (plain_after b)

-- ---- marks and commas

-- a mark or a comma after which this spot comes stood outside strings and comments
abbrev pub is_outside : Spot → Bool
is_outside spot.Plain = true
is_outside _ = false

-- `[`, `{`, `=` and `.` are marks
abbrev pub is_mark : ℕ → Bool
is_mark b = (b == 91) || (b == 123) || (b == 61) || (b == 46)

-- a count, and one more where this holds
abbrev pub count_after : Bool → ℕ → ℕ
count_after holds count = if holds then count + 1 else count

-- the line after a byte
abbrev pub line_after : ℕ → ℕ → ℕ
line_after line b = if b == 10 then line + 1 else line

-- what was gone over, and a byte more
unfoldable pub scan_after : Scan → ℕ → Scan
scan_after s b = record {
  spot = spot_after s.spot b;
  line = line_after s.line b;
  marks = count_after (is_outside (spot_after s.spot b) && is_mark b) s.marks;
  commas = count_after (is_outside (spot_after s.spot b) && (b == 44)) s.commas;
}

-- there are at most 1,000 marks and 100,000 commas
abbrev pub is_crowded : Scan → Bool
is_crowded s = nat_lt 1000 s.marks || nat_lt 100000 s.commas

-- the line of the first byte with which there are too many
abbrev pub crowded_from : Scan → List ℕ → Option ℕ
crowded_from s [] = None
crowded_from s (b ∷ text) =
    if is_crowded (scan_after s b) then Some s.line else crowded_from (scan_after s b) text

-- of a text
unfoldable pub crowded_line : List ℕ → Option ℕ
crowded_line text =
    crowded_from (record { spot = spot.Plain; line = 1; marks = 0; commas = 0 }) text
