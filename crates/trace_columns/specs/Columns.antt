-- The values of a trace's fields: a field has a value of its column exactly where it spells it as a
-- writer does. This project's profile.
use Rattle.std.specs.Prelude.{ℕ, ◌+◌, ◌-◌, ◌*◌, ◌^◌, ℤ, pos, neg_ℤ, int_le, Bool, true, false, ◌&&◌, ◌==◌, nat_le, if◌then◌else◌, unsigned_abs, Option, Some, None, List, [], ◌∷◌, drop, take}
use Rattle.std.specs.Fmt.{signed_decimal}
use Rattle.std.specs.List.{find, list_any, position}
use Rattle.std.specs.Str.{bytes_eq}
use Rattle.std.specs.Str.Parse.{signed_digits_value}
use Rattle.plc_types.specs.declared.axis_state.AxisState.{AxisState}
use Rattle.plc_types.specs.declared.drive.DriveState.{DriveState}
use Rattle.plc_types.specs.declared.outputs.Outputs.{Outputs}
use Rattle.plc_types.specs.declared.group.GroupState.{GroupState}
use Rattle.line_text.specs.Numbers.{◌>>=◌, is_colon}
use Rattle.motion_numbers.specs.declared.TheConstants.{MOST_NUMBER}
use Rattle.trace_columns.specs.Fields.{axis_state_text, drive_state_text, flag_text, group_state_text, outputs_text}
use Rattle.trace_columns.specs.declared.state.TheConstants.{AXIS_STATES, DRIVE_STATES, GROUP_STATES}

-- whether a number has 64 bits
abbrev pub is_wide : ℤ → Bool
is_wide z = int_le (neg_ℤ (pos (2 ^ 63))) z && int_le z (pos (2 ^ 63 - 1))

-- a number of 64 bits, in decimal without needless zeros, and without a plus
unfoldable pub wide_number_of : List ℕ → Option ℤ
wide_number_of text =
    let z = signed_digits_value 10 text in
    if is_wide z && bytes_eq (signed_decimal z) text then Some z else None

-- a number where it lies between two, both included
abbrev pub between : ℤ → ℤ → ℤ → Option ℤ
between least most z = if int_le least z && int_le z most then Some z else None

-- a number between two
unfoldable pub number_of : ℤ → ℤ → List ℕ → Option ℤ
number_of least most text = wide_number_of text >>= between least most

-- a number that is not negative, and its most
unfoldable pub unsigned_of : ℕ → ℕ → List ℕ → Option ℕ
unsigned_of least most text = number_of (pos least) (pos most) text >>= λ z. Some (unsigned_abs z)

-- a number that is an input or a limit: at most 10^18 in size
abbrev pub size_limited_of : List ℕ → Option ℤ
size_limited_of text = number_of (neg_ℤ (pos MOST_NUMBER)) (pos MOST_NUMBER) text

-- the parts before the first colon and after it
unfoldable pub halves_of : List ℕ → Option (List ℕ × List ℕ)
halves_of text = position is_colon text >>= λ colon. Some (take colon text, drop (colon + 1) text)

-- a point X:Y: the numbers before its first colon and after it
unfoldable pub point_of : List ℕ → Option (ℤ × ℤ)
point_of text =
    halves_of text >>= λ h. size_limited_of h.0 >>= λ x. size_limited_of h.1 >>= λ y. Some (x, y)

-- a truth value
unfoldable pub flag_of : List ℕ → Option Bool
flag_of text =
    if bytes_eq (flag_text true) text then Some true
    else if bytes_eq (flag_text false) text then Some false else None

-- the value of a hexadecimal digit in small letters
unfoldable pub hex_digit_of : ℕ → Option ℕ
hex_digit_of b =
    if nat_le 48 b && nat_le b 57 then Some (b - 48)
    else if nat_le 97 b && nat_le b 102 then Some (b - 87) else None

-- a word of four hexadecimal digits
unfoldable pub hex_of : List ℕ → Option ℕ
hex_of (a ∷ b ∷ c ∷ d ∷ []) =
    hex_digit_of a >>= λ w. hex_digit_of b >>= λ x. hex_digit_of c >>= λ y. hex_digit_of d >>= λ z.
    Some (w * 4096 + x * 256 + y * 16 + z)
hex_of _ = None

-- whether a letter stands in a text
abbrev pub has_letter : ℕ → List ℕ → Bool
has_letter letter text = list_any (λ b. b == letter) text

-- the outputs whose letters stand in a text, with the ErrorID
abbrev pub letters_of : List ℕ → ℕ → Outputs
letters_of text error_id = record {
  busy = has_letter 66 text;
  active = has_letter 65 text;
  done = has_letter 68 text;
  aborted = has_letter 67 text;
  error = has_letter 69 text;
  error_id = error_id;
  reached = has_letter 82 text;
}

-- the outputs that are true, by their letters in order, with the ErrorID
unfoldable pub outputs_of : List ℕ → ℕ → Option Outputs
outputs_of text error_id =
    if bytes_eq (outputs_text (letters_of text error_id)) text then Some (letters_of text error_id)
    else None

-- the state of an axis of this name
unfoldable pub axis_state_of : List ℕ → Option AxisState
axis_state_of name = find (λ s. bytes_eq (axis_state_text s) name) AXIS_STATES

-- the state of a group of this name
unfoldable pub group_state_of : List ℕ → Option GroupState
group_state_of name = find (λ s. bytes_eq (group_state_text s) name) GROUP_STATES

-- the state of a drive of this name
unfoldable pub drive_state_of : List ℕ → Option DriveState
drive_state_of name = find (λ s. bytes_eq (drive_state_text s) name) DRIVE_STATES
