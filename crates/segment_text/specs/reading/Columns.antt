-- The values of a header's fields that no trace has: a field has a value of its column exactly
-- where it spells it as a writer does. This project's profile.
use Rattle.std.specs.Prelude.{ℕ, ◌-◌, ◌^◌, ℤ, if◌then◌else◌, Option, Some, None, List, [], ◌∷◌, codes, decimal}
use Rattle.buffer_modes.specs.declared.reset.PendingReset.{PendingReset}
use Rattle.line_text.specs.Numbers.{◌>>=◌}
use Rattle.line_text.specs.Texts.{says}
use Rattle.trace_columns.specs.Columns.{unsigned_of, wide_number_of}
use Rattle.trace_text.specs.reading.Rules.{is_empty}

-- a value that is read off the front of the fields, and the fields after it
abbrev pub Front : Type 0 → Type 0
Front A = Option (A × List (List ℕ))

-- a number of 16 bits, of 8, and how many of something were before
abbrev pub word_of : List ℕ → Option ℕ
word_of text = unsigned_of 0 65535 text

abbrev pub byte_of : List ℕ → Option ℕ
byte_of text = unsigned_of 0 255 text

abbrev pub count_of : List ℕ → Option ℕ
count_of text = unsigned_of 0 (2 ^ 63 - 1) text

-- the number of an instance, if there is one
unfoldable pub owner_of : List ℕ → Option (Option ℕ)
owner_of text =
    if is_empty text then Some None else (word_of text >>= λ instance. Some (Some instance))

-- a target, where it is fixed
unfoldable pub target_of : List ℕ → Option (Option ℤ)
target_of text =
    if is_empty text then Some None else (wide_number_of text >>= λ target. Some (Some target))

-- a pending reset by the instance that reports its end, if one does
unfoldable pub pending_of : List ℕ → Option PendingReset
pending_of text =
    if says text (codes "-") then Some (record { owner = None })
    else (word_of text >>= λ instance. Some (record { owner = Some instance }))

-- a pending reset, if there is one
unfoldable pub reset_of : List ℕ → Option (Option PendingReset)
reset_of text =
    if is_empty text then Some None else (pending_of text >>= λ pending. Some (Some pending))

-- the fields after this number
unfoldable pub behind_number : ℕ → List (List ℕ) → Option (List (List ℕ))
behind_number n [] = None
behind_number n (first ∷ fields) = if says first (decimal n) then Some fields else None
