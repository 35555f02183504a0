-- Where a blank line ends.
-- for: read_trace_segment
use Rattle.std.specs.Prelude.{◌≡◌, refl, ℕ, ◌≤◌, None, List, [], ◌∷◌, length}
use Rattle.std.proofs.Common.{arith}
use Rattle.segment_text.specs.reading.Reading.{blank_line_from}

-- none ends in less than two bytes
pub none_in_one : (n : ℕ) (xs : List ℕ) → length xs ≤ 1 → None ≡ blank_line_from n xs
none_in_one n [] l = refl
none_in_one n (a ∷ []) l = refl
none_in_one n (a ∷ b ∷ more) l = absurd (omega (arith, l))
