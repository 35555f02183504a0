-- Readings that are not refused.
-- for: crates above
use Rattle.std.proofs.Common.{◌≡◌, ℕ, Result, Ok, Err}
use Rattle.line_text.specs.declared.reader.LineRefused.{LineRefused}
use Rattle.machine_words.specs.Rules.{refused_by}

-- what is read without a refusal
pub unrefused : {T : Type 0} (letter : ℕ) (r : Result T LineRefused) (t : T) → refused_by letter r ≡ Ok t → r ≡ Ok t
unrefused letter (Ok s) t h = let e : s ≡ t = cc in cc
unrefused letter (Err r) t h = absurd (cc)
