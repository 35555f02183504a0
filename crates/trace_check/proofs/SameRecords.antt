-- Records that are compared.
use Rattle.std.proofs.Common.{◌≡◌, ℕ, ◌+◌, ◌<◌, true, false, List, [], length, get_or, drop, refl}
use Rattle.std.proofs.lemmas.List.{drop_more}
use Rattle.line_text.specs.Texts.{says}
use Rattle.trace_text.specs.reading.Reading.{are_same}

-- the rest decides where two texts are the same
pub same-more : (xs ys : List (List ℕ)) (i : ℕ) → i < length xs → i < length ys → says (get_or xs i []) (get_or ys i []) ≡ true →
    are_same (drop i xs) (drop i ys) ≡ are_same (drop (i + 1) xs) (drop (i + 1) ys)
same-more xs ys i l k e = rw (drop_more xs i [] l, drop_more ys i [] k, e) refl

-- two other texts decide
pub same-stops : (xs ys : List (List ℕ)) (i : ℕ) → i < length xs → i < length ys → says (get_or xs i []) (get_or ys i []) ≡ false →
    are_same (drop i xs) (drop i ys) ≡ false
same-stops xs ys i l k e = rw (drop_more xs i [] l, drop_more ys i [] k, e) refl
