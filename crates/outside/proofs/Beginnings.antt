-- What a reader gave, of which the first bytes are kept.
-- for: read_all
use Rattle.std.proofs.Common.{◌≡◌, ℕ, List, ◌++◌, length, take, drop, Option, Some, None, IfSome, sym, ap, ◌∙◌, append_assoc, subst}
use Rattle.std.proofs.Math.Seq.{take-append_seam}
use Rattle.std.proofs.lemmas.List.{take-append-drop}
use Rattle.std.specs.Io.{StartsWith}
use Rattle.std.specs.Io.KnownBytes.{Consumes}

front-more : (front piece more : List ℕ) (n : ℕ) → (front ++ piece) ++ more ≡ (front ++ take n piece) ++ (drop n piece ++ more)
front-more front piece more n =
    ap (λ t. (front ++ t) ++ more) (sym (take-append-drop n piece)) ∙
    ap (λ t. t ++ more) (sym (append_assoc front (take n piece) (drop n piece))) ∙ append_assoc (front ++ take n piece) (drop n piece) more

-- a reader gave a front and a piece, and of the piece the first n bytes are kept
pub begins-kept : (a b : Option (List ℕ)) (front piece kept : List ℕ) (n : ℕ) → Consumes a b (front ++ piece) → kept ≡ front ++ take n piece →
    IfSome a (λ bytes. StartsWith bytes kept)
begins-kept None b front piece kept n given e = tt
begins-kept (Some all) None front piece kept n given e = absurd given
begins-kept (Some all) (Some more) front piece kept n given e =
    let P : List ℕ → Type 0 = λ t. take (length t) all ≡ t in
    let whole : all ≡ (front ++ take n piece) ++ (drop n piece ++ more) = given ∙ front-more front piece more n in
    subst P (sym e) (ap (take (length (front ++ take n piece))) whole ∙ take-append_seam (front ++ take n piece) (drop n piece ++ more))
