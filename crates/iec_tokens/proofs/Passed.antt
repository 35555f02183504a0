-- The tokens after a lexeme, whose bytes are gone over one after another or all at once.
-- for: next
use Rattle.std.proofs.Common.{◌≡◌, ℕ, zero, suc, ◌+◌, ◌-◌, ◌≤◌, List, [], ◌∷◌, refl, sym, ◌∙◌, ap, take, drop, length, arith}
use Rattle.std.specs.Prelude.{min, Some, None}
use Rattle.iec_tokens.specs.Left.{stand_after, tokens_after}
use Rattle.iec_tokens.specs.Lexemes.{lexeme_of}
use Rattle.iec_tokens.specs.Tokens.{stand_behind, tokens_from, with_token}
use Rattle.std.proofs.lemmas.Grind.{common_steps}
use Rattle.iec_tokens.specs.declared.lexeme.Lexeme.{Lexeme}
use Rattle.iec_tokens.specs.declared.tokens.Stand.{Stand}
use Rattle.iec_tokens.specs.declared.token.Placed.{Placed}
use Rattle.iec_tokens.specs.declared.token.Token.{Token}

-- bytes of a lexeme are gone over
passed : (text : List ℕ) (n k : ℕ) (s : Stand) → k ≡ min n (length text) → tokens_from s n text ≡ tokens_after s text k
passed [] zero k s e = let z : k ≡ 0 = omega arith in rw z refl
passed [] (suc n) k s e = let z : k ≡ 0 = omega arith in rw z refl
passed (b ∷ text) zero k s e = let z : k ≡ 0 = omega arith in rw z refl
passed (b ∷ text) (suc n) k s e =
    let z : k ≡ suc (min n (length text)) = omega arith in
    rw z (passed text n (min n (length text)) (stand_behind s b) refl)

-- the lexeme at the front is gone over
pub lexeme_passed : (text : List ℕ) (k : ℕ) (s : Stand) → 1 ≤ length text → k ≡ min ((lexeme_of text).behind + 1) (length text) →
    tokens_from s 0 text ≡ with_token (lexeme_of text).token s (λ t. tokens_after t text k)
lexeme_passed [] k s some e = absurd (omega arith)
lexeme_passed (b ∷ text) k s some e =
    let n = (lexeme_of (b ∷ text)).behind in
    let m = min n (length text) in
    let z : k ≡ suc m = omega arith in
    let after : (t : Stand) → tokens_from (stand_behind t b) n text ≡ tokens_after t (b ∷ text) k =
    λ t. rw z (passed text n m (stand_behind t b) refl) in
    λ i. with_token (lexeme_of (b ∷ text)).token s (λ t. after t i)

-- a lexeme without a token at the front is gone over, and the others of the text come as before
pub gap_passed : (text : List ℕ) (k : ℕ) (s after : Stand) (l : Lexeme) (tokens : List Placed) → l ≡ lexeme_of text → l.token ≡ None → 1 ≤ length text →
    k ≡ min (l.behind + 1) (length text) → after ≡ stand_after s (take k text) → tokens_from s 0 text ≡ tokens →
    tokens_from after 0 (take (length text - k) (drop k text)) ≡ tokens
gap_passed text k s after l tokens is none some e a before =
    let all : take (length text - k) (drop k text) ≡ drop k text = grind (arith, common_steps) in
    let here : k ≡ min ((lexeme_of text).behind + 1) (length text) = rw (← is) e in
    let gap : (lexeme_of text).token ≡ None = rw (← is) none in
    let passes : tokens_from s 0 text ≡ with_token None s (λ t. tokens_after t text k) =
    lexeme_passed text k s some here ∙ ap (λ o. with_token o s (λ t. tokens_after t text k)) gap in
    rw (all, a) (sym passes ∙ before)

-- a lexeme with a token at the front begins the tokens of the text
pub token_passed : (text : List ℕ) (k : ℕ) (s : Stand) (l : Lexeme) (token : Token) (found tokens : List Placed) → l ≡ lexeme_of text → l.token ≡ Some token → 1 ≤ length text →
    k ≡ min (l.behind + 1) (length text) → found ≡ with_token (Some token) s (λ t. tokens_after t text k) → tokens_from s 0 text ≡ tokens → found ≡ tokens
token_passed text k s l token found tokens is some_token some e f before =
    let here : k ≡ min ((lexeme_of text).behind + 1) (length text) = rw (← is) e in
    let has : (lexeme_of text).token ≡ Some token = rw (← is) some_token in
    f ∙ ap (λ o. with_token o s (λ t. tokens_after t text k)) (sym has) ∙ sym (lexeme_passed text k s some here) ∙ before
