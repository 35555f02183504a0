-- The tokens of a text have a last, and none before it is such.
-- for: tokens_end_once
use Rattle.std.proofs.Common.{◌≡◌, ℕ, zero, suc, ◌-◌, ◌*◌, List, [], ◌∷◌, Bool, true, false, refl}
use Rattle.std.specs.Prelude.{Option, Some, None, if◌then◌else◌, nat_le, ◌==◌, ◌^◌, codes, not, drop}
use Rattle.std.specs.Option.{option_map_or}
use Rattle.std.specs.List.{prefix_len}
use Rattle.iec_tokens.specs.Bytes.{begins_word, is_digit, is_gap, stands_in}
use Rattle.iec_tokens.specs.Ended.{IsEnded, is_last}
use Rattle.iec_tokens.specs.Lexemes.{begins, comment_lexeme, hexadecimal_lexeme, lexeme_of, name_token, number_lexeme, sign_lexeme, taking, time_lexeme, word_lexeme, word_of, word_token, wrong}
use Rattle.iec_tokens.specs.Numbers.{billionths_of, hexadecimal_token, number_token, up_to, written_at}
use Rattle.iec_tokens.specs.Times.{prefix_length}
use Rattle.iec_tokens.specs.Tokens.{before, last, stand_behind, tokens_from, with_token}
use Rattle.iec_tokens.specs.Words.{word_named}
use Rattle.iec_tokens.specs.declared.byte.Run.TheVariants as run
use Rattle.iec_tokens.specs.declared.digits.Radix.TheVariants as radix
use Rattle.iec_tokens.specs.declared.lexeme.Lexeme.{Lexeme}
use Rattle.iec_tokens.specs.declared.number.Written.{Written}
use Rattle.iec_tokens.specs.declared.token.Number.{Number}
use Rattle.iec_tokens.specs.declared.token.Number.TheVariants as number
use Rattle.iec_tokens.specs.declared.token.Placed.{Placed}
use Rattle.iec_tokens.specs.declared.token.Sign.{Sign}
use Rattle.iec_tokens.specs.declared.token.Token.{Token}
use Rattle.iec_tokens.specs.declared.token.Token.TheVariants as token
use Rattle.iec_tokens.specs.declared.token.Word.{Word}
use Rattle.iec_tokens.specs.declared.tokens.Stand.{Stand}

-- neither the text's end nor one too many
is_plain : Option Token → Bool
is_plain (Some token.End) = false
is_plain (Some token.TooMany) = false
is_plain _ = true

none_is : is_plain None ≡ true
unfolding is_plain
none_is = refl

name_is : (n : List ℕ) → is_plain (Some (token.Name n)) ≡ true
unfolding is_plain
name_is n = refl

word_is : (w : Word) → is_plain (Some (token.Word w)) ≡ true
unfolding is_plain
word_is w = refl

number_is : (n : Number) → is_plain (Some (token.Number n)) ≡ true
unfolding is_plain
number_is n = refl

sign_is : (s : Sign) → is_plain (Some (token.Sign s)) ≡ true
unfolding is_plain
sign_is s = refl

wrong_is : is_plain (Some token.Wrong) ≡ true
unfolding is_plain
wrong_is = refl

-- so is the token of a lexeme
is_fine : Lexeme → Bool
is_fine l = is_plain l.token

fine : (l : Lexeme) → is_plain l.token ≡ true → is_fine l ≡ true
unfolding is_fine
fine l h = h

token_of : (l : Lexeme) → is_fine l ≡ true → is_plain l.token ≡ true
unfolding is_fine
token_of l h = h

either : (t : Bool) (a b : Lexeme) → is_fine a ≡ true → is_fine b ≡ true → is_fine (if t then a else b) ≡ true
either true a b p q = p
either false a b p q = q

mapped : {X : Type 0} (o : Option X) (f : X → Lexeme) (none : Lexeme) → ((x : X) → is_plain (f x).token ≡ true) → is_plain none.token ≡ true →
    is_plain (option_map_or f o none).token ≡ true
mapped None f none p q = q
mapped (Some x) f none p q = p x

choice : (t : Bool) (a b : Token) → is_plain (Some a) ≡ true → is_plain (Some b) ≡ true → is_plain (Some (if t then a else b)) ≡ true
choice true a b p q = p
choice false a b p q = q

reserved : (o : Option Word) (w : List ℕ) → is_plain (Some (option_map_or token.Word o (name_token w))) ≡ true
reserved (Some r) w = word_is r
reserved None w = choice _ _ _ (name_is w) wrong_is

word_plain : (w : List ℕ) → is_plain (Some (word_token w)) ≡ true
unfolding word_token
word_plain w = reserved (word_named w) w

number_plain : (w : Written) → is_plain (Some (number_token w)) ≡ true
unfolding number_token
number_plain w =
    choice (w.places == 0) _ _ (number_is (number.Whole (up_to 2147483648 w.whole)))
    (choice (nat_le w.places 9) _ _ (number_is (number.Decimal (up_to (9 * 10 ^ 18) (billionths_of w)))) wrong_is)

hexadecimal_plain : (w : Written) → is_plain (Some (hexadecimal_token w)) ≡ true
unfolding hexadecimal_token
hexadecimal_plain w = choice _ _ _ wrong_is (number_is _)

comment_plain : (text : List ℕ) → is_plain (comment_lexeme text).token ≡ true
unfolding comment_lexeme
comment_plain text = mapped _ _ _ (λ n. none_is) wrong_is

time_plain : (text : List ℕ) → is_plain (time_lexeme text).token ≡ true
unfolding time_lexeme
time_plain text = mapped _ _ _ (λ t. number_is _) wrong_is

sign_plain : (text : List ℕ) → is_plain (sign_lexeme text).token ≡ true
unfolding sign_lexeme
sign_plain text = mapped _ _ _ (λ s. sign_is s) wrong_is

all_fine : (text : List ℕ) → is_fine (lexeme_of text) ≡ true
unfolding lexeme_of
all_fine [] = fine wrong wrong_is
all_fine (b ∷ text) =
    let w = b ∷ text in
    either (is_gap b) (taking None 1) _ (fine (taking None 1) none_is)
    (either (begins w (codes "(*")) (comment_lexeme w) _ (fine (comment_lexeme w) (comment_plain w))
    (either (begins w (codes "//")) (taking None (prefix_len (stands_in run.Line) w)) _ (fine (taking None (prefix_len (stands_in run.Line) w)) none_is)
    (either (not (prefix_length w == 0)) (time_lexeme w) _ (fine (time_lexeme w) (time_plain w))
    (either (begins_word b) (word_lexeme w) _ (fine (word_lexeme w) (word_plain (word_of w)))
    (either (begins w (codes "16#")) (hexadecimal_lexeme w) _ (fine (hexadecimal_lexeme w) (hexadecimal_plain (written_at radix.Hexadecimal (drop 3 w))))
    (either (is_digit b) (number_lexeme w) (sign_lexeme w) (fine (number_lexeme w) (number_plain (written_at radix.Decimal w))) (fine (sign_lexeme w) (sign_plain w))))))))

plain : (text : List ℕ) → is_plain (lexeme_of text).token ≡ true
plain text = token_of (lexeme_of text) (all_fine text)

bounded : (full : Bool) (t : Token) (line : ℕ) (more : List Placed) → is_last t ≡ false → IsEnded more →
    IsEnded (if full then last token.TooMany line else record { token = t; line = line } ∷ more)
bounded true t line more plain h = refl
bounded false t line more plain h = rw plain h

placed : (t : Token) (s : Stand) (more : Stand → List Placed) → is_last t ≡ false → ((u : Stand) → IsEnded (more u)) → IsEnded (before t s more)
placed t s more plain h = bounded (s.left == 0) t s.line (more (record s { left = s.left - 1 })) plain (h _)

with_ended : (o : Option Token) (s : Stand) (more : Stand → List Placed) → is_plain o ≡ true → ((u : Stand) → IsEnded (more u)) → IsEnded (with_token o s more)
unfolding is_plain
with_ended None s more plain h = h s
with_ended (Some (token.Name n)) s more plain h = placed (token.Name n) s more refl h
with_ended (Some (token.Word w)) s more plain h = placed (token.Word w) s more refl h
with_ended (Some (token.Number n)) s more plain h = placed (token.Number n) s more refl h
with_ended (Some (token.Sign g)) s more plain h = placed (token.Sign g) s more refl h
with_ended (Some token.End) s more plain h = absurd (cc)
with_ended (Some token.Wrong) s more plain h = refl
with_ended (Some token.TooMany) s more plain h = absurd (cc)

pub ended : (text : List ℕ) (n : ℕ) (s : Stand) → IsEnded (tokens_from s n text)
ended [] n s = refl
ended (b ∷ text) (suc n) s = ended text n (stand_behind s b)
ended (b ∷ text) zero s = with_ended _ s _ (plain (b ∷ text)) (λ u. ended text _ (stand_behind u b))
