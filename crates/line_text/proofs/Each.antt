-- Items that are read one after the other, as a loop does.
-- for: crates above
use Rattle.std.proofs.Common.{◌≡◌, ℕ, suc, ◌+◌, ◌<◌, List, [], ◌∷◌, ◌++◌, length, get_or, drop, Result, Ok, Err, Bor, refl, sym, ap, subst, ◌∙◌, append_assoc, add-one}
use Rattle.std.proofs.Math.Seq.{drop-cons}
use Rattle.std.proofs.lemmas.List.{get_or-map, length-map}
use Rattle.line_text.specs.Reading.{◌>>=◌, each_of}
use Rattle.line_text.specs.Texts.{texts}
use Rattle.line_text.specs.declared.reader.LineFault.{LineFault}
use Rattle.line_text.specs.declared.reader.LineFault.TheVariants.{Rule, OutOfMemory}
use Rattle.line_text.proofs.Texts.{nowhere}

-- what was read before, and what is still read
abbrev pub after_front : {B : Type 0} → List B → Result (List B) ℕ → Result (List B) ℕ
after_front front read = read >>= λ ys. Ok (front ++ ys)

-- the first i items are read as front, and the others make the whole
pub record IsReadSoFar {A B : Type 0} (read : A → Result B ℕ) (xs : List A) (i : ℕ) (front : List B) : Type 0 where
  pub whole : after_front front (each_of read (drop i xs)) ≡ each_of read xs

regroup : {B : Type 0} (front : List B) (y : B) (read : Result (List B) ℕ) →
    after_front front (read >>= λ ys. Ok (y ∷ ys)) ≡ after_front (front ++ y ∷ []) read
regroup front y (Ok ys) = ap (λ (zs : List _). Ok zs) (sym (append_assoc front (y ∷ []) ys))
regroup front y (Err rule) = refl

-- one more item
pub read-more : {A B : Type 0} (read : A → Result B ℕ) (xs : List A) (i : ℕ) (front : List B) (x : A) (y : B) →
    drop i xs ≡ x ∷ drop (suc i) xs → read x ≡ Ok y → IsReadSoFar read xs i front → IsReadSoFar read xs (i + 1) (front ++ y ∷ [])
read-more read xs i front x y cut h s =
    let one : each_of read (drop i xs) ≡ (each_of read (drop (suc i) xs) >>= λ ys. Ok (y ∷ ys)) = rw (cut, h) refl in
    let next : i + 1 ≡ suc i = add-one i in
    rw next (record { whole = sym (regroup front y (each_of read (drop (suc i) xs))) ∙ sym (ap (after_front front) one) ∙ s.whole })

read-err : {A B : Type 0} (read : A → Result B ℕ) (xs : List A) (i : ℕ) (front : List B) (x : A) (rule : ℕ) →
    drop i xs ≡ x ∷ drop (suc i) xs → read x ≡ Err rule → IsReadSoFar read xs i front → each_of read xs ≡ Err rule
read-err read xs i front x rule cut h s =
    let one : each_of read (drop i xs) ≡ Err rule = rw (cut, h) refl in
    sym s.whole ∙ ap (after_front front) one

-- what a reading that stops answers
abbrev pub Stops : {B : Type 0} → Result B ℕ → LineFault → Type 0
Stops read (Rule number) = read ≡ Err number
Stops read OutOfMemory = Unit {0}

-- an item on which the reader stops
pub read-stops : {A B : Type 0} (read : A → Result B ℕ) (xs : List A) (i : ℕ) (front : List B) (x : A) (e : LineFault) →
    drop i xs ≡ x ∷ drop (suc i) xs → Stops (read x) e → IsReadSoFar read xs i front → Stops (each_of read xs) e
read-stops read xs i front x (Rule number) cut h s = read-err read xs i front x number cut h s
read-stops read xs i front x OutOfMemory cut h s = tt

-- the word that is read next
pub word_at : (words : List (Bor (List ℕ))) (i : ℕ) → i < length words →
    drop i (texts words) ≡ (get_or words i nowhere).now ∷ drop (suc i) (texts words)
word_at words i l =
    let same : length (texts words) ≡ length words = simp length-map in
    let long : i < length (texts words) = subst (λ (n : ℕ). i < n) (sym same) l in
    drop-cons (texts words) i [] long ∙ ap (λ y. y ∷ drop (suc i) (texts words)) (get_or-map (λ (w : Bor (List ℕ)). w.now) words i nowhere [] l)
