-- A word that begins with a key, or doesn't.
-- for: text_behind
use Rattle.std.proofs.Common.{◌≡◌, ℕ, ◌-◌, ◌<◌, ◌≤◌, false, true, if◌then◌else◌, nat_eq, Some, None, List, length, take, drop, get_or, refl, sym, ap, ◌∙◌, arith}
use Rattle.std.specs.List.{starts_with}
use Rattle.std.proofs.lemmas.Bool.{false_from_ne_true}
use Rattle.std.proofs.lemmas.Grind.{common_steps}
use Rattle.std.proofs.lemmas.List.{take_rest}
use Rattle.std.proofs.lemmas.Slice.Eq.{bytes_eq-Decides}

-- a word has another byte than the key at a place
pub other-word : (key word : List ℕ) (i : ℕ) → i < length key → length key ≤ length word → (get_or word i 0 ≡ get_or key i 0 → ⊥) →
    None ≡ (if starts_with nat_eq word key then Some (drop (length key) word) else None)
other-word key word i within long differs =
    let other : starts_with nat_eq word key ≡ false = false_from_ne_true _ (λ yes.
    let same : key ≡ take (length key) word = (bytes_eq-Decides key (take (length key) word)).0 yes in
    let too : get_or (take (length key) word) i 0 ≡ get_or word i 0 = grind (arith, common_steps) in
    differs (sym too ∙ ap (λ k. get_or k i 0) (sym same))) in
    rw other refl

-- a word has the bytes of the whole key
pub whole-word : (key word : List ℕ) (i : ℕ) → i ≤ length key → length key ≤ i → take i word ≡ take i key →
    Some (take (length word - length key) (drop (length key) word)) ≡ (if starts_with nat_eq word key then Some (drop (length key) word) else None)
whole-word key word i within past so_far =
    let all : i ≡ length key = omega arith in
    let whole : take (length key) key ≡ key = grind (arith, common_steps) in
    let same : take (length key) word ≡ key = rw all at so_far ∙ whole in
    let begins : starts_with nat_eq word key ≡ true = (bytes_eq-Decides key (take (length key) word)).1 (sym same) in
    rw (begins, take_rest word (length key)) refl
