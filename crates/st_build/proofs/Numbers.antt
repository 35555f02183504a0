-- Numbers from one on, after each other.
-- for: program_of
use Rattle.std.proofs.Common.{◌≡◌, ℕ, zero, suc, ◌+◌, length, List, [], ◌∷◌, ◌++◌, refl, ap, sym, ◌∙◌, arith}
use Rattle.st_tree.specs.Parts.{numbers_from}

pub numbers_behind : (n a b : ℕ) → numbers_from n (a + b) ≡ numbers_from n a ++ numbers_from (n + a) b
numbers_behind n zero b =
    let none : n + zero ≡ n = omega arith in
    let same : zero + b ≡ b = omega arith in
    ap (λ k. numbers_from n k) same ∙ ap (λ k. numbers_from k b) (sym none)
numbers_behind n (suc a) b =
    let one : suc a + b ≡ suc (a + b) = omega arith in
    let next : n + 1 + a ≡ n + suc a = omega arith in
    ap (λ k. numbers_from n k) one ∙
    ap (λ l. n ∷ l) (numbers_behind (n + 1) a b ∙ ap (λ k. numbers_from (n + 1) a ++ numbers_from k b) next)

-- the next number
pub one_number_more : (n a : ℕ) → numbers_from n (a + 1) ≡ numbers_from n a ++ (n + a) ∷ []
one_number_more n a = numbers_behind n a 1

-- and how many there are
pub length_numbers : (n a : ℕ) → length (numbers_from n a) ≡ a
length_numbers n zero = refl
length_numbers n (suc a) = ap suc (length_numbers (n + 1) a)

-- the numbers so far, and those of one list more
pub numbers_joined : (sofar more all : List ℕ) (a b n : ℕ) → sofar ≡ numbers_from 0 a → more ≡ numbers_from a b → all ≡ sofar ++ more → n ≡ a + b → all ≡ numbers_from 0 n
numbers_joined sofar more all a b n is_sofar is_more is_all is_n =
    let start : a ≡ 0 + a = omega arith in
    is_all ∙ ap (λ l. l ++ more) is_sofar ∙ ap (λ l. numbers_from 0 a ++ l) (is_more ∙ ap (λ k. numbers_from k b) start) ∙
    sym (ap (λ k. numbers_from 0 k) is_n ∙ numbers_behind 0 a b)
