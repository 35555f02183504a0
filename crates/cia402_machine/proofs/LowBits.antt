-- What the lower bits of a word give is reported by the word without its higher bits.
-- for: state_of, commanded_drives_become_enabled, fault_resets_leave_fault
use Rattle.std.specs.Prelude.{ℕ, ◌≡◌, ◌<◌, ◌≤◌, ◌+◌, ◌*◌, ◌/◌, ◌%◌, ◌^◌, ◌&&◌, List, [], ◌∷◌, length, bit_and}
use Rattle.std.specs.Int.{bit_at}
use Rattle.std.proofs.Common.{arith, ap, sym, ◌∙◌, refl}
use Rattle.std.proofs.lemmas.Nat.{and_mod, and_le_r}
use Rattle.std.proofs.lemmas.Nat.Bits.{bit_at_cat_low}
use Rattle.std.proofs.Math.Nat.{mod-eq_of_lt}
use Rattle.std.proofs.Math.Pow.{split}
use Rattle.cia402_machine.specs.Words.{fits, is_marked}

-- a bit below k is that of the k lowest bits
pub bit-low : (word k i : ℕ) → i < k → bit_at word i ≡ bit_at (word % 2 ^ k) i
bit-low word k i below =
    let whole : word / 2 ^ k * 2 ^ k + word % 2 ^ k ≡ word = split word k in
    ap (λ n. bit_at n i) (sym whole) ∙ bit_at_cat_low (word / 2 ^ k) k (word % 2 ^ k) i below

-- a mask of k bits reads the k lowest bits
pub and-low : (word mask k : ℕ) → mask < 2 ^ k → bit_and word mask ≡ bit_and (word % 2 ^ k) mask
and-low word mask k small =
    let least : bit_and word mask ≤ mask = and_le_r word mask in
    let below : bit_and word mask < 2 ^ k = omega arith in
    let whole : bit_and word mask % 2 ^ k ≡ bit_and word mask = mod-eq_of_lt below in
    let kept : mask % 2 ^ k ≡ mask = mod-eq_of_lt small in
    sym whole ∙ and_mod word mask k ∙ ap (λ m. bit_and (word % 2 ^ k) m) kept

-- a pattern of up to k letters reads the k lowest bits
pub fits-low : (word k : ℕ) (letters : List ℕ) → length letters ≤ k → fits word letters ≡ fits (word % 2 ^ k) letters
fits-low word k [] short = refl
fits-low word k (letter ∷ letters) short =
    let shorter : length letters < k = omega arith in
    let bit : bit_at word (length letters) ≡ bit_at (word % 2 ^ k) (length letters) = bit-low word k (length letters) shorter in
    let rest : fits word letters ≡ fits (word % 2 ^ k) letters = fits-low word k letters (omega arith) in
    ap (λ b. is_marked b letter && fits word letters) bit ∙ ap (λ b. is_marked (bit_at (word % 2 ^ k) (length letters)) letter && b) rest
