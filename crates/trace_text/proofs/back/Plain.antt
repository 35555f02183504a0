-- Texts without the marks that stand between parts.
-- for: traces_are_read_back
use Rattle.std.specs.Prelude.{◌≡◌, refl, ℕ, suc, ◌+◌, ◌^◌, ◌<◌, ◌≤◌, ◌==◌, ◌%◌, ◌&&◌, ℤ, pos, negsuc, unsigned_abs, true, false, nat_lt, decimal, List, [], ◌∷◌, length}
use Rattle.std.specs.Fmt.{signed_decimal}
use Rattle.std.specs.List.{list_all, AllByRecursion}
use Rattle.std.proofs.Common.{arith, subst, sym, ◌∙◌}
use Rattle.std.proofs.lemmas.Bool.{and_parts, ne_eqb}
use Rattle.std.proofs.lemmas.Fmt.{decimal_by_steps}
use Rattle.std.proofs.lemmas.Int.{ints}
use Rattle.plc_types.specs.Names.{is_name, is_name_byte, is_letter}
use Rattle.machine_words.proofs.Lists.{all-push}
use Rattle.motion_history.proofs.DistinctLemmas.{each-weaker}

-- a text has no byte of this value
abbrev pub IsWithout : ℕ → List ℕ → Type 0
IsWithout mark text = AllByRecursion (λ b. (b == mark) ≡ false) text

digits-low : (n : ℕ) → n < 2 ^ 64 → AllByRecursion (λ b. b ≤ 57) (decimal n)
digits-low = decimal_by_steps (λ n ds. AllByRecursion (λ b. b ≤ 57) ds)
    (λ n l. (omega arith, tt))
    (λ n ds l h. all-push (λ b. b ≤ 57) ds (48 + n % 10) h (omega arith))

low-without : (mark : ℕ) → 57 < mark → (text : List ℕ) → AllByRecursion (λ b. b ≤ 57) text → IsWithout mark text
low-without mark high text h = each-weaker (λ b. b ≤ 57) (λ b. (b == mark) ≡ false) (λ b l. ne_eqb b mark (λ e. omega (arith, e, l, high))) text h

-- a number that isn't negative
pub decimal-without : (mark n : ℕ) → 57 < mark → n < 2 ^ 64 → IsWithout mark (decimal n)
decimal-without mark n high l = low-without mark high (decimal n) (digits-low n l)

-- a number
pub signed-without : (mark : ℕ) (z : ℤ) → 57 < mark → unsigned_abs z < 2 ^ 63 → IsWithout mark (signed_decimal z)
signed-without mark (pos n) high l = decimal-without mark n high (omega arith)
signed-without mark (negsuc n) high l =
    low-without mark high (signed_decimal (negsuc n)) (omega arith, digits-low (suc n) (omega (arith, ints)))

differs : (b mark : ℕ) → is_name_byte mark ≡ false → is_name_byte b ≡ true → (b == mark) ≡ false
differs b mark other is = ne_eqb b mark (λ e. let here : is_name_byte mark ≡ true = subst (λ c. is_name_byte c ≡ true) e is in cc (sym here ∙ other))

letter-byte : (b : ℕ) → is_letter b ≡ true → is_name_byte b ≡ true
letter-byte b h = rw h refl

pub bytes-without : (mark : ℕ) → is_name_byte mark ≡ false → (bs : List ℕ) → list_all is_name_byte bs ≡ true → IsWithout mark bs
bytes-without mark other [] h = tt
bytes-without mark other (b ∷ bs) h =
    let parts = and_parts (is_name_byte b) (list_all is_name_byte bs) h in
    (differs b mark other parts.0, bytes-without mark other bs parts.1)

-- a name
pub name-without : (mark : ℕ) → is_name_byte mark ≡ false → (name : List ℕ) → is_name name ≡ true → IsWithout mark name
name-without mark other [] h = tt
name-without mark other (b ∷ bs) h =
    let parts = and_parts (is_letter b && nat_lt (length bs) 16) (list_all is_name_byte bs) h in
    let first = and_parts (is_letter b) (nat_lt (length bs) 16) parts.0 in
    (differs b mark other (letter-byte b first.0), bytes-without mark other bs parts.1)
