-- Eight digits in the bytes of a word.
-- for: eight_digits, value_of
use Rattle.std.specs.Prelude.{◌≡◌, refl, ℕ, ◌+◌, ◌-◌, ◌*◌, ◌/◌, ◌%◌, ◌^◌, ◌<◌, ◌≤◌, List, [], ◌∷◌, map}
use Rattle.std.specs.Char.{digit_value}
use Rattle.std.specs.Int.{from_le_bytes, w64}
use Rattle.std.specs.Int.RustNames.{bit_and}
use Rattle.std.specs.List.{AllByRecursion}
use Rattle.std.specs.Str.Parse.{AllDigits, digits_value}
use Rattle.std.proofs.Common.{◌∙◌, sym, ap, arith}
use Rattle.std.proofs.lemmas.Nat.{and_block, and_le_r, and_mask}
use Rattle.trace_columns.proofs.ShortLaws.{digit-is}

-- the number whose bytes these are, the lowest first
packed : List ℕ → ℕ
packed [] = 0
packed (b ∷ bs) = b + 256 * packed bs

-- the upper half of a byte
high-is : (b : ℕ) → bit_and b 240 ≡ b / 16 % 16 * 16
high-is b =
    let parts : b ≡ b / 16 * 2 ^ 4 + b % 16 = omega arith in
    let none : bit_and (b % 16) 0 ≡ 0 = let l = and_le_r (b % 16) 0 in omega (arith, l) in
    let halves : bit_and b 240 ≡ bit_and (b / 16) 15 * 2 ^ 4 + bit_and (b % 16) 0 =
    ap (λ x. bit_and x 240) parts ∙ and_block 4 (b / 16) 15 (b % 16) 0 (omega arith) (omega arith) in
    let mask : bit_and (b / 16) 15 ≡ b / 16 % 16 = and_mask (b / 16) 4 in
    omega (arith, halves, mask, none)

-- the lower half
low-is : (b : ℕ) → bit_and b 15 ≡ b % 16
low-is b = and_mask b 4

-- a mask over each byte
and-each : (m : ℕ) → m < 256 → (bs : List ℕ) → AllByRecursion (λ b. b < 256) bs → bit_and (packed bs) (packed (map (λ _. m) bs)) ≡ packed (map (λ b. bit_and b m) bs)
unfolding packed
and-each m l [] h = refl
and-each m l (b ∷ bs) h =
    let byte = h.0 in
    let left : b + 256 * packed bs ≡ packed bs * 2 ^ 8 + b = omega arith in
    let right : m + 256 * packed (map (λ _. m) bs) ≡ packed (map (λ _. m) bs) * 2 ^ 8 + m = omega arith in
    let split = and_block 8 (packed bs) (packed (map (λ _. m) bs)) b m (omega (arith, byte)) (omega arith) in
    let rest = and-each m l bs h.1 in
    (λ i. bit_and (left i) (right i)) ∙ split ∙ (λ i. rest i * 2 ^ 8 + bit_and b m) ∙ omega arith

-- a number added to each byte
add-each : (f : ℕ → ℕ) (k : ℕ) (bs : List ℕ) → packed (map f bs) + packed (map (λ _. k) bs) ≡ packed (map (λ b. f b + k) bs)
unfolding packed
add-each f k [] = refl
add-each f k (b ∷ bs) = let rest = add-each f k bs in omega (arith, rest)

-- words are the same where their bytes are
each-is : (f : ℕ → ℕ) (k : ℕ) → k < 256 → ((b : ℕ) → f b < 256) → (bs : List ℕ) → packed (map f bs) ≡ packed (map (λ _. k) bs) → AllByRecursion (λ b. f b ≡ k) bs
unfolding packed
each-is f k l small [] e = tt
each-is f k l small (b ∷ bs) e =
    let byte = small b in
    let whole : f b + 256 * packed (map f bs) ≡ k + 256 * packed (map (λ _. k) bs) = e in
    (omega (arith, byte, whole), each-is f k l small bs (omega (arith, byte, whole)))

pub record IsDigit (b : ℕ) : Type 0 where
  pub low : 48 ≤ b
  pub high : b ≤ 57

-- a byte whose upper half is 3 and whose lower one is less than 10 is a digit
digit-by : (b : ℕ) → b < 256 → bit_and b 240 ≡ 48 → bit_and (bit_and b 15 + 6) 240 ≡ 0 → IsDigit b × (bit_and b 15 ≡ b - 48)
digit-by b byte three few =
    let high : b / 16 % 16 * 16 ≡ 48 = sym (high-is b) ∙ three in
    let low : bit_and b 15 ≡ b % 16 = low-is b in
    let less : (bit_and b 15 + 6) / 16 % 16 * 16 ≡ 0 = sym (high-is (bit_and b 15 + 6)) ∙ few in
    let least : 48 ≤ b = omega (arith, byte, high) in
    let most : b ≤ 57 = omega (arith, byte, high, low, less) in
    (record { low = least; high = most }, omega (arith, byte, high, low))

digits-by : (bs : List ℕ) → AllByRecursion (λ b. b < 256) bs → AllByRecursion (λ b. bit_and b 240 ≡ 48) bs → AllByRecursion (λ b. bit_and (bit_and b 15 + 6) 240 ≡ 0) bs →
    AllByRecursion IsDigit bs × (packed (map (λ b. bit_and b 15) bs) ≡ packed (map (λ b. b - 48) bs))
unfolding packed
digits-by [] bytes three few = (tt, refl)
digits-by (b ∷ bs) bytes three few =
    let first = digit-by b bytes.0 three.0 few.0 in
    let rest = digits-by bs bytes.1 three.1 few.1 in
    ((first.0, rest.0), λ i. first.1 i + 256 * rest.1 i)

-- the bytes of a word that passes both tests are digits, and so are the lower halves of its bytes
word-digits : (a b c d e f g h word : ℕ) → a < 256 → b < 256 → c < 256 → d < 256 → e < 256 → f < 256 → g < 256 → h < 256 →
    word ≡ a + 256 * (b + 256 * (c + 256 * (d + 256 * (e + 256 * (f + 256 * (g + 256 * h)))))) →
    bit_and word 0xF0F0_F0F0_F0F0_F0F0 ≡ 0x3030_3030_3030_3030 → bit_and (bit_and word 0x0F0F_0F0F_0F0F_0F0F + 0x0606_0606_0606_0606) 0xF0F0_F0F0_F0F0_F0F0 ≡ 0 →
    AllByRecursion IsDigit (a ∷ b ∷ c ∷ d ∷ e ∷ f ∷ g ∷ h ∷ []) ×
    (bit_and word 0x0F0F_0F0F_0F0F_0F0F ≡ a - 48 + 256 * (b - 48 + 256 * (c - 48 + 256 * (d - 48 + 256 * (e - 48 + 256 * (f - 48 + 256 * (g - 48 + 256 * (h - 48))))))))
unfolding packed
word-digits a b c d e f g h word A B C D E F G H is three few =
    let bs : List ℕ = a ∷ b ∷ c ∷ d ∷ e ∷ f ∷ g ∷ h ∷ [] in
    let bytes : AllByRecursion (λ x. x < 256) bs = (A, (B, (C, (D, (E, (F, (G, (H, tt)))))))) in
    let whole : word ≡ packed bs = omega (arith, is) in
    let upper : bit_and (packed bs) 0xF0F0_F0F0_F0F0_F0F0 ≡ packed (map (λ x. bit_and x 240) bs) = and-each 240 (omega arith) bs bytes in
    let lower : bit_and (packed bs) 0x0F0F_0F0F_0F0F_0F0F ≡ packed (map (λ x. bit_and x 15) bs) = and-each 15 (omega arith) bs bytes in
    let threes : AllByRecursion (λ x. bit_and x 240 ≡ 48) bs =
    each-is (λ x. bit_and x 240) 48 (omega arith) (λ x. let l = and_le_r x 240 in omega (arith, l)) bs (sym upper ∙ ap (λ w. bit_and w 0xF0F0_F0F0_F0F0_F0F0) (sym whole) ∙ three) in
    let sums : bit_and word 0x0F0F_0F0F_0F0F_0F0F + 0x0606_0606_0606_0606 ≡ packed (map (λ x. bit_and x 15 + 6) bs) =
    ap (λ w. bit_and w 0x0F0F_0F0F_0F0F_0F0F + 0x0606_0606_0606_0606) whole ∙ ap (λ w. w + 0x0606_0606_0606_0606) lower ∙ add-each (λ x. bit_and x 15) 6 bs in
    let small : (x : ℕ) → bit_and x 15 + 6 < 256 = λ x. let l = and_le_r x 15 in omega (arith, l) in
    let upper_sums : bit_and (packed (map (λ x. bit_and x 15 + 6) bs)) 0xF0F0_F0F0_F0F0_F0F0 ≡ packed (map (λ x. bit_and (bit_and x 15 + 6) 240) bs) =
    and-each 240 (omega arith) (map (λ x. bit_and x 15 + 6) bs) (small a, (small b, (small c, (small d, (small e, (small f, (small g, (small h, tt)))))))) in
    let fews : AllByRecursion (λ x. bit_and (bit_and x 15 + 6) 240 ≡ 0) bs =
    each-is (λ x. bit_and (bit_and x 15 + 6) 240) 0 (omega arith) (λ x. let l = and_le_r (bit_and x 15 + 6) 240 in omega (arith, l)) bs
    (sym upper_sums ∙ ap (λ w. bit_and w 0xF0F0_F0F0_F0F0_F0F0) (sym sums) ∙ few) in
    let digits = digits-by bs bytes threes fews in
    let word_is : bit_and word 0x0F0F_0F0F_0F0F_0F0F ≡ packed (map (λ x. x - 48) bs) = ap (λ w. bit_and w 0x0F0F_0F0F_0F0F_0F0F) whole ∙ lower ∙ digits.1 in
    (digits.0, omega (arith, word_is))

-- the word of eight bytes
word-is : (a b c d e f g h : ℕ) → from_le_bytes w64 (a ∷ b ∷ c ∷ d ∷ e ∷ f ∷ g ∷ h ∷ []) ≡ a + 256 * (b + 256 * (c + 256 * (d + 256 * (e + 256 * (f + 256 * (g + 256 * h))))))
word-is a b c d e f g h = omega arith

pub eight_are : (a b c d e f g h word : ℕ) → a < 256 → b < 256 → c < 256 → d < 256 → e < 256 → f < 256 → g < 256 → h < 256 →
    word ≡ from_le_bytes w64 (a ∷ b ∷ c ∷ d ∷ e ∷ f ∷ g ∷ h ∷ []) →
    bit_and word 0xF0F0_F0F0_F0F0_F0F0 ≡ 0x3030_3030_3030_3030 → bit_and (bit_and word 0x0F0F_0F0F_0F0F_0F0F + 0x0606_0606_0606_0606) 0xF0F0_F0F0_F0F0_F0F0 ≡ 0 →
    AllByRecursion IsDigit (a ∷ b ∷ c ∷ d ∷ e ∷ f ∷ g ∷ h ∷ []) ×
    (bit_and word 0x0F0F_0F0F_0F0F_0F0F ≡ a - 48 + 256 * (b - 48 + 256 * (c - 48 + 256 * (d - 48 + 256 * (e - 48 + 256 * (f - 48 + 256 * (g - 48 + 256 * (h - 48))))))))
eight_are a b c d e f g h word A B C D E F G H is three few = word-digits a b c d e f g h word A B C D E F G H (is ∙ word-is a b c d e f g h) three few

low : (x y : ℕ) → x < 256 → (x + 256 * y) % 256 ≡ x
low x y l = omega arith

cut2 : (p q y : ℕ) → p < 256 → q < 256 → (p + 256 * (q + 256 * y)) / 65536 ≡ y
cut2 p q y P Q = omega arith

cut4 : (p q r s y : ℕ) → p < 256 → q < 256 → r < 256 → s < 256 → (p + 256 * (q + 256 * (r + 256 * (s + 256 * y)))) / 4294967296 ≡ y
cut4 p q r s y P Q R S = omega arith

cut6 : (p q r s t u y : ℕ) → p < 256 → q < 256 → r < 256 → s < 256 → t < 256 → u < 256 →
    (p + 256 * (q + 256 * (r + 256 * (s + 256 * (t + 256 * (u + 256 * y)))))) / 281474976710656 ≡ y
cut6 p q r s t u y P Q R S T U = omega arith

-- each second of the bytes that are read from a word
read-bytes : (n p q r s t u v w : ℕ) → p < 256 → q < 256 → r < 256 → s < 256 → t < 256 → u < 256 → v < 256 →
    n ≡ p + 256 * (q + 256 * (r + 256 * (s + 256 * (t + 256 * (u + 256 * (v + 256 * w)))))) →
    ((n % 256 * 100 + n / 65536 % 256) * 100 + n / 4294967296 % 256) * 100 + n / 281474976710656 % 256 ≡ ((p * 100 + r) * 100 + t) * 100 + v
read-bytes n p q r s t u v w P Q R S T U V is =
    let a : n % 256 ≡ p = ap (λ x. x % 256) is ∙ low p _ P in
    let b : n / 65536 % 256 ≡ r = ap (λ x. x / 65536 % 256) is ∙ ap (λ x. x % 256) (cut2 p q _ P Q) ∙ low r _ R in
    let c : n / 4294967296 % 256 ≡ t = ap (λ x. x / 4294967296 % 256) is ∙ ap (λ x. x % 256) (cut4 p q r s _ P Q R S) ∙ low t _ T in
    let d : n / 281474976710656 % 256 ≡ v = ap (λ x. x / 281474976710656 % 256) is ∙ ap (λ x. x % 256) (cut6 p q r s t u _ P Q R S T U) ∙ low v _ V in
    λ i. ((a i * 100 + b i) * 100 + c i) * 100 + d i

-- the number that eight digits in a word's bytes are
pub eight_value : (n a b c d e f g h : ℕ) → a ≤ 9 → b ≤ 9 → c ≤ 9 → d ≤ 9 → e ≤ 9 → f ≤ 9 → g ≤ 9 → h ≤ 9 →
    n ≡ a + 256 * (b + 256 * (c + 256 * (d + 256 * (e + 256 * (f + 256 * (g + 256 * h)))))) →
    (((n * 10 + n / 256) % 256 * 100 + (n * 10 + n / 256) / 65536 % 256) * 100 + (n * 10 + n / 256) / 4294967296 % 256) * 100 + (n * 10 + n / 256) / 281474976710656 % 256 ≡
    ((((((a * 10 + b) * 10 + c) * 10 + d) * 10 + e) * 10 + f) * 10 + g) * 10 + h
eight_value n a b c d e f g h A B C D E F G H is =
    let rest = b + 256 * (c + 256 * (d + 256 * (e + 256 * (f + 256 * (g + 256 * h))))) in
    let down : n / 256 ≡ b + 256 * (c + 256 * (d + 256 * (e + 256 * (f + 256 * (g + 256 * h))))) = omega (arith, is, A) in
    let pairs : n * 10 + n / 256 ≡ a * 10 + b + 256 * (b * 10 + c + 256 * (c * 10 + d + 256 * (d * 10 + e + 256 * (e * 10 + f + 256 * (f * 10 + g + 256 * (g * 10 + h + 256 * (h * 10))))))) =
    omega (arith, is, down) in
    read-bytes _ (a * 10 + b) (b * 10 + c) (c * 10 + d) (d * 10 + e) (e * 10 + f) (f * 10 + g) (g * 10 + h) (h * 10)
    (omega (arith, A, B)) (omega (arith, B, C)) (omega (arith, C, D)) (omega (arith, D, E)) (omega (arith, E, F)) (omega (arith, F, G)) (omega (arith, G, H)) pairs
    ∙ omega arith

-- digits one after another
pub eight_read : (a b c d e f g h : ℕ) → AllByRecursion IsDigit (a ∷ b ∷ c ∷ d ∷ e ∷ f ∷ g ∷ h ∷ []) →
    AllDigits 10 (a ∷ b ∷ c ∷ d ∷ e ∷ f ∷ g ∷ h ∷ []) ×
    ((((((((a - 48) * 10 + (b - 48)) * 10 + (c - 48)) * 10 + (d - 48)) * 10 + (e - 48)) * 10 + (f - 48)) * 10 + (g - 48)) * 10 + (h - 48) ≡ digits_value 10 (a ∷ b ∷ c ∷ d ∷ e ∷ f ∷ g ∷ h ∷ []))
eight_read a b c d e f g h z =
    let p : digit_value a ≡ a - 48 = digit-is a z.0.low z.0.high in
    let first : a - 48 ≡ 0 + digit_value a = omega (arith, p) in
    let q : digit_value b ≡ b - 48 = digit-is b z.1.0.low z.1.0.high in
    let r : digit_value c ≡ c - 48 = digit-is c z.1.1.0.low z.1.1.0.high in
    let s : digit_value d ≡ d - 48 = digit-is d z.1.1.1.0.low z.1.1.1.0.high in
    let t : digit_value e ≡ e - 48 = digit-is e z.1.1.1.1.0.low z.1.1.1.1.0.high in
    let u : digit_value f ≡ f - 48 = digit-is f z.1.1.1.1.1.0.low z.1.1.1.1.1.0.high in
    let v : digit_value g ≡ g - 48 = digit-is g z.1.1.1.1.1.1.0.low z.1.1.1.1.1.1.0.high in
    let w : digit_value h ≡ h - 48 = digit-is h z.1.1.1.1.1.1.1.0.low z.1.1.1.1.1.1.1.0.high in (
      (omega (arith, p, z.0.high), (omega (arith, q, z.1.0.high), (omega (arith, r, z.1.1.0.high), (omega (arith, s, z.1.1.1.0.high), (omega (arith, t, z.1.1.1.1.0.high), (omega (arith, u, z.1.1.1.1.1.0.high), (omega (arith, v, z.1.1.1.1.1.1.0.high), (omega (arith, w, z.1.1.1.1.1.1.1.0.high), tt)))))))),
      λ i. (((((((first i) * 10 + sym q i) * 10 + sym r i) * 10 + sym s i) * 10 + sym t i) * 10 + sym u i) * 10 + sym v i) * 10 + sym w i,
    )
