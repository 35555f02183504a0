-- The ranges of the columns: what is read of a field lies in those of its column.
-- for: read_trace, read_within_room
use Rattle.std.proofs.Common.{◌≡◌, ℕ, ◌+◌, ◌*◌, ◌<◌, ◌≤◌, ℤ, Bool, true, false, Option, Some, None, List, [], ◌∷◌, refl, subst, arith, FitsSigned, w64}
use Rattle.std.specs.Prelude.{pos, int_le, ◌≤ℤ◌, ◌&&◌, cond, option_and_then, unsigned_abs}
use Rattle.std.specs.Fmt.{signed_decimal}
use Rattle.std.specs.Str.{bytes_eq}
use Rattle.std.specs.Str.Parse.{signed_digits_value}
use Rattle.std.proofs.lemmas.Bool.{and_parts}
use Rattle.std.proofs.lemmas.Int.{ints}
use Rattle.plc_types.specs.declared.outputs.Outputs.{Outputs}
use Rattle.trace_columns.specs.Columns.{between, hex_digit_of, hex_of, is_wide, letters_of, number_of, outputs_of, unsigned_of, wide_number_of}
use Rattle.trace_columns.specs.Fields.{outputs_text}
use Rattle.trace_columns.proofs.HexLaws.{digit-range}
use Rattle.trace_columns.proofs.NumberLaws.{wide-fits}

-- a value in two steps
pub opt-both : {A B : Type 0} (o : Option A) (f : A → Option B) (y : B) → option_and_then f o ≡ Some y → (x : A) × (o ≡ Some x) × (f x ≡ Some y)
opt-both None f y h = absurd (cc h)
opt-both (Some x) f y h = (x, refl, h)

-- a value where a test holds
pub if-some : {A : Type 0} (b : Bool) (x y : A) → cond b (Some x) None ≡ Some y → (b ≡ true) × (x ≡ y)
if-some true x y h = (refl, cc h)
if-some false x y h = absurd (cc h)

-- a number of 64 bits
pub wide-range : (text : List ℕ) (z : ℤ) → wide_number_of text ≡ Some z → FitsSigned w64 z
unfolding wide_number_of
wide-range text z h =
    let w : ℤ = signed_digits_value 10 text in
    let t = if-some (is_wide w && bytes_eq (signed_decimal w) text) w z h in
    subst (FitsSigned w64) t.1 (wide-fits w (and_parts (is_wide w) (bytes_eq (signed_decimal w) text) t.0).0)

between-test : (least most z : ℤ) → int_le least z ≡ true → int_le z most ≡ true → (least ≤ℤ z) × (z ≤ℤ most)
between-test least most z low high = (omega (arith, ints, low), omega (arith, ints, high))

-- a number between two
pub number-range : (least most : ℤ) (text : List ℕ) (z : ℤ) → number_of least most text ≡ Some z → (least ≤ℤ z) × (z ≤ℤ most)
unfolding number_of
number-range least most text z h =
    let w = opt-both (wide_number_of text) (between least most) z h in
    let t = if-some (int_le least w.0 && int_le w.0 most) w.0 z w.2 in
    let p = and_parts (int_le least w.0) (int_le w.0 most) t.0 in
    subst (λ x. (least ≤ℤ x) × (x ≤ℤ most)) t.1 (between-test least most w.0 p.0 p.1)

size-between : (least most : ℕ) (z : ℤ) → pos least ≤ℤ z → z ≤ℤ pos most → (least ≤ unsigned_abs z) × (unsigned_abs z ≤ most)
size-between least most z low high = (omega (arith, ints, low, high), omega (arith, ints, low, high))

-- a number that is not negative
pub unsigned-range : (least most : ℕ) (text : List ℕ) (n : ℕ) → unsigned_of least most text ≡ Some n → (least ≤ n) × (n ≤ most)
unfolding unsigned_of
unsigned-range least most text n h =
    let z = opt-both (number_of (pos least) (pos most) text) (λ x. Some (unsigned_abs x)) n h in
    let r = number-range (pos least) (pos most) text z.0 z.1 in
    let is : unsigned_abs z.0 ≡ n = cc z.2 in
    subst (λ x. (least ≤ x) × (x ≤ most)) is (size-between least most z.0 r.0 r.1)

digits-fit : (w x y z : ℕ) → w < 16 → x < 16 → y < 16 → z < 16 → w * 4096 + x * 256 + y * 16 + z < 65536
digits-fit w x y z a b c d = omega arith

-- a word of four hexadecimal digits
pub hex-range : (text : List ℕ) (n : ℕ) → hex_of text ≡ Some n → n < 65536
unfolding hex_of
hex-range (a ∷ b ∷ c ∷ d ∷ []) n h =
    let w = opt-both (hex_digit_of a) _ n h in
    let x = opt-both (hex_digit_of b) _ n w.2 in
    let y = opt-both (hex_digit_of c) _ n x.2 in
    let z = opt-both (hex_digit_of d) _ n y.2 in
    let is : w.0 * 4096 + x.0 * 256 + y.0 * 16 + z.0 ≡ n = cc z.2 in
    subst (λ m. m < 65536) is (digits-fit w.0 x.0 y.0 z.0 (digit-range a w.0 w.1) (digit-range b x.0 x.1) (digit-range c y.0 y.1) (digit-range d z.0 z.1))
hex-range _ n h = absurd (cc h)

-- outputs have the ErrorID that stands with them
pub outputs-id : (text : List ℕ) (id : ℕ) (o : Outputs) → outputs_of text id ≡ Some o → id ≡ o.error_id
unfolding outputs_of
outputs-id text id o h =
    let t = if-some (bytes_eq (outputs_text (letters_of text id)) text) (letters_of text id) o h in
    λ i. (t.1 i).error_id
