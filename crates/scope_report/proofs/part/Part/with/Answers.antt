-- The counts of two parts fit where their rows do.
use Rattle.std.proofs.Common.{◌≡◌, ◌+◌, ◌-◌, ◌*◌, ◌^◌, ◌<◌, ◌≤◌, ℕ, zero, suc, Option, None, ℤ, refl, ap, ◌∙◌, arith}
use Rattle.scope_report.specs.Parts.{PartState}
use Rattle.scope_report.specs.Merging.{first_there}
use Rattle.scope_report.proofs.part.Part.with.Goals as goal

-- what a pair between two parts adds is nothing where one of them is empty
pub record AddsNone (r1 r2 m : ℕ) : Type 0 where
  pub first : r1 ≡ 0 → m ≡ 0
  pub second : r2 ≡ 0 → m ≡ 0

-- at most 1 for each row after the first
ones : (r1 r2 s1 s2 m : ℕ) → AddsNone r1 r2 m → s1 ≤ r1 - 1 → s2 ≤ r2 - 1 → m ≤ 1 →
    s1 + m + s2 ≤ r1 + r2 - 1
ones zero r2 s1 s2 m none a b c = let z : m ≡ 0 = none.first refl in omega arith
ones (suc r1) zero s1 s2 m none a b c = let z : m ≡ 0 = none.second refl in omega arith
ones (suc r1) (suc r2) s1 s2 m none a b c = omega arith

-- less than 2^64 for each
words : (r1 r2 s1 s2 m : ℕ) → AddsNone r1 r2 m → s1 ≤ (r1 - 1) * 2 ^ 64 →
    s2 ≤ (r2 - 1) * 2 ^ 64 → m < 2 ^ 64 → s1 + m + s2 ≤ (r1 + r2 - 1) * 2 ^ 64
words zero r2 s1 s2 m none a b c = let z : m ≡ 0 = none.first refl in omega arith
words (suc r1) zero s1 s2 m none a b c = let z : m ≡ 0 = none.second refl in omega arith
words (suc r1) (suc r2) s1 s2 m none a b c = omega arith

-- neither is there where both parts are empty
none-there : (r1 r2 : ℕ) (a b : Option ℤ) → (r1 ≡ 0 → a ≡ None) → (r2 ≡ 0 → b ≡ None) →
    r1 + r2 ≡ 0 → first_there a b ≡ None
none-there r1 r2 a b one two z =
    let x : r1 ≡ 0 = omega arith in
    let y : r2 ≡ 0 = omega arith in
    ap (λ o. first_there o b) (one x) ∙ two y

pub invariant_of-result : goal.invariant_of-result
invariant_of-result c =
    let a = c.self.invariant in
    let b = c.other.invariant in
    let r = c.self.inside.rows in
    let s = c.other.inside.rows in
    let x = ap (λ (v : PartState). v.rows) c.self.view_is in
    let y = ap (λ (v : PartState). v.rows) c.other.view_is in
    record {
      few = omega (arith, c.requires, x, y);
      first = (λ z. c.first_there.ensures ∙ none-there _ _ _ _ a.first b.first z);
      last = (λ z. c.first_there-2.ensures ∙ none-there s r _ _ b.last a.last (omega arith));
      driven = omega (arith, a.driven, b.driven);
      still = (let f = c.still_between.ensures in
          let none : AddsNone r s _ = record {
            first = (λ z. f.first (a.last z));
            second = (λ z. f.second (b.first z));
          } in
          ones r s _ _ _ none a.still b.still f.bound);
      travel = (let f = c.way_between.ensures in
          let none : AddsNone r s _ = record {
            first = (λ z. f.first (a.last z));
            second = (λ z. f.second (b.first z));
          } in
          words r s _ _ _ none a.travel b.travel f.bound);
    }
