-- The greatest number that passes a test. This project's profile.
use Rattle.std.specs.Prelude.{◌≡◌, ℕ, ◌≤◌, zero, suc, Bool, true, Option, Some, None, if◌then◌else◌}

-- the greatest number up to n that passes the test, if there is one
unfoldable pub greatest : ℕ → (ℕ → Bool) → Option ℕ
greatest zero test = if test zero then Some zero else None
greatest (suc n) test = if test (suc n) then Some (suc n) else greatest n test

-- what is found up to n: a number that passes, and no greater one up to n does; or none up to n
-- passes
pub data IsFound (n : ℕ) (test : ℕ → Bool) (found : Option ℕ) : Type 0 where
  found_at : (g : ℕ) → found ≡ Some g → test g ≡ true →
      ((m : ℕ) → m ≤ n → test m ≡ true → m ≤ g) → IsFound n test found
  found_none : found ≡ None → ((m : ℕ) → m ≤ n → test m ≡ true → ⊥) → IsFound n test found
