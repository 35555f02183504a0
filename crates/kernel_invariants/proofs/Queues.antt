-- A queue that is looked at from its first command on.
-- for: have_owners_blocks
use Rattle.std.specs.Prelude.{◌≡◌, ◌↔◌, ℕ, ◌+◌, ◌<◌, Bool, true, IsTrue, Some, List, slice_get}
use Rattle.std.proofs.Common.{arith, ap, ◌∙◌, inl, inr}
use Rattle.std.proofs.lemmas.Bool.{cases_lt}
use Rattle.command_pool.specs.declared.wanted.Wanted.{Wanted}

-- one command more passes
pub one_more : (P : Wanted → Type 0) (ws : List Wanted) (i : ℕ) (b : Bool) →
    ((n : ℕ) (w : Wanted) → n < i → slice_get ws n ≡ Some w → P w) → ((w : Wanted) → slice_get ws i ≡ Some w → IsTrue b ↔ P w) → b ≡ true →
    (n : ℕ) (w : Wanted) → n < i + 1 → slice_get ws n ≡ Some w → P w
one_more P ws i b before law passed n w l e = elim (cases_lt n i) [
  | inl below ↦ before n w below e
  | inr at ↦ let same : i ≡ n = omega arith in (law w (ap (λ k. slice_get ws k) same ∙ e)).0 passed
]
