-- A list is put together with what stands at each place, item by item.
-- for: scope
use Rattle.std.proofs.Common.{◌≡◌, ℕ, ◌<◌, ◌≤◌, List, length, slice_index_or}

-- the items below a place are put together by f, the others are as before
pub record IsJoined {X : Type 0} (f : X → X → X) (others : ℕ → X → X) (old now : List X) (i : ℕ)
    : Type 0 where
  pub len : length now ≡ length old
  pub done : (a : ℕ) (d : X) → a < i → a < length old →
      slice_index_or now a d ≡ f (slice_index_or old a d) (others a d)
  pub left : (a : ℕ) (d : X) → i ≤ a → a < length old →
      slice_index_or now a d ≡ slice_index_or old a d
