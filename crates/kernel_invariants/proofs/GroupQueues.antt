-- The commands that wait for a group, by their places.
-- for: is_machine_kept
use Rattle.std.specs.Prelude.{◌≡◌, ◌↔◌, refl, ℕ, zero, suc, ◌<◌, Bool, false, IsTrue, Some, List, [], ◌∷◌, length, slice_get}
use Rattle.std.proofs.Common.{arith, subst}
use Rattle.group_core.specs.GroupKept.{AreWaiting, IsWaiting}
use Rattle.command_pool.specs.Layout.{unused}
use Rattle.command_pool.specs.declared.wanted.Wanted.{Wanted}
use Rattle.plc_types.specs.declared.limits.Limits.{Limits}
use Rattle.motion_kernel.proofs.Lists.{get_is}

-- all may wait where each may
pub all_wait : (axes : ℕ) (ls : List Limits) (ws : List Wanted) → ((n : ℕ) (w : Wanted) → n < length ws → slice_get ws n ≡ Some w → IsWaiting axes ls w) →
    AreWaiting axes ls ws
all_wait axes ls [] h = tt
all_wait axes ls (w ∷ ws) h = (h 0 w (omega arith) refl, all_wait axes ls ws (λ n v b e. h (suc n) v (omega arith) e))

-- each may wait where all may
pub each_waits : (axes : ℕ) (ls : List Limits) (ws : List Wanted) (n : ℕ) (w : Wanted) → AreWaiting axes ls ws → slice_get ws n ≡ Some w →
    IsWaiting axes ls w
each_waits axes ls [] n w h e = absurd (cc)
each_waits axes ls (v ∷ ws) zero w h e = let same : v ≡ w = cc in subst (IsWaiting axes ls) same h.0
each_waits axes ls (v ∷ ws) (suc n) w h e = each_waits axes ls ws n w h.1 e

-- not all may wait where one may not
pub not_all : (axes : ℕ) (ls : List Limits) (ws : List Wanted) (i : ℕ) (b : Bool) → i < length ws →
    ((w : Wanted) → slice_get ws i ≡ Some w → IsTrue b ↔ IsWaiting axes ls w) → b ≡ false → AreWaiting axes ls ws → ⊥
not_all axes ls ws i b there law fails all =
    let at = get_is ws i unused there in
    let passes = (law _ at).1 (each_waits axes ls ws i _ all at) in
    absurd (cc)
