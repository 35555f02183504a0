-- The commands that wait for an axis, by their places.
-- for: is_machine_kept
use Rattle.std.specs.Prelude.{◌≡◌, ◌↔◌, refl, ℕ, zero, suc, ◌<◌, Bool, false, IsTrue, Some, List, [], ◌∷◌, length, slice_get}
use Rattle.std.proofs.Common.{arith, subst}
use Rattle.axis_core.specs.AxisKept.{AreWaiting, IsWaiting}
use Rattle.command_pool.specs.Layout.{unused}
use Rattle.command_pool.specs.declared.wanted.Wanted.{Wanted}
use Rattle.plc_types.specs.declared.limits.Limits.{Limits}
use Rattle.motion_kernel.proofs.Lists.{get_is}

-- all may wait where each may
pub all_wait : (l : Limits) (ws : List Wanted) → ((n : ℕ) (w : Wanted) → n < length ws → slice_get ws n ≡ Some w → IsWaiting l w) →
    AreWaiting l ws
all_wait l [] h = tt
all_wait l (w ∷ ws) h = (h 0 w (omega arith) refl, all_wait l ws (λ n v b e. h (suc n) v (omega arith) e))

-- each may wait where all may
pub each_waits : (l : Limits) (ws : List Wanted) (n : ℕ) (w : Wanted) → AreWaiting l ws → slice_get ws n ≡ Some w → IsWaiting l w
each_waits l [] n w h e = absurd (cc)
each_waits l (v ∷ ws) zero w h e = let same : v ≡ w = cc in subst (IsWaiting l) same h.0
each_waits l (v ∷ ws) (suc n) w h e = each_waits l ws n w h.1 e

-- not all may wait where one may not
pub not_all : (l : Limits) (ws : List Wanted) (i : ℕ) (b : Bool) → i < length ws → ((w : Wanted) → slice_get ws i ≡ Some w → IsTrue b ↔ IsWaiting l w) →
    b ≡ false → AreWaiting l ws → ⊥
not_all l ws i b there law fails all =
    let at = get_is ws i unused there in
    let passes = (law _ at).1 (each_waits l ws i _ all at) in
    absurd (cc)
