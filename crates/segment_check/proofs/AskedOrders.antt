-- The commands of an axis, part by part.
-- for: kernel_of
use Rattle.std.specs.Prelude.{◌≡◌, ◌↔◌, refl, ℕ, zero, suc, Bool, IsTrue, IfSome, Option, Some, None, List, [], ◌∷◌, slice_get}
use Rattle.std.specs.List.{AllByRecursion}
use Rattle.std.proofs.Common.{subst, sym}
use Rattle.axis_core.specs.declared.axis.Axis.{Axis}
use Rattle.command_pool.specs.declared.wanted.Wanted.{Wanted}
use Rattle.motion_history.specs.Setup.{Setup}
use Rattle.motion_laws.specs.Orders.{AreOrders, IsHeldByStop, IsOrder, IsQueued}
use Rattle.segment_check.specs.Queued.{AreQueued, HasOrders}

all_by : (s : Setup) (n : ℕ) (ws : List Wanted) → AreQueued s n ws → AllByRecursion (IsQueued s n) ws
all_by s n [] h = tt
all_by s n (w ∷ ws) h = (h 0 w refl, all_by s n ws (λ k v at. h (suc k) v at))

each_by : (s : Setup) (n : ℕ) (ws : List Wanted) → AllByRecursion (IsQueued s n) ws → AreQueued s n ws
each_by s n [] h k w at = absurd (cc)
each_by s n (v ∷ ws) h zero w at = let same : v ≡ w = cc in subst (IsQueued s n) same h.0
each_by s n (v ∷ ws) h (suc k) w at = each_by s n ws h.1 k w at

some_by : (s : Setup) (n : ℕ) (o : Option Wanted) → IfSome o (IsOrder s n) →
    (w : Wanted) → o ≡ Some w → IsOrder s n w
some_by s n None h w e = absurd (cc)
some_by s n (Some v) h w e = let same : v ≡ w = cc in subst (IsOrder s n) same h

one_by : (s : Setup) (n : ℕ) (o : Option Wanted) → ((w : Wanted) → o ≡ Some w → IsOrder s n w) →
    IfSome o (IsOrder s n)
one_by s n None h = tt
one_by s n (Some v) h = h v refl

pub orders_by : (s : Setup) (n : ℕ) (a : Axis) (ws : List Wanted) (active : Option Wanted)
    (hold : Option ℕ) (t : Bool) → active ≡ a.active → hold ≡ a.hold →
    IsTrue t ↔ HasOrders s n active hold ws → IsTrue t ↔ AreOrders s n a ws
orders_by s n a ws active hold t is held test = (
  λ e. let h = test.0 e in record {
    active = some_by s n a.active (subst (λ o. IfSome o (IsOrder s n)) is h.command);
    waiting = all_by s n ws h.queue;
    hold = subst (IsHeldByStop s) held h.held;
  },
  λ h. test.1 (record {
    command = subst (λ o. IfSome o (IsOrder s n)) (sym is) (one_by s n a.active h.active);
    held = subst (IsHeldByStop s) (sym held) h.hold;
    queue = each_by s n ws h.waiting;
  }),
)
