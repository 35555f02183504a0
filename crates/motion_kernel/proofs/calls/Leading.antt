-- Axes that go on their group's path, or leave it.
-- for: owners_have_blocks
use Rattle.std.specs.Prelude.{◌≡◌, refl, ℕ, zero, suc, ◌+◌, ◌<◌, Bool, true, false, List, [], ◌∷◌, length, drop, slice_set, slice_index_or}
use Rattle.std.proofs.Common.{arith, ap, ◌∙◌}
use Rattle.axis_core.specs.blocks.Path.{axis_on_path, is_on_path}
use Rattle.axis_core.specs.declared.axis.Axis.{Axis}
use Rattle.motion_kernel.specs.calls.Calls.{axes_led, axis_led}
use Rattle.motion_kernel.specs.Machine.{Machine, axis_at, no_axis}
use Rattle.motion_kernel.specs.members.Members.{member_at}
use Rattle.motion_kernel.specs.kept.Ready.{RestOnPaths}

-- what holds of the elements of a list and of another one, holds of those of the list in which that
-- one is written
pub at_set : {X : Type 0} (P : X → Type 0) (xs : List X) (i k : ℕ) (v d : X) → P (slice_index_or xs k d) → P v → P (slice_index_or (slice_set xs i v) k d)
at_set P [] i k v d p q = p
at_set P (x ∷ xs) zero zero v d p q = q
at_set P (x ∷ xs) zero (suc k) v d p q = p
at_set P (x ∷ xs) (suc i) zero v d p q = p
at_set P (x ∷ xs) (suc i) (suc k) v d p q = at_set P xs i k v d p q

-- an axis that is on a path rests
abbrev pub Rests : Axis → Type 0
Rests a = is_on_path a ≡ true → a.previous ≡ a.setpoint

rests_by : (b : Bool) (a : Axis) → is_on_path a ≡ b → Rests a → Rests (axis_led false a)
unfolding axis_on_path
rests_by true a e h = rw e (λ on. h e)
rests_by false a e h = rw e h

pub led_rests : (a : Axis) → Rests a → Rests (axis_led false a)
led_rests a h = rests_by (is_on_path a) a refl h

-- the machine with one axis led
abbrev pub one_led : Bool → ℕ → Machine → Machine
one_led on n m = record m { axes = slice_set m.axes n (axis_led on (axis_at m n)) }

led_suc : (on : Bool) (members : List ℕ) (i : ℕ) (m : Machine) → i < length members →
    axes_led on (drop i members) m ≡ axes_led on (drop (suc i) members) (one_led on (member_at members i) m)
led_suc on [] i m l = absurd (omega arith)
led_suc on (n ∷ ns) zero m l = refl
led_suc on (n ∷ ns) (suc i) m l = led_suc on ns i m (omega arith)

-- one axis after another is led
pub led_step : (on : Bool) (members : List ℕ) (i : ℕ) (m : Machine) → i < length members →
    axes_led on (drop i members) m ≡ axes_led on (drop (i + 1) members) (one_led on (member_at members i) m)
led_step on members i m l =
    let same : suc i ≡ i + 1 = omega arith in
    led_suc on members i m l ∙ ap (λ k. axes_led on (drop k members) (one_led on (member_at members i) m)) same

-- and those that are on a path still rest
pub rest_led : (m : Machine) (members : List ℕ) (i : ℕ) → i < length members → RestOnPaths m members →
    RestOnPaths (one_led false (member_at members i) m) members
rest_led m members i l h place p =
    at_set Rests m.axes (member_at members i) (member_at members place) (axis_led false (axis_at m (member_at members i))) no_axis
    (h place p) (led_rests (axis_at m (member_at members i)) (h i l))
