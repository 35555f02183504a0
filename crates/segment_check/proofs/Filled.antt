-- Machines whose parts are set one after another.
-- for: kernel_of
use Rattle.std.specs.Prelude.{◌≡◌, refl, ℕ, ◌+◌, ◌<◌, Some, List, [], ◌∷◌, ◌++◌, length, slice_get, slice_index_or, slice_set, map, take}
use Rattle.std.specs.Option.{option_map}
use Rattle.std.specs.Prelude.{◌↔◌, Bool, IfOk, IsErr, IsTrue, OnOk, Result, Ok, Err}
use Rattle.fb_outputs.specs.InstanceState.{InstanceState}
use Rattle.std.proofs.Common.{◌∙◌, ap, subst, sym}
use Rattle.std.proofs.lemmas.List.{get_or-set_same, set-set, take_more, take_more_set}
use Rattle.std.proofs.lemmas.Option.{get_or_from_slice_get, slice_get-map, slice_get_within}
use Rattle.axis_core.specs.AxisKept.{IsAxisKept}
use Rattle.axis_core.specs.declared.axis.Axis.{Axis}
use Rattle.command_pool.specs.Layout.{unused}
use Rattle.command_pool.specs.Waiting.{queue_of}
use Rattle.command_pool.specs.declared.wanted.Wanted.{Wanted}
use Rattle.motion_history.specs.Setup.{Setup}
use Rattle.motion_kernel.specs.Machine.{Machine, axis_at, no_axis}
use Rattle.motion_kernel.specs.kept.Machine.{IsMachineKept}
use Rattle.motion_kernel.specs.Segments.{IsEarly}
use Rattle.motion_kernel.specs.owners.Blocks.{OwnersHaveBlocks}

-- every axis of a machine that satisfies the invariant is one
pub axes_kept : (s : Setup) (m : Machine) → IsMachineKept s m → (n : ℕ) (a : Axis) → slice_get m.axes n ≡ Some a → IsAxisKept a
axes_kept s m kept n a at =
    let is : axis_at m n ≡ a = get_or_from_slice_get m.axes n a no_axis at in
    subst IsAxisKept is (kept.axes n (slice_get_within m.axes n a at)).core.axis

-- one command more waits in a list
pub one_waits_more : (qs : List (List Wanted)) (list : ℕ) (ws : List Wanted) (p : ℕ) (w : Wanted) → list < length qs → slice_get ws p ≡ Some w →
    slice_set (slice_set qs list (take p ws)) list (queue_of (slice_set qs list (take p ws)) list ++ w ∷ []) ≡ slice_set qs list (take (p + 1) ws)
one_waits_more qs list ws p w there at =
    let is : slice_index_or ws p unused ≡ w = get_or_from_slice_get ws p w unused at in
    let more : take (p + 1) ws ≡ take p ws ++ w ∷ [] = take_more ws p unused (slice_get_within ws p w at) ∙ ap (λ x. take p ws ++ x ∷ []) is in
    set-set qs list (take p ws) _ ∙ ap (slice_set qs list) (ap (λ q. q ++ w ∷ []) (get_or-set_same qs list (take p ws) [] there) ∙ sym more)

-- one item more is set
pub one_set_more : {X Y : Type 0} (f : X → Y) (xs : List X) (ys : List Y) (i : ℕ) (x : X) → slice_get xs i ≡ Some x → i < length ys → take i ys ≡ take i (map f xs) →
    take (i + 1) (slice_set ys i (f x)) ≡ take (i + 1) (map f xs)
one_set_more f xs ys i x at there before =
    let got : slice_get (map f xs) i ≡ Some (f x) = slice_get-map f xs i ∙ ap (option_map f) at in
    let is : slice_index_or (map f xs) i (f x) ≡ f x = get_or_from_slice_get (map f xs) i (f x) (f x) got in
    let more : take (i + 1) (map f xs) ≡ take i (map f xs) ++ f x ∷ [] =
    take_more (map f xs) i (f x) (slice_get_within (map f xs) i (f x) got) ∙ ap (λ y. take i (map f xs) ++ y ∷ []) is in
    take_more_set ys i (f x) there ∙ ap (λ l. l ++ f x ∷ []) before ∙ sym more

-- a command was put, since the list was not full
pub was_put : {A E : Type 0} (r : Result A E) (P : Type 0) → OnOk r P → (IsErr r → ⊥) → P
was_put (Ok x) P on not = on
was_put (Err e) P on not = absurd (not refl)

-- a machine that differs in one part
pub with_groups : (m : Machine) (axes : List Axis) (queues : List (List Wanted)) (instances : List InstanceState) → m.axes ≡ axes → m.queues ≡ queues → m.instances ≡ instances →
    m ≡ record { axes = axes; groups = m.groups; queues = queues; instances = instances }
with_groups m axes queues instances a q k = λ i. record { axes = a i; groups = m.groups; queues = q i; instances = k i }
