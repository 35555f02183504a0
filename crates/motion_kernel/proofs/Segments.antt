-- Segments that follow each other are one history.
-- for: segments_join
use Rattle.std.specs.Prelude.{◌≡◌, refl, ℕ, ◌+◌, List, [], ◌∷◌, ◌++◌}
use Rattle.std.proofs.Common.{arith, subst, ◌∙◌}
use Rattle.motion_history.specs.Entries.{Entry, call, cycle, cycle_count, cycles_of, end_of}
use Rattle.motion_history.specs.Setup.{Setup}
use Rattle.motion_kernel.specs.Segments.{counted_on}
use Rattle.motion_kernel.specs.Histories.{Follows, IsLegalFrom, after, machine_from, replay}
use Rattle.motion_kernel.specs.Machine.{Machine}

-- entries that are counted on lead to the same machine
replay-counted : (s : Setup) (n : ℕ) (m : Machine) (es : List Entry) → replay s m (counted_on n es) ≡ replay s m es
unfolding counted_on
replay-counted s n m [] = refl
replay-counted s n m (call k i r ∷ es) = replay-counted s n (after s m (call k i r)) es
replay-counted s n m (cycle c rows grows ∷ es) = replay-counted s n (after s m (cycle c rows grows)) es
replay-counted s n m (end_of task ∷ es) = replay-counted s n m es

-- and are the machine's after this many cycles more
follows-counted : (s : Setup) (n k : ℕ) (m : Machine) (es : List Entry) → Follows s k m es → Follows s (n + k) m (counted_on n es)
unfolding counted_on
follows-counted s n k m [] f = tt
follows-counted s n k m (call b i r ∷ es) f =
    (f.0, subst (λ z. Follows s z (after s m (call b i r)) (counted_on n es)) (omega arith) (follows-counted s n (k + 0) (after s m (call b i r)) es f.1))
follows-counted s n k m (cycle c rows grows ∷ es) f =
    let one = f.0.0 in (
      (omega arith, f.0.1),
      subst (λ z. Follows s z (after s m (cycle c rows grows)) (counted_on n es)) (omega arith) (follows-counted s n (k + 1) (after s m (cycle c rows grows)) es f.1),
    )
follows-counted s n k m (end_of task ∷ es) f =
    (f.0, subst (λ z. Follows s z m (counted_on n es)) (omega arith) (follows-counted s n (k + 0) m es f.1))

-- the replay of entries after others
pub replay_append : (s : Setup) (m : Machine) (xs ys : List Entry) → replay s m (xs ++ ys) ≡ replay s (replay s m xs) ys
replay_append s m [] ys = refl
replay_append s m (x ∷ xs) ys = replay_append s (after s m x) xs ys

-- entries that are the machine's after others that are
follows-append : (s : Setup) (k : ℕ) (m : Machine) (xs ys : List Entry) → Follows s k m xs → Follows s (k + cycles_of xs) (replay s m xs) ys →
    Follows s k m (xs ++ ys)
follows-append s k m [] ys f g = subst (λ z. Follows s z m ys) (omega arith) g
follows-append s k m (x ∷ xs) ys f g =
    (f.0, follows-append s (k + cycle_count x) (after s m x) xs ys f.1 (subst (λ z. Follows s z (replay s (after s m x) xs) ys) (omega arith) g))

-- a segment after the entries before it
pub joined-follows : (s : Setup) (m : Machine) (before segment : List Entry) → Follows s 0 m before → IsLegalFrom s (machine_from s m before) segment →
    Follows s 0 m (before ++ counted_on (cycles_of before) segment)
unfolding machine_from
joined-follows s m before segment f legal =
    follows-append s 0 m before (counted_on (cycles_of before) segment) f
    (subst (λ z. Follows s z (replay s m before) (counted_on (cycles_of before) segment)) (omega arith)
    (follows-counted s (cycles_of before) 0 (replay s m before) segment legal.follows))

-- leads to the machine to which the segment does
pub joined-machine : (s : Setup) (m : Machine) (before segment : List Entry) →
    machine_from s m (before ++ counted_on (cycles_of before) segment) ≡ machine_from s (machine_from s m before) segment
unfolding machine_from
joined-machine s m before segment =
    replay_append s m before (counted_on (cycles_of before) segment) ∙ replay-counted s (cycles_of before) (replay s m before) segment
