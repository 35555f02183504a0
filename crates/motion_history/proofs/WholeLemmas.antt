-- The numbers that a history keeps have the bits of their types, and the last cycle that it keeps
-- is the last that was made.
-- for: has_bits, last_cycle, push_group_row and others
use Rattle.std.specs.Prelude.{◌≡◌, refl, ℕ, ◌+◌, ◌-◌, ◌*◌, ◌≤◌, zero, suc, List, [], ◌∷◌, ◌++◌, drop, slice_get, take, All, Option, Some, None}
use Rattle.std.specs.List.{AllByRecursion}
use Rattle.std.specs.Option.{option_map}
use Rattle.std.proofs.Common.{◌∙◌, sym, ap, subst, arith}
use Rattle.std.proofs.lemmas.List.Elements.{All-from_recursion}
use Rattle.motion_history.specs.Bits.{HasBits, HasCallBits, HasGroupRowBits, HasRowBits}
use Rattle.motion_history.specs.declared.entry.CallMade.{CallMade}
use Rattle.motion_history.specs.declared.entry.Stored.{Stored}
use Rattle.motion_history.specs.declared.entry.Stored.TheVariants as stored
use Rattle.motion_history.specs.declared.history.History.TheInside.{Inside}
use Rattle.motion_history.specs.Entries.{HistoryState}
use Rattle.motion_history.specs.Kept.{HaveBits, IsWhole, state_of, store_of}
use Rattle.motion_history.specs.LastCycles.{cycle_in, last_cycle_of, later}
use Rattle.motion_history.specs.Rows.{rows_at}
use Rattle.motion_history.specs.Stored.{Store, call_entry, entries_of, entry_of, last_number_of, number_from, number_in}
use Rattle.motion_history.proofs.DistinctLemmas.{each-append}

-- ---- bits

-- one more that has its bits
pub each-more : {X : Type 0} (P : X → Type 0) (xs more : List X) (x : X) → more ≡ xs ++ x ∷ [] → AllByRecursion P xs → P x → AllByRecursion P more
each-more P xs more x items h here = rw items (each-append P xs (x ∷ []) h (here, tt))

each-take : {X : Type 0} (P : X → Type 0) (n : ℕ) (xs : List X) → AllByRecursion P xs → AllByRecursion P (take n xs)
each-take P zero xs h = tt
each-take P (suc n) [] h = tt
each-take P (suc n) (x ∷ xs) h = (h.0, each-take P n xs h.1)

each-drop : {X : Type 0} (P : X → Type 0) (n : ℕ) (xs : List X) → AllByRecursion P xs → AllByRecursion P (drop n xs)
each-drop P zero xs h = h
each-drop P (suc n) [] h = tt
each-drop P (suc n) (x ∷ xs) h = each-drop P n xs h.1

-- what holds of each holds of the one at a place
each-at : {X : Type 0} (P : X → Type 0) (xs : List X) (n : ℕ) (x : X) → AllByRecursion P xs → slice_get xs n ≡ Some x → P x
each-at P [] n x h at = absurd (cc)
each-at P (y ∷ xs) zero x h at = let same : y ≡ x = cc in subst P same h.0
each-at P (y ∷ xs) (suc n) x h at = each-at P xs n x h.1 at

-- the rows of a cycle
rows-bits : {X : Type 0} (P : X → Type 0) (width n : ℕ) (rows : List X) → AllByRecursion P rows → AllByRecursion P (rows_at width n rows)
rows-bits P width n rows h = each-take P width _ (each-drop P ((n - 1) * width) rows h)

call-bits : (o : Option CallMade) → ((c : CallMade) → o ≡ Some c → HasCallBits c.inputs c.reply) → HasBits (call_entry o)
call-bits None h = tt
call-bits (Some c) h = h c refl

-- an entry that is kept
entry-bits : (h : Inside) → HaveBits h → (e : Stored) → HasBits (entry_of (store_of h) e)
entry-bits h b (stored.Call place) =
    call-bits (slice_get h.calls.items place) (λ c at. each-at (λ (c : CallMade). HasCallBits c.inputs c.reply) h.calls.items place c b.calls at)
entry-bits h b (stored.Cycle n) =
    (rows-bits HasRowBits h.axes n h.axis_rows.items b.axis_rows, rows-bits HasGroupRowBits h.groups n h.group_rows.items b.group_rows)
entry-bits h b (stored.End task) = tt

kept-bits : (h : Inside) → HaveBits h → (es : List Stored) → AllByRecursion HasBits (entries_of (store_of h) es)
unfolding entries_of
kept-bits h b [] = tt
kept-bits h b (e ∷ es) = (entry-bits h b e, kept-bits h b es)

-- the entries of a history
pub entries-bits : (h : Inside) (s : HistoryState) → IsWhole h → state_of h ≡ s → All HasBits s.entries
entries-bits h s w e =
    let here : All HasBits (state_of h).entries = All-from_recursion HasBits (state_of h).entries (kept-bits h w.bits h.stored.items) in
    subst (λ (t : HistoryState). All HasBits t.entries) e here

-- ---- the last cycle

later-first : {X : Type 0} (x : Option X) → later None x ≡ x
later-first None = refl
later-first (Some x) = refl

later-later : {X : Type 0} (x y z : Option X) → later x (later y z) ≡ later (later x y) z
later-later x y None = refl
later-later x y (Some z) = refl

later-map : {X Y : Type 0} (f : X → Y) (x y : Option X) → later (option_map f x) (option_map f y) ≡ option_map f (later x y)
later-map f x None = refl
later-map f x (Some y) = refl

-- one more that is kept is the last, if it is a cycle
pub last-more : (es : List Stored) (e : Stored) → last_number_of (es ++ e ∷ []) ≡ later (last_number_of es) (number_in e)
last-more [] e = sym (later-first (number_in e))
last-more (d ∷ es) e = ap (later (number_in d)) (last-more es e) ∙ later-later (number_in d) (last_number_of es) (number_in e)

-- the number after one counts from 1
pub from-next : (n : ℕ) → Some (n + 1) ≡ number_from (n + 1)
from-next n = let next : n + 1 ≡ suc n = omega arith in (λ i. Some (next i)) ∙ ap number_from (sym next)

no-cycle : (o : Option CallMade) → cycle_in (call_entry o) ≡ None
no-cycle None = refl
no-cycle (Some c) = refl

cycle-kept : (s : Store) (e : Stored) → cycle_in (entry_of s e) ≡ option_map (λ n. entry_of s (stored.Cycle n)) (number_in e)
cycle-kept s (stored.Call place) = no-cycle (slice_get s.calls place)
cycle-kept s (stored.Cycle n) = refl
cycle-kept s (stored.End task) = refl

-- the last cycle of the entries is the last that is kept
last-kept : (s : Store) (es : List Stored) → last_cycle_of (entries_of s es) ≡ option_map (λ n. entry_of s (stored.Cycle n)) (last_number_of es)
unfolding entries_of
last-kept s [] = refl
last-kept s (e ∷ es) =
    (λ i. later (cycle-kept s e i) (last-kept s es i)) ∙ later-map (λ n. entry_of s (stored.Cycle n)) (number_in e) (last_number_of es)

-- the last cycle of a history is the last that was made
pub last-made : (h : Inside) (s : HistoryState) → IsWhole h → state_of h ≡ s →
    option_map (λ n. entry_of (store_of h) (stored.Cycle n)) (number_from h.made) ≡ last_cycle_of s.entries
last-made h s w e =
    ap (option_map (λ n. entry_of (store_of h) (stored.Cycle n))) (sym w.last) ∙ sym (last-kept (store_of h) h.stored.items) ∙
    ap (λ (t : HistoryState). last_cycle_of t.entries) e

-- there is none before the first
pub none-made : (h : Inside) (s : HistoryState) → IsWhole h → state_of h ≡ s → h.made ≡ 0 → None ≡ last_cycle_of s.entries
none-made h s w e none =
    ap (λ k. option_map (λ n. entry_of (store_of h) (stored.Cycle n)) (number_from k)) (sym none) ∙ last-made h s w e

from-some : (n : ℕ) → 1 ≤ n → Some n ≡ number_from n
from-some zero some = absurd (omega arith)
from-some (suc n) some = refl

-- it is the one of the last number
pub some-made : (h : Inside) (s : HistoryState) → IsWhole h → state_of h ≡ s → 1 ≤ h.made →
    Some (entry_of (store_of h) (stored.Cycle h.made)) ≡ last_cycle_of s.entries
some-made h s w e some = ap (option_map (λ n. entry_of (store_of h) (stored.Cycle n))) (from-some h.made some) ∙ last-made h s w e
