-- Entries that are kept stay as they are where more is put after what they hold.
-- for: write_trace
use Rattle.std.specs.Prelude.{◌≡◌, refl, ℕ, zero, suc, ◌+◌, ◌-◌, ◌<◌, ◌≤◌, ◌++◌, List, [], ◌∷◌, drop, length, map, slice_get}
use Rattle.std.specs.List.{AllByRecursion}
use Rattle.std.proofs.Common.{◌∙◌, sym, ap, arith}
use Rattle.std.proofs.lemmas.List.{drop-append-le, length-append, length-drop, map-append, take-append-le}
use Rattle.motion_history.specs.Entries.{CyclesAddUp, cycle_count, cycles_of}
use Rattle.trace_text.specs.TraceState.{entry_of}
use Rattle.trace_text.specs.declared.found_list.FoundList.TheInside.{Inside}
use Rattle.trace_text.specs.declared.found.FoundEntry.{FoundEntry}
use Rattle.trace_text.specs.declared.found.FoundEntry.TheVariants as found
use Rattle.trace_text.specs.declared.found_rooms.Kept.{Kept}
use Rattle.trace_text.specs.declared.found_rooms.Kept.TheVariants as kept
use Rattle.trace_text.specs.declared.found_rooms.Rooms.{Rooms}
use Rattle.trace_text.specs.FoundLists.{AreKept, Grows, IsKeptSo, IsThere, Leads, called, entries_of, entry_in, part_of}

-- items that are there stay where more stand after
pub part-stays : {X : Type 0} (xs ys : List X) (from count : ℕ) → Leads xs ys → from + count ≤ length xs → part_of ys from count ≡ part_of xs from count
part-stays xs ys from count l there =
    let d : drop from (xs ++ l.more) ≡ drop from xs ++ l.more = drop-append-le from xs l.more (omega arith) in
    let long : length (drop from xs) ≡ length xs - from = length-drop from xs in
    let enough : count ≤ length (drop from xs) = omega arith in
    rw (l.is, d) (take-append-le count _ l.more enough)

pub longer : {X : Type 0} (xs ys : List X) (n : ℕ) → Leads xs ys → n ≤ length xs → n ≤ length ys
longer xs ys n l there =
    let e : length ys ≡ length xs + length l.more = ap length l.is ∙ length-append xs l.more in
    omega arith

-- an item that is there stays where more stand after
get-front : {X : Type 0} (xs more : List X) (i : ℕ) → i < length xs → slice_get (xs ++ more) i ≡ slice_get xs i
get-front [] more i l = absurd (omega arith)
get-front (x ∷ xs) more zero l = refl
get-front (x ∷ xs) more (suc i) l = get-front xs more i (omega arith)

get-stays : {X : Type 0} (xs ys : List X) (i : ℕ) → Leads xs ys → i < length xs → slice_get ys i ≡ slice_get xs i
get-stays xs ys i l there = ap (λ zs. slice_get zs i) l.is ∙ get-front xs l.more i there

-- an entry that is there stays as it is
pub entry-stays : (old new : Rooms) (k : Kept) → Grows old new → IsThere old k → entry_in new k ≡ entry_in old k
entry-stays old new (kept.Call place) g there = ap called (get-stays old.calls.items new.calls.items place g.calls there)
entry-stays old new (kept.Off instance reply) g there = ap (λ i. found.Call instance i reply) g.off
entry-stays old new (kept.Cycle c) g there =
    rw (
      part-stays old.rows.items new.rows.items c.rows_from c.rows g.rows there.rows,
      part-stays old.group_rows.items new.group_rows.items c.groups_from c.groups g.group_rows there.groups,
      part-stays old.places.items new.places.items c.places_from c.places g.places there.places,
    ) refl
entry-stays old new (kept.End task) g there = refl

-- and is there still
pub there-stays : (old new : Rooms) (k : Kept) → Grows old new → IsThere old k → IsThere new k
there-stays old new (kept.Call place) g there =
    let l : place + 1 ≤ length new.calls.items = longer old.calls.items new.calls.items (place + 1) g.calls (omega (arith, there)) in
    omega (arith, l)
there-stays old new (kept.Off instance reply) g there = there
there-stays old new (kept.Cycle c) g there = record {
  rows = longer old.rows.items new.rows.items _ g.rows there.rows;
  groups = longer old.group_rows.items new.group_rows.items _ g.group_rows there.groups;
  places = longer old.places.items new.places.items _ g.places there.places;
}
there-stays old new (kept.End task) g there = there

-- so do all
pub entries-stay : (old new : Rooms) (ks : List Kept) → Grows old new → AllByRecursion (IsThere old) ks → map (entry_in new) ks ≡ map (entry_in old) ks
entries-stay old new [] g all = refl
entries-stay old new (k ∷ ks) g all = rw (entry-stays old new k g all.0, entries-stay old new ks g all.1) refl

pub all-there : (old new : Rooms) (ks : List Kept) → Grows old new → AllByRecursion (IsThere old) ks → AllByRecursion (IsThere new) ks
all-there old new [] g all = all
all-there old new (k ∷ ks) g all = (there-stays old new k g all.0, all-there old new ks g all.1)

-- an entry more
pub one-more : (r : Rooms) (ks : List Kept) (k : Kept) (e : FoundEntry) → IsKeptSo r e k → map (entry_in r) (ks ++ k ∷ []) ≡ map (entry_in r) ks ++ e ∷ []
one-more r [] k e so = ap (λ x. x ∷ []) so.is
one-more r (x ∷ ks) k e so = ap (λ xs. entry_in r x ∷ xs) (one-more r ks k e so)

pub one-more-there : (r : Rooms) (ks : List Kept) (k : Kept) → AllByRecursion (IsThere r) ks → IsThere r k → AllByRecursion (IsThere r) (ks ++ k ∷ [])
one-more-there r [] k all there = (there, all)
one-more-there r (x ∷ ks) k all there = (all.0, one-more-there r ks k all.1 there)

-- ---- the whole list

-- it is kept where more is put after what its entries hold
pub stay-kept : (l m : Inside) → AreKept l → Grows l.rooms m.rooms → m.kept.items ≡ l.kept.items → m.cycles ≡ l.cycles → AreKept m
stay-kept l m k g is n = record {
  there = rw is (all-there l.rooms m.rooms l.kept.items g k.there);
  cycles = n ∙ k.cycles ∙ ap (λ es. cycles_of (map entry_of es)) (sym (ap (map (entry_in m.rooms)) is ∙ entries-stay l.rooms m.rooms l.kept.items g k.there));
}

-- so it is with an entry more
pub more-is : (l m : Inside) (k : Kept) (e : FoundEntry) → AreKept l → Grows l.rooms m.rooms → m.kept.items ≡ l.kept.items ++ k ∷ [] → IsKeptSo m.rooms e k → entries_of m ≡ entries_of l ++ e ∷ []
more-is l m k e kept' g is so =
    ap (map (entry_in m.rooms)) is ∙ one-more m.rooms l.kept.items k e so ∙ ap (λ es. es ++ e ∷ []) (entries-stay l.rooms m.rooms l.kept.items g kept'.there)

pub more-kept : (l m : Inside) (k : Kept) (e : FoundEntry) → CyclesAddUp → AreKept l → Grows l.rooms m.rooms → m.kept.items ≡ l.kept.items ++ k ∷ [] → IsKeptSo m.rooms e k → m.cycles ≡ l.cycles + cycle_count (entry_of e) → AreKept m
more-kept l m k e adds kept' g is so n = record {
  there = rw is (one-more-there m.rooms l.kept.items k (all-there l.rooms m.rooms l.kept.items g kept'.there) so.there);
  cycles =
      n ∙ ap (λ c. c + cycle_count (entry_of e)) kept'.cycles ∙ sym (adds (map entry_of (entries_of l)) (entry_of e)) ∙
      ap cycles_of (sym (map-append entry_of (entries_of l) (e ∷ []))) ∙ ap (λ es. cycles_of (map entry_of es)) (sym (more-is l m k e kept' g is so));
}
