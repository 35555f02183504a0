-- A history keeps its arrays in step with its entries.
-- for: room_left
use Rattle.std.specs.Prelude.{◌≡◌, refl, ℕ, ◌+◌, ◌-◌, ◌*◌, ◌≤◌, ◌<◌, List, [], ◌∷◌, ◌++◌, drop, length, vec_len, vec_capacity, slice_get, Option, Some}
use Rattle.std.specs.Option.{option_map}
use Rattle.std.proofs.Common.{Vec, Global, ◌∙◌, sym, ap, arith}
use Rattle.std.proofs.Math.Nat.{mul-le-mul_right}
use Rattle.std.proofs.lemmas.List.{append-nil, drop-append-le, drop_all, length-drop}
use Rattle.plc_types.specs.declared.axis.AxisRow.{AxisRow}
use Rattle.plc_types.specs.declared.group.GroupRow.{GroupRow}
use Rattle.motion_history.specs.declared.entry.CallMade.{CallMade}
use Rattle.motion_history.specs.declared.entry.Stored.{Stored}
use Rattle.motion_history.specs.declared.entry.Stored.TheVariants as stored
use Rattle.motion_history.specs.declared.history.History.TheInside.{Inside}
use Rattle.motion_history.specs.Entries.{Entry, call, cycle, end_of, cycle_count, cycles_of, HistoryState}
use Rattle.motion_history.specs.Stored.{call_entry, entry_of, entries_of, IsMade, IsThere}
use Rattle.motion_history.specs.Kept.{store_of, state_of, IsKept}
use Rattle.motion_history.proofs.DistinctLemmas.{each-append}
use Rattle.motion_history.proofs.HistoryLemmas.{Extends, cycles_of-more, length-entries_of, entries_of-none, entries_of-more, entries_of-extends, slice_get-entries_of, rows_at-next, AllMade-later, AllMade-at}

-- this many entries are kept
pub kept-length : (h : Inside) → length (state_of h).entries ≡ vec_len h.stored
kept-length h = length-entries_of (store_of h) h.stored.items ∙ sym h.stored.ok.0

-- there is room for an entry
pub has-room : (h : Inside) (s : HistoryState) → state_of h ≡ s → length s.entries < s.room → vec_len h.stored < h.room
has-room h s e l =
    let n : length (state_of h).entries ≡ length s.entries = ap (λ (t : HistoryState). length t.entries) e in
    let m : h.room ≡ s.room = ap (λ (t : HistoryState). t.room) e in
    omega (arith, kept-length h)

-- there is a cycle left
pub has-cycle : (h : Inside) (s : HistoryState) → IsKept h → state_of h ≡ s → cycles_of s.entries < s.cycles → h.made < h.most
has-cycle h s k e l =
    let n : cycles_of (state_of h).entries ≡ cycles_of s.entries = ap (λ (t : HistoryState). cycles_of t.entries) e in
    let m : h.most ≡ s.cycles = ap (λ (t : HistoryState). t.cycles) e in
    omega (arith, k.cycles)

-- there is room for a row of a cycle in the making
pub few-rows : (h : Inside) (s : HistoryState) → state_of h ≡ s → length s.rows < s.axes → length (state_of h).rows < h.axes
few-rows h s e l =
    let n : length (state_of h).rows ≡ length s.rows = ap (λ (t : HistoryState). length t.rows) e in
    let m : h.axes ≡ s.axes = ap (λ (t : HistoryState). t.axes) e in
    omega arith

pub few-group_rows : (h : Inside) (s : HistoryState) → state_of h ≡ s → length s.group_rows < s.groups →
    length (state_of h).group_rows < h.groups
few-group_rows h s e l =
    let n : length (state_of h).group_rows ≡ length s.group_rows = ap (λ (t : HistoryState). length t.group_rows) e in
    let m : h.groups ≡ s.groups = ap (λ (t : HistoryState). t.groups) e in
    omega arith

-- ---- one more entry

-- one more entry, for which the arrays have room, beside what it holds
pub record AddsEntry (h next : Inside) (e : Stored) : Type 0 where
  pub extends : Extends (store_of h) (store_of next) (vec_len h.calls) h.made
  pub entry : next.stored.items ≡ h.stored.items ++ e ∷ []
  pub entry_len : vec_len next.stored ≡ vec_len h.stored + 1
  pub made : IsMade (vec_len next.calls) next.made e
  pub room : next.room ≡ h.room
  pub most : next.most ≡ h.most

-- the entries with one more
pub entries-next : (h next : Inside) (e : Stored) → IsKept h → AddsEntry h next e →
    entries_of (store_of next) next.stored.items ≡ entries_of (store_of h) h.stored.items ++ entry_of (store_of next) e ∷ []
entries-next h next e k a =
    ap (entries_of (store_of next)) a.entry ∙ entries_of-more (store_of next) h.stored.items e ∙
    ap (λ es. es ++ entry_of (store_of next) e ∷ [])
    (entries_of-extends (store_of h) (store_of next) (vec_len h.calls) h.made h.stored.items a.extends k.numbers)

-- the history with one more entry, and the rows that a cycle in the making then has
abbrev pub with_entry : HistoryState → Entry → HistoryState → HistoryState
with_entry s entry next = record s { entries = s.entries ++ entry ∷ []; rows = next.rows; group_rows = next.group_rows }

pub state-next : (h next : Inside) (e : Stored) (entry : Entry) → IsKept h → AddsEntry h next e → entry_of (store_of next) e ≡ entry →
    state_of next ≡ with_entry (state_of h) entry (state_of next)
state-next h next e entry k a is =
    let entries = entries-next h next e k a ∙ ap (λ d. (state_of h).entries ++ d ∷ []) is in
    λ i. record {
      axes = a.extends.axes i;
      groups = a.extends.groups i;
      room = a.room i;
      cycles = a.most i;
      entries = entries i;
      rows = (state_of next).rows;
      group_rows = (state_of next).group_rows;
    }

-- how the lengths and the room of the arrays grow
pub record GrowsBy (h next : Inside) (called cycled : ℕ) : Type 0 where
  pub stored_room : vec_capacity next.stored ≡ vec_capacity h.stored
  pub calls : vec_len next.calls ≡ vec_len h.calls + called
  pub few_calls : called ≤ 1
  pub calls_room : vec_capacity next.calls ≡ vec_capacity h.calls
  pub axis_rows : next.made * h.axes ≤ vec_len next.axis_rows
  pub axis_room : vec_capacity h.axis_rows ≤ vec_capacity next.axis_rows
  pub group_rows : next.made * h.groups ≤ vec_len next.group_rows
  pub group_room : vec_capacity h.group_rows ≤ vec_capacity next.group_rows
  pub made : next.made ≡ h.made + cycled

-- one more entry keeps the arrays in step
pub IsKept-next : (h next : Inside) (e : Stored) (calls cycles : ℕ) → IsKept h → AddsEntry h next e → GrowsBy h next calls cycles →
    cycle_count (entry_of (store_of next) e) ≡ cycles → vec_len h.stored < h.room → next.made ≤ h.most → IsKept next
IsKept-next h next e calls cycles k a g counted room made =
    let entries = ap cycles_of (entries-next h next e k a) ∙ cycles_of-more _ _ in
    let axes : next.axes ≡ h.axes = a.extends.axes in
    let groups : next.groups ≡ h.groups = a.extends.groups in
    record {
      stored = omega (arith, a.entry_len, a.room);
      stored_room = omega (arith, k.stored_room, g.stored_room, a.room);
      calls = omega (arith, k.calls, g.calls, g.few_calls, a.entry_len);
      calls_room = omega (arith, k.calls_room, g.calls_room, a.room);
      axis_rows = rw axes g.axis_rows;
      axis_room = rw (axes, a.most) (omega (arith, k.axis_room, g.axis_room));
      group_rows = rw groups g.group_rows;
      group_room = rw (groups, a.most) (omega (arith, k.group_room, g.group_room));
      made = omega (arith, a.most);
      cycles = omega (arith, entries, counted, k.cycles, g.made);
      numbers = rw a.entry
          (each-append _ h.stored.items (e ∷ [])
          (AllMade-later (vec_len h.calls) h.made (vec_len next.calls) next.made (omega (arith, g.calls)) (omega (arith, g.made)) h.stored.items k.numbers)
          (a.made, tt));
    }

-- the history that is kept has one more entry
pub record IsNext (h next : Inside) (entry : Entry) : Type 0 where
  pub kept : IsKept next
  pub state : state_of next ≡ with_entry (state_of h) entry (state_of next)

is_next : (h next : Inside) (e : Stored) (entry : Entry) (calls cycles : ℕ) → IsKept h → AddsEntry h next e → GrowsBy h next calls cycles →
    entry_of (store_of next) e ≡ entry → cycle_count entry ≡ cycles → vec_len h.stored < h.room → next.made ≤ h.most → IsNext h next entry
is_next h next e entry calls cycles k a g is counted room made = record {
  kept = IsKept-next h next e calls cycles k a g (ap cycle_count is ∙ counted) room made;
  state = state-next h next e entry k a is;
}

-- the history that contracts see has one more entry, and the rows of a cycle in the making as
-- before
pub state-then : (h next : Inside) (s : HistoryState) (entry : Entry) → IsNext h next entry →
    (state_of next).rows ≡ (state_of h).rows → (state_of next).group_rows ≡ (state_of h).group_rows → state_of h ≡ s →
    state_of next ≡ record s { entries = s.entries ++ entry ∷ [] }
state-then h next s entry n rows groups e =
    n.state ∙ (λ i. record (state_of h) { entries = (state_of h).entries ++ entry ∷ []; rows = rows i; group_rows = groups i }) ∙
    ap (λ (t : HistoryState). record t { entries = t.entries ++ entry ∷ [] }) e

-- the rows of all cycles stand there
rows_there : {X : Type 0} (rows : Vec X Global) (made width : ℕ) → made * width ≤ vec_len rows → made * width ≤ length rows.items
rows_there rows made width h = let l : vec_len rows ≡ length rows.items = rows.ok.0 in omega arith

-- a store with more calls alone
more_calls : (h : Inside) (entries : Vec Stored Global) (calls : Vec CallMade Global) (more : List CallMade) → IsKept h →
    calls.items ≡ h.calls.items ++ more →
    Extends (store_of h) (store_of (record h { stored = entries; calls = calls })) (vec_len h.calls) h.made
more_calls h entries calls more k items = record {
  axes = refl;
  groups = refl;
  new_calls = more;
  calls = items;
  few_calls = let l : vec_len h.calls ≡ length h.calls.items = h.calls.ok.0 in omega arith;
  new_axes = [];
  axis_rows = sym (append-nil _);
  all_axes = rows_there h.axis_rows h.made h.axes k.axis_rows;
  new_groups = [];
  group_rows = sym (append-nil _);
  all_groups = rows_there h.group_rows h.made h.groups k.group_rows;
}

-- what a call adds to the arrays
pub record AddsCall (h : Inside) (entries : Vec Stored Global) (calls : Vec CallMade Global) (place : ℕ) (c : CallMade) : Type 0 where
  pub entry : entries.items ≡ h.stored.items ++ stored.Call place ∷ []
  pub entry_len : vec_len entries ≡ vec_len h.stored + 1
  pub entry_room : vec_capacity entries ≡ vec_capacity h.stored
  pub call_items : calls.items ≡ h.calls.items ++ c ∷ []
  pub call_len : vec_len calls ≡ vec_len h.calls + 1
  pub call_room : vec_capacity calls ≡ vec_capacity h.calls
  pub last : place ≡ vec_len h.calls

-- the last element stands after the others
slice_get-last : {X : Type 0} (xs : List X) (x : X) → slice_get (xs ++ x ∷ []) (length xs) ≡ Some x
slice_get-last [] x = refl
slice_get-last (y ∷ xs) x = slice_get-last xs x

-- the history with one more call
pub call-next : (h : Inside) (entries : Vec Stored Global) (calls : Vec CallMade Global) (place : ℕ) (c : CallMade) → IsKept h →
    vec_len h.stored < h.room → AddsCall h entries calls place c →
    IsNext h (record h { stored = entries; calls = calls }) (call c.instance c.inputs c.reply)
call-next h entries calls place c k room a =
    let next : Inside = record h { stored = entries; calls = calls } in
    let at : slice_get calls.items place ≡ Some c =
    (λ i. slice_get (a.call_items i) ((a.last ∙ h.calls.ok.0) i)) ∙ slice_get-last h.calls.items c in
    let adds : AddsEntry h next (stored.Call place) = record {
      extends = more_calls h entries calls (c ∷ []) k a.call_items;
      entry = a.entry;
      entry_len = a.entry_len;
      made = omega (arith, a.call_len, a.last);
      room = refl;
      most = refl;
    } in
    let grows : GrowsBy h next 1 0 = record {
      stored_room = a.entry_room;
      calls = a.call_len;
      few_calls = omega arith;
      calls_room = a.call_room;
      axis_rows = k.axis_rows;
      axis_room = omega arith;
      group_rows = k.group_rows;
      group_room = omega arith;
      made = omega arith;
    } in
    is_next h next (stored.Call place) _ 1 0 k adds grows (ap call_entry at) refl room k.made

-- the history with one more end of a task
pub end-next : (h : Inside) (entries : Vec Stored Global) (task : ℕ) → IsKept h → vec_len h.stored < h.room →
    entries.items ≡ h.stored.items ++ stored.End task ∷ [] → vec_len entries ≡ vec_len h.stored + 1 →
    vec_capacity entries ≡ vec_capacity h.stored → IsNext h (record h { stored = entries }) (end_of task)
end-next h entries task k room items len capacity =
    let next : Inside = record h { stored = entries } in
    let adds : AddsEntry h next (stored.End task) = record {
      extends = more_calls h entries h.calls [] k (sym (append-nil _));
      entry = items;
      entry_len = len;
      made = tt;
      room = refl;
      most = refl;
    } in
    let grows : GrowsBy h next 0 0 = record {
      stored_room = capacity;
      calls = omega arith;
      few_calls = omega arith;
      calls_room = refl;
      axis_rows = k.axis_rows;
      axis_room = omega arith;
      group_rows = k.group_rows;
      group_room = omega arith;
      made = omega arith;
    } in
    is_next h next (stored.End task) _ 0 0 k adds grows refl refl room k.made

-- what stands after the rows of all cycles is the cycle in the making
behind : {X : Type 0} (rows : Vec X Global) (made width : ℕ) → made * width ≤ vec_len rows → length (drop (made * width) rows.items) ≡ width →
    (made + 1) * width ≡ vec_len rows
behind rows made width there len =
    let l : vec_len rows ≡ length rows.items = rows.ok.0 in
    let d : length (drop (made * width) rows.items) ≡ length rows.items - made * width = length-drop _ rows.items in
    omega arith

-- after the rows of as many cycles as there are, none stand
none_behind : {X : Type 0} (rows : Vec X Global) (n : ℕ) → n ≡ vec_len rows → drop n rows.items ≡ []
none_behind rows n e = drop_all n rows.items (let l : vec_len rows ≡ length rows.items = rows.ok.0 in omega arith)

-- the history with one more cycle
pub cycle-next : (h : Inside) (entries : Vec Stored Global) → IsKept h → vec_len h.stored < h.room → h.made < h.most →
    length (state_of h).rows ≡ h.axes → length (state_of h).group_rows ≡ h.groups →
    entries.items ≡ h.stored.items ++ stored.Cycle (h.made + 1) ∷ [] → vec_len entries ≡ vec_len h.stored + 1 →
    vec_capacity entries ≡ vec_capacity h.stored →
    IsNext h (record h { stored = entries; made = h.made + 1 })
    (cycle (cycles_of (state_of h).entries + 1) (state_of h).rows (state_of h).group_rows)
cycle-next h entries k room more axes groups items len capacity =
    let next : Inside = record h { stored = entries; made = h.made + 1 } in
    let all_axes = behind h.axis_rows h.made h.axes k.axis_rows axes in
    let all_groups = behind h.group_rows h.made h.groups k.group_rows groups in
    let adds : AddsEntry h next (stored.Cycle (h.made + 1)) = record {
      extends = more_calls h entries h.calls [] k (sym (append-nil _));
      entry = items;
      entry_len = len;
      made = (omega arith, omega arith);
      room = refl;
      most = refl;
    } in
    let grows : GrowsBy h next 0 1 = record {
      stored_room = capacity;
      calls = omega arith;
      few_calls = omega arith;
      calls_room = refl;
      axis_rows = omega (arith, all_axes);
      axis_room = omega arith;
      group_rows = omega (arith, all_groups);
      group_room = omega arith;
      made = refl;
    } in
    let rows = rows_at-next h.axes h.made h.axis_rows.items axes in
    let group_rows_are = rows_at-next h.groups h.made h.group_rows.items groups in
    is_next h next (stored.Cycle (h.made + 1)) _ 0 1 k adds grows (λ i. cycle (k.cycles i + 1) (rows i) (group_rows_are i)) refl room (omega arith)

-- after it no cycle is in the making
pub cycle-then : (h : Inside) (entries : Vec Stored Global) (s : HistoryState) → IsKept h → length (state_of h).rows ≡ h.axes →
    length (state_of h).group_rows ≡ h.groups →
    IsNext h (record h { stored = entries; made = h.made + 1 })
    (cycle (cycles_of (state_of h).entries + 1) (state_of h).rows (state_of h).group_rows) → state_of h ≡ s →
    state_of (record h { stored = entries; made = h.made + 1 }) ≡ record s {
      entries = s.entries ++ cycle (cycles_of s.entries + 1) s.rows s.group_rows ∷ [];
      rows = [];
      group_rows = [];
    }
cycle-then h entries s k axes groups n e =
    let rows = none_behind h.axis_rows ((h.made + 1) * h.axes) (behind h.axis_rows h.made h.axes k.axis_rows axes) in
    let group_rows_are = none_behind h.group_rows ((h.made + 1) * h.groups) (behind h.group_rows h.made h.groups k.group_rows groups) in
    n.state ∙
    (λ i. record (state_of h) {
      entries = (state_of h).entries ++ cycle (cycles_of (state_of h).entries + 1) (state_of h).rows (state_of h).group_rows ∷ [];
      rows = rows i;
      group_rows = group_rows_are i;
    }) ∙
    ap
    (λ (t : HistoryState). record t {
      entries = t.entries ++ cycle (cycles_of t.entries + 1) t.rows t.group_rows ∷ [];
      rows = [];
      group_rows = [];
    }) e

-- ---- rows of a cycle in the making

-- there is room for a row
pub row-room : {X : Type 0} (rows : Vec X Global) (made most width : ℕ) → made * width ≤ vec_len rows → made < most →
    most * width ≤ vec_capacity rows → length (drop (made * width) rows.items) < width → vec_len rows < vec_capacity rows
row-room rows made most width there more room few =
    let l : vec_len rows ≡ length rows.items = rows.ok.0 in
    let d : length (drop (made * width) rows.items) ≡ length rows.items - made * width = length-drop _ rows.items in
    let whole : (made + 1) * width ≤ most * width = mul-le-mul_right width (omega arith) in
    omega arith

-- a row stands after those that a cycle in the making has
pub row-behind : {X : Type 0} (rows more : Vec X Global) (n : ℕ) (row : X) → n ≤ vec_len rows → more.items ≡ rows.items ++ row ∷ [] →
    drop n more.items ≡ drop n rows.items ++ row ∷ []
row-behind rows more n row there items =
    let l : vec_len rows ≡ length rows.items = rows.ok.0 in
    ap (drop n) items ∙ drop-append-le n rows.items (row ∷ []) (omega arith)

-- the entries with more rows after those of all cycles
entries-same : (h next : Inside) → IsKept h → Extends (store_of h) (store_of next) (vec_len h.calls) h.made → next.stored ≡ h.stored →
    (state_of next).entries ≡ (state_of h).entries
entries-same h next k x same =
    ap (λ (v : Vec Stored Global). entries_of (store_of next) v.items) same ∙
    entries_of-extends (store_of h) (store_of next) (vec_len h.calls) h.made h.stored.items x k.numbers

-- a row more of an axis extends what stands beside the entries
more_rows : (h : Inside) (rows : Vec AxisRow Global) (groups : Vec GroupRow Global) (more : List AxisRow) (more_groups : List GroupRow) →
    IsKept h → rows.items ≡ h.axis_rows.items ++ more → groups.items ≡ h.group_rows.items ++ more_groups →
    Extends (store_of h) (store_of (record h { axis_rows = rows; group_rows = groups })) (vec_len h.calls) h.made
more_rows h rows groups more more_groups k items group_items = record {
  axes = refl;
  groups = refl;
  new_calls = [];
  calls = sym (append-nil _);
  few_calls = let l : vec_len h.calls ≡ length h.calls.items = h.calls.ok.0 in omega arith;
  new_axes = more;
  axis_rows = items;
  all_axes = rows_there h.axis_rows h.made h.axes k.axis_rows;
  new_groups = more_groups;
  group_rows = group_items;
  all_groups = rows_there h.group_rows h.made h.groups k.group_rows;
}

-- the history whose cycle in the making has a row more
pub record HasRow (h next : Inside) (rows : List AxisRow) (groups : List GroupRow) : Type 0 where
  pub kept : IsKept next
  pub state : state_of next ≡ record (state_of h) { rows = rows; group_rows = groups }

-- an axis's row more
pub row-next : (h : Inside) (rows : Vec AxisRow Global) (row : AxisRow) → IsKept h → rows.items ≡ h.axis_rows.items ++ row ∷ [] →
    vec_len rows ≡ vec_len h.axis_rows + 1 → vec_capacity rows ≡ vec_capacity h.axis_rows →
    HasRow h (record h { axis_rows = rows }) ((state_of h).rows ++ row ∷ []) (state_of h).group_rows
row-next h rows row k items len capacity =
    let next : Inside = record h { axis_rows = rows } in
    let entries = entries-same h next k (more_rows h rows h.group_rows (row ∷ []) [] k items (sym (append-nil _))) refl in
    let behind_is = row-behind h.axis_rows rows (h.made * h.axes) row k.axis_rows items in
    record {
      kept = record {
        stored = k.stored;
        stored_room = k.stored_room;
        calls = k.calls;
        calls_room = k.calls_room;
        axis_rows = let l = k.axis_rows in omega (arith, len);
        axis_room = let l = k.axis_room in omega (arith, capacity);
        group_rows = k.group_rows;
        group_room = k.group_room;
        made = k.made;
        cycles = k.cycles ∙ sym (ap cycles_of entries);
        numbers = k.numbers;
      };
      state = λ i. record (state_of h) { entries = entries i; rows = behind_is i };
    }

-- a group's row more
pub group_row-next : (h : Inside) (rows : Vec GroupRow Global) (row : GroupRow) → IsKept h → rows.items ≡ h.group_rows.items ++ row ∷ [] →
    vec_len rows ≡ vec_len h.group_rows + 1 → vec_capacity rows ≡ vec_capacity h.group_rows →
    HasRow h (record h { group_rows = rows }) (state_of h).rows ((state_of h).group_rows ++ row ∷ [])
group_row-next h rows row k items len capacity =
    let next : Inside = record h { group_rows = rows } in
    let entries = entries-same h next k (more_rows h h.axis_rows rows [] (row ∷ []) k (sym (append-nil _)) items) refl in
    let behind_is = row-behind h.group_rows rows (h.made * h.groups) row k.group_rows items in
    record {
      kept = record {
        stored = k.stored;
        stored_room = k.stored_room;
        calls = k.calls;
        calls_room = k.calls_room;
        axis_rows = k.axis_rows;
        axis_room = k.axis_room;
        group_rows = let l = k.group_rows in omega (arith, len);
        group_room = let l = k.group_room in omega (arith, capacity);
        made = k.made;
        cycles = k.cycles ∙ sym (ap cycles_of entries);
        numbers = k.numbers;
      };
      state = λ i. record (state_of h) { entries = entries i; group_rows = behind_is i };
    }

-- ---- looks

-- an entry that was made has what it holds
IsThere-made : (h : Inside) (e : Stored) → IsKept h → IsMade (vec_len h.calls) h.made e → IsThere (store_of h) e
IsThere-made h (stored.Call place) kept m = let l : vec_len h.calls ≡ length h.calls.items = h.calls.ok.0 in omega arith
IsThere-made h (stored.Cycle n) kept m =
    let a : n * h.axes ≤ h.made * h.axes = mul-le-mul_right h.axes m.1 in
    let g : n * h.groups ≤ h.made * h.groups = mul-le-mul_right h.groups m.1 in
    let la : h.made * h.axes ≤ length h.axis_rows.items = rows_there h.axis_rows h.made h.axes kept.axis_rows in
    let lg : h.made * h.groups ≤ length h.group_rows.items = rows_there h.group_rows h.made h.groups kept.group_rows in
    (m.0, omega arith, omega arith)
IsThere-made h (stored.End task) kept m = tt

-- what is found at a place of the array
pub record IsFound (h : Inside) (place : ℕ) (e : Stored) : Type 0 where
  pub items : List Stored
  pub same : items ≡ h.stored.items
  pub found : Option Stored
  pub at : found ≡ slice_get items place
  pub inner : Stored
  pub some : found ≡ Some inner
  pub is : inner ≡ e

-- the entry that is kept at a place has what it holds
pub IsThere-found : (h : Inside) (place : ℕ) (e : Stored) → IsKept h → IsFound h place e → IsThere (store_of h) e
IsThere-found h place e kept f =
    IsThere-made h e kept (AllMade-at (vec_len h.calls) h.made h.stored.items place e kept.numbers
    ((λ i. slice_get (sym f.same i) place) ∙ sym f.at ∙ f.some ∙ ap Some f.is))

-- what is found at a place of the array gives the entry at this place of the history
pub entry-at : (h : Inside) (s : HistoryState) (place : ℕ) (es : List Stored) (o : Option Stored) → state_of h ≡ s →
    es ≡ h.stored.items → o ≡ slice_get es place → option_map (entry_of (store_of h)) o ≡ slice_get s.entries place
entry-at h s place es o e same found =
    ap (option_map (entry_of (store_of h))) (found ∙ ap (λ xs. slice_get xs place) same) ∙
    sym (ap (λ (t : HistoryState). slice_get t.entries place) (sym e) ∙ slice_get-entries_of (store_of h) h.stored.items place)

-- what is found at a place of the array is the entry at this place of the history
pub entry-found : (h : Inside) (s : HistoryState) (place : ℕ) (e : Stored) → state_of h ≡ s → IsFound h place e →
    Some (entry_of (store_of h) e) ≡ slice_get s.entries place
entry-found h s place e same f = entry-at h s place f.items (Some e) same f.same (sym (f.some ∙ ap Some f.is) ∙ f.at)

-- ---- opening

-- the history of no entries
pub state-open : (h : Inside) → h.stored.items ≡ [] → (state_of h).entries ≡ []
state-open h s = ap (entries_of (store_of h)) s ∙ entries_of-none (store_of h)

-- no cycle is in the making where there are no rows
pub rows-open : {X : Type 0} (rows : List X) (n : ℕ) → rows ≡ [] → drop n rows ≡ []
rows-open rows n e = drop_all n rows (let l : length rows ≡ 0 = ap length e in omega arith)

-- nothing is kept at opening
pub record IsEmpty (h : Inside) : Type 0 where
  pub stored : h.stored.items ≡ []
  pub calls : h.calls.items ≡ []
  pub axis_rows : h.axis_rows.items ≡ []
  pub group_rows : h.group_rows.items ≡ []
  pub made : h.made ≡ 0

-- the arrays have room for all that may come
pub record HasRoom (h : Inside) : Type 0 where
  pub stored : h.room ≤ vec_capacity h.stored
  pub calls : h.room ≤ vec_capacity h.calls
  pub axis_rows : h.most * h.axes ≤ vec_capacity h.axis_rows
  pub group_rows : h.most * h.groups ≤ vec_capacity h.group_rows

pub IsKept-open : (h : Inside) → IsEmpty h → HasRoom h → IsKept h
IsKept-open h e r =
    let ls : vec_len h.stored ≡ 0 = h.stored.ok.0 ∙ ap length e.stored in
    let lc : vec_len h.calls ≡ 0 = h.calls.ok.0 ∙ ap length e.calls in
    record {
      stored = omega arith;
      stored_room = r.stored;
      calls = omega arith;
      calls_room = r.calls;
      axis_rows = rw e.made (omega arith);
      axis_room = r.axis_rows;
      group_rows = rw e.made (omega arith);
      group_room = r.group_rows;
      made = omega (arith, e.made);
      cycles = e.made ∙ ap cycles_of (sym (state-open h e.stored));
      numbers = rw e.stored tt;
    }
