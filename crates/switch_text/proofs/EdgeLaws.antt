-- Edges cycle by cycle.
-- for: write_edges
use Rattle.std.proofs.Common.{◌≡◌, ℕ, zero, suc, ◌+◌, ◌<◌, ◌≤◌, Option, Some, None, List, [], ◌∷◌, ◌++◌, length, map, take, drop, get_or, slice_set, refl, subst, ap, sym, ◌∙◌, arith}
use Rattle.std.specs.Prelude.{slice_get}
use Rattle.std.specs.List.{concat, flat_map}
use Rattle.std.specs.Option.{option_to_list}
use Rattle.std.proofs.lemmas.Grind.{common_steps, flat_map-append}
use Rattle.std.proofs.lemmas.List.{flat_map_more, get_or_default, take_all, take_more}
use Rattle.std.proofs.lemmas.List.Edits.{map_over_more}
use Rattle.plc_types.specs.declared.axis.AxisRow.{AxisRow}
use Rattle.switch_text.specs.Edges.{edge_of, edges_at, edges_to}
use Rattle.switch_text.specs.Laws.{WatchesGoOn}
use Rattle.switch_text.specs.Watches.{edge_after, watch_after, watch_at, watch_of}
use Rattle.switch_text.specs.declared.switch.Switch.{Switch}
use Rattle.switch_text.specs.declared.watch.Watch.{Watch}
use Rattle.plc_types.specs.declared.group.GroupRow.{GroupRow}
use Rattle.motion_history.specs.Entries.{Entry, call, cycle, end_of}
use Rattle.switch_text.specs.Lines.{cycles_in, edge_line, edges_text}
use Rattle.switch_text.specs.UnderWay.{IsBehind, cycles_before}
use Rattle.switch_text.specs.declared.writing.EdgeLog.{EdgeLog}

-- ---- the cycles of entries

one-more : (n : ℕ) → n + 1 ≡ suc n
one-more n = omega arith

-- the cycle at a place is the one after those before it
pub cycle-at : (es : List Entry) (place n : ℕ) (rows : List AxisRow) (groups : List GroupRow) →
    slice_get es place ≡ Some (cycle n rows groups) →
    slice_get (cycles_in es) (cycles_before es place) ≡ Some rows
cycle-at [] place n rows groups h = absurd (cc)
cycle-at (call k i r ∷ es) zero n rows groups h = absurd (cc)
cycle-at (call k i r ∷ es) (suc place) n rows groups h = cycle-at es place n rows groups h
cycle-at (cycle m axes g ∷ es) zero n rows groups h = let same : axes ≡ rows = cc in ap (λ x. Some x) same
cycle-at (cycle m axes g ∷ es) (suc place) n rows groups h = cycle-at es place n rows groups h
cycle-at (end_of t ∷ es) zero n rows groups h = absurd (cc)
cycle-at (end_of t ∷ es) (suc place) n rows groups h = cycle-at es place n rows groups h

-- a cycle counts as one
pub cycle-more : (es : List Entry) (place n : ℕ) (rows : List AxisRow) (groups : List GroupRow) →
    slice_get es place ≡ Some (cycle n rows groups) →
    cycles_before es (suc place) ≡ suc (cycles_before es place)
cycle-more [] place n rows groups h = absurd (cc)
cycle-more (call k i r ∷ es) zero n rows groups h = absurd (cc)
cycle-more (call k i r ∷ es) (suc place) n rows groups h = cycle-more es place n rows groups h
cycle-more (cycle m axes g ∷ es) zero n rows groups h = refl
cycle-more (cycle m axes g ∷ es) (suc place) n rows groups h = ap suc (cycle-more es place n rows groups h)
cycle-more (end_of t ∷ es) zero n rows groups h = absurd (cc)
cycle-more (end_of t ∷ es) (suc place) n rows groups h = cycle-more es place n rows groups h

-- ---- the lines of a cycle

-- the switches go on
pub watches-next : WatchesGoOn → (cs : List (List AxisRow)) (k : ℕ) (rows : List AxisRow)
    (ss : List Switch) → slice_get cs k ≡ Some rows →
    map (watch_after rows) (map (watch_at cs k) ss) ≡ map (watch_at cs (suc k)) ss
watches-next go cs k rows [] h = refl
watches-next go cs k rows (s ∷ ss) h =
    ap (λ w. w ∷ map (watch_after rows) (map (watch_at cs k) ss)) (go.next cs k rows s h)
    ∙ ap (λ ws. watch_at cs (suc k) s ∷ ws) (watches-next go cs k rows ss h)

-- their edges are reported
pub lines-next : WatchesGoOn → (cs : List (List AxisRow)) (k : ℕ) (rows : List AxisRow)
    (ss : List Switch) → slice_get cs k ≡ Some rows →
    flat_map (λ w. flat_map edge_line (option_to_list (edge_after (suc k) rows w)))
    (map (watch_at cs k) ss) ≡ flat_map edge_line (edges_at ss cs k)
lines-next go cs k rows [] h = refl
lines-next go cs k rows (s ∷ ss) h =
    ap (λ e. flat_map edge_line (option_to_list e) ++
    flat_map (λ w. flat_map edge_line (option_to_list (edge_after (suc k) rows w)))
    (map (watch_at cs k) ss)) (go.edges cs k rows s h)
    ∙ ap (λ t. flat_map edge_line (option_to_list (edge_of cs k s)) ++ t) (lines-next go cs k rows ss h)
    ∙ sym (flat_map-append edge_line (option_to_list (edge_of cs k s)) (edges_at ss cs k))

-- the lines up to the next cycle
pub lines-more : (cs : List (List AxisRow)) (k : ℕ) (ss : List Switch) →
    flat_map edge_line (edges_to ss cs k) ++ flat_map edge_line (edges_at ss cs k) ≡
    flat_map edge_line (edges_to ss cs (suc k))
lines-more cs k ss = sym (flat_map-append edge_line (edges_to ss cs k) (edges_at ss cs k))

-- switches before the first cycle
pub watches-first : WatchesGoOn → (cs : List (List AxisRow)) (ss : List Switch) →
    map watch_of ss ≡ map (watch_at cs zero) ss
watches-first go cs [] = refl
watches-first go cs (s ∷ ss) =
    ap (λ w. w ∷ map watch_of ss) (sym (go.first cs s))
    ∙ ap (λ ws. watch_at cs zero s ∷ ws) (watches-first go cs ss)

-- four texts after a text
pub four_pieces : (t a b c d : List ℕ) →
    (((t ++ a) ++ b) ++ c) ++ d ≡ t ++ concat (a ∷ b ∷ c ∷ d ∷ [])
four_pieces t a b c d = grind (arith, common_steps)

-- ---- a loop over the switches

-- an item that is still as it was
item-as-before : (g : Watch → Watch) (ws now : List Watch) (i : ℕ) (w : Watch) → i < length ws →
    now ≡ map g (take i ws) ++ drop i ws → get_or now i w ≡ get_or ws i w
item-as-before g ws now i w lt is = grind (arith, common_steps)

same-item : (g : Watch → Watch) (ws now : List Watch) (i : ℕ) (w : Watch) → i < length ws →
    now ≡ map g (take i ws) ++ drop i ws → get_or now i w ≡ get_or now i (get_or now i w)
same-item g ws now i w lt is =
    let there : i < length now = grind (arith, common_steps) in
    get_or_default now i w (get_or now i w) there

-- the next item goes on
pub item-over : (g : Watch → Watch) (ws now : List Watch) (i : ℕ) (w : Watch) → i < length ws →
    now ≡ map g (take i ws) ++ drop i ws →
    slice_set now i (g (get_or now i w)) ≡ map g (take (i + 1) ws) ++ drop (i + 1) ws
item-over g ws now i w lt is =
    map_over_more g ws now i (get_or now i w) lt is (same-item g ws now i w lt is)

-- what an item gives is added to what those before it give
pub given-more : (f : Watch → List ℕ) (g : Watch → Watch) (t : List ℕ) (ws now : List Watch) (i : ℕ)
    (w : Watch) → i < length ws → now ≡ map g (take i ws) ++ drop i ws →
    (t ++ flat_map f (take i ws)) ++ f (get_or now i w) ≡ t ++ flat_map f (take (i + 1) ws)
given-more f g t ws now i w lt is =
    ap (λ x. (t ++ flat_map f (take i ws)) ++ f x) (item-as-before g ws now i w lt is)
    ∙ flat_map_more f t (take i ws) (get_or ws i w)
    ∙ ap (λ xs. t ++ flat_map f xs) (sym (take_more ws i w lt))

-- ---- one entry more

-- a cycle
pub behind-cycle : WatchesGoOn → (ss : List Switch) (es : List Entry) (place n : ℕ)
    (rows : List AxisRow) (groups : List GroupRow) (old new : EdgeLog) →
    slice_get es place ≡ Some (cycle n rows groups) → IsBehind ss es place old →
    new.cycles ≡ old.cycles + 1 →
    new.watches.items ≡ map (watch_after rows) old.watches.items →
    new.text.items ≡ old.text.items ++ flat_map
    (λ w. flat_map edge_line (option_to_list (edge_after (old.cycles + 1) rows w)))
    old.watches.items → IsBehind ss es (place + 1) new
behind-cycle go ss es place n rows groups old new at h cycles watches text =
    let k = cycles_before es place in
    let cs = cycles_in es in
    let more : cycles_before es (place + 1) ≡ suc k =
    ap (cycles_before es) (one-more place) ∙ cycle-more es place n rows groups at in
    let there = cycle-at es place n rows groups at in
    record {
      cycles = cycles ∙ ap (λ m. m + 1) h.cycles ∙ one-more k ∙ sym more;
      watches = watches ∙ ap (map (watch_after rows)) h.watches
          ∙ watches-next go cs k rows ss there ∙ ap (λ m. map (watch_at cs m) ss) (sym more);
      text = text
          ∙ ap (λ m. old.text.items ++ flat_map
          (λ w. flat_map edge_line (option_to_list (edge_after (m + 1) rows w)))
          old.watches.items) h.cycles
          ∙ ap (λ m. old.text.items ++ flat_map
          (λ w. flat_map edge_line (option_to_list (edge_after m rows w)))
          old.watches.items) (one-more k)
          ∙ ap (λ ws. old.text.items ++ flat_map
          (λ w. flat_map edge_line (option_to_list (edge_after (suc k) rows w))) ws) h.watches
          ∙ ap (λ t. t ++ flat_map
          (λ w. flat_map edge_line (option_to_list (edge_after (suc k) rows w)))
          (map (watch_at cs k) ss)) h.text
          ∙ ap (λ t. flat_map edge_line (edges_to ss cs k) ++ t) (lines-next go cs k rows ss there)
          ∙ lines-more cs k ss
          ∙ ap (λ m. flat_map edge_line (edges_to ss cs m)) (sym more);
    }

-- an entry that is no cycle, or none, counts as none
abbrev pub IsNoCycle : Option Entry → Type 0
IsNoCycle None = Unit {0}
IsNoCycle (Some (call k i r)) = Unit {0}
IsNoCycle (Some (cycle n axes groups)) = ⊥
IsNoCycle (Some (end_of t)) = Unit {0}

no-more : (es : List Entry) (place : ℕ) → IsNoCycle (slice_get es place) →
    cycles_before es (suc place) ≡ cycles_before es place
no-more [] zero h = refl
no-more [] (suc place) h = refl
no-more (call k i r ∷ es) zero h = refl
no-more (call k i r ∷ es) (suc place) h = no-more es place h
no-more (cycle m axes g ∷ es) zero h = absurd h
no-more (cycle m axes g ∷ es) (suc place) h = ap suc (no-more es place h)
no-more (end_of t ∷ es) zero h = refl
no-more (end_of t ∷ es) (suc place) h = no-more es place h

pub behind-other : (ss : List Switch) (es : List Entry) (place : ℕ) (log : EdgeLog)
    (o : Option Entry) → slice_get es place ≡ o → IsNoCycle o → IsBehind ss es place log →
    IsBehind ss es (place + 1) log
behind-other ss es place log o is other h =
    let none : IsNoCycle (slice_get es place) = subst IsNoCycle (sym is) other in
    let same : cycles_before es (place + 1) ≡ cycles_before es place =
    ap (cycles_before es) (one-more place) ∙ no-more es place none in
    record {
      cycles = h.cycles ∙ sym same;
      watches = h.watches ∙ ap (λ m. map (watch_at (cycles_in es) m) ss) (sym same);
      text = h.text ∙ ap (λ m. flat_map edge_line (edges_to ss (cycles_in es) m)) (sym same);
    }

-- ---- all entries

pub behind-first : WatchesGoOn → (ss : List Switch) (es : List Entry) (log : EdgeLog) →
    log.cycles ≡ 0 → log.watches.items ≡ map watch_of ss → log.text.items ≡ [] →
    IsBehind ss es 0 log
behind-first go ss es log cycles watches text = record {
  cycles = cycles;
  watches = watches ∙ watches-first go (cycles_in es) ss;
  text = text;
}

pub behind-all : (ss : List Switch) (es : List Entry) (place : ℕ) (log : EdgeLog) →
    length es ≤ place → IsBehind ss es place log →
    log.text.items ≡ edges_text ss (cycles_in es)
unfolding edges_text
behind-all ss es place log le h =
    let whole : take place es ≡ es = take_all place es le in
    h.text ∙ ap (λ xs. flat_map edge_line (edges_to ss (cycles_in es) (length (cycles_in xs)))) whole
