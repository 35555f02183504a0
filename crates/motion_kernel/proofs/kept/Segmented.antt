-- What a kernel whose history is in segments keeps: at opening, with one more entry, and with an
-- empty segment.
-- for: call, cycle, end and others
use Rattle.std.specs.Prelude.{◌≡◌, refl, ℕ, ◌+◌, ◌<◌, ◌≤◌, List, [], ◌∷◌, ◌++◌, length}
use Rattle.std.proofs.Common.{arith, ap, sym, subst, ◌∙◌}
use Rattle.std.proofs.lemmas.List.{length_push}
use Rattle.motion_history.specs.Entries.{CyclesAddUp, Entry, HistoryState, cycle_count, cycles_of}
use Rattle.motion_history.specs.Setup.{Setup}
use Rattle.motion_kernel.specs.Segments.{empty_history}
use Rattle.motion_kernel.specs.cycles.Asides.{HasPlaces}
use Rattle.motion_kernel.specs.Histories.{machine_from, Follows, IsLegalFrom, IsOf, after, replay}
use Rattle.motion_kernel.specs.kept.Segmented.{IsSegmentedKept}
use Rattle.motion_kernel.specs.Machine.{Machine}
use Rattle.motion_kernel.specs.kept.Machine.{AreWhole, IsMachineKept, IsSized}
use Rattle.motion_kernel.specs.kept.Rooms.{HasRoom}
use Rattle.motion_kernel.specs.owners.Blocks.{OwnersHaveBlocks}
use Rattle.motion_kernel.specs.Seen.{machine_of}
use Rattle.motion_kernel.specs.declared.segmented.SegmentedKernel.TheInside.{Inside}

-- the replay of one entry more
replay_more : (s : Setup) (m : Machine) (es : List Entry) (e : Entry) → replay s m (es ++ e ∷ []) ≡ after s (replay s m es) e
replay_more s m [] e = refl
replay_more s m (x ∷ xs) e = replay_more s (after s m x) xs e

-- one entry more that is the machine's
follows_more : (s : Setup) (n : ℕ) (m : Machine) (es : List Entry) (e : Entry) → Follows s n m es → IsOf s (n + cycles_of es) (replay s m es) e →
    Follows s n m (es ++ e ∷ [])
follows_more s n m [] e f o = (subst (λ k. IsOf s k m e) (omega arith) o, tt)
follows_more s n m (x ∷ xs) e f o =
    (f.0, follows_more s (n + cycle_count x) (after s m x) xs e f.1 (subst (λ k. IsOf s k (replay s (after s m x) xs) e) (omega arith) o))

-- a history with one entry more is legal
legal_more : CyclesAddUp → (s : Setup) (m : Machine) (es : List Entry) (e : Entry) → IsLegalFrom s m es → IsOf s (cycles_of es) (replay s m es) e →
    length es < s.entries → cycles_of es + cycle_count e ≤ s.cycles → IsLegalFrom s m (es ++ e ∷ [])
legal_more add s m es e legal is room cycles = record {
  entries = let l = length_push es e in omega (arith, l);
  cycles = let a = add es e in omega (arith, a);
  follows = follows_more s 0 m es e legal.follows (subst (λ k. IsOf s k (replay s m es) e) (omega arith) is);
}

-- an empty history has its room
pub empty_room : (s : Setup) (h : HistoryState) → h ≡ empty_history s → HasRoom s h
empty_room s h e = record {
  axes = ap (λ (h : HistoryState). h.axes) e;
  groups = ap (λ (h : HistoryState). h.groups) e;
  room = ap (λ (h : HistoryState). h.room) e;
  cycles = ap (λ (h : HistoryState). h.cycles) e;
  rows = ap (λ (h : HistoryState). h.rows) e;
  group_rows = ap (λ (h : HistoryState). h.group_rows) e;
}

-- a history that is emptied is one with the whole room of its configuration
pub cleared_room : (s t : Setup) (h : HistoryState) → t ≡ s → HasRoom t h → record h { entries = []; rows = []; group_rows = [] } ≡ empty_history s
cleared_room s t h same room =
    let here = subst (λ (x : Setup). HasRoom x h) same room in
    λ i. record {
      axes = here.axes i;
      groups = here.groups i;
      room = here.room i;
      cycles = here.cycles i;
      entries = [];
      rows = [];
      group_rows = [];
    }

-- a kernel whose segment has no entry yet
pub segmented_begun : (k : Inside) → machine_of k.parts ≡ k.segment.start → k.segment.history ≡ empty_history k.layout → IsMachineKept k.layout (machine_of k.parts) →
    OwnersHaveBlocks k.layout (machine_of k.parts) → IsSized k.layout k.segment.start → AreWhole k.layout → HasPlaces k.layout k.aside → IsSegmentedKept k
unfolding machine_from
segmented_begun k machine history kept owners sized whole places =
    let none : k.segment.history.entries ≡ [] = ap (λ (h : HistoryState). h.entries) history in
    record {
      replayed = machine ∙ ap (replay k.layout k.segment.start) (sym none);
      legal = rw none (record { entries = omega arith; cycles = omega arith; follows = tt });
      machine = kept;
      owners = owners;
      start = sized;
      whole = whole;
      room = empty_room k.layout k.segment.history history;
      places = places;
    }

-- a kernel with one more entry
pub segmented_more : CyclesAddUp → (k next : Inside) (e : Entry) → IsSegmentedKept k → next.layout ≡ k.layout → next.segment.start ≡ k.segment.start →
    next.segment.history ≡ record k.segment.history { entries = k.segment.history.entries ++ e ∷ [] } → HasPlaces k.layout next.aside →
    machine_of next.parts ≡ after k.layout (machine_of k.parts) e → IsOf k.layout (cycles_of k.segment.history.entries) (machine_of k.parts) e →
    IsMachineKept k.layout (machine_of next.parts) → OwnersHaveBlocks k.layout (machine_of next.parts) →
    length k.segment.history.entries < k.layout.entries → cycles_of k.segment.history.entries + cycle_count e ≤ k.layout.cycles → IsSegmentedKept next
unfolding machine_from
segmented_more add k next e kept layout start history places step is machine owners room cycles =
    let s = k.layout in
    let m = k.segment.start in
    let es = k.segment.history.entries in
    let entries : next.segment.history.entries ≡ es ++ e ∷ [] = ap (λ (h : HistoryState). h.entries) history in
    let here : IsOf s (cycles_of es) (replay s m es) e = subst (λ n. IsOf s (cycles_of es) n e) kept.replayed is in
    let replayed : machine_of next.parts ≡ replay s m (es ++ e ∷ []) = step ∙ ap (λ n. after s n e) kept.replayed ∙ sym (replay_more s m es e) in
    let legal = legal_more add s m es e kept.legal here room cycles in
    record {
      replayed = replayed ∙ (λ i. replay (sym layout i) (sym start i) (sym entries i));
      legal = rw (entries, layout, start) legal;
      machine = rw layout machine;
      owners = rw layout owners;
      start = rw (layout, start) kept.start;
      whole = rw layout kept.whole;
      room = record {
        axes = ap (λ (h : HistoryState). h.axes) history ∙ kept.room.axes ∙ ap (λ (x : Setup). length x.axes) (sym layout);
        groups = ap (λ (h : HistoryState). h.groups) history ∙ kept.room.groups ∙ ap (λ (x : Setup). length x.groups) (sym layout);
        room = ap (λ (h : HistoryState). h.room) history ∙ kept.room.room ∙ ap (λ (x : Setup). x.entries) (sym layout);
        cycles = ap (λ (h : HistoryState). h.cycles) history ∙ kept.room.cycles ∙ ap (λ (x : Setup). x.cycles) (sym layout);
        rows = ap (λ (h : HistoryState). h.rows) history ∙ kept.room.rows;
        group_rows = ap (λ (h : HistoryState). h.group_rows) history ∙ kept.room.group_rows;
      };
      places = rw layout places;
    }
