-- Texts of trace segments that follow each other by their headers are one past.
-- for: texts_by_headers_tell_pasts
use Rattle.std.specs.Prelude.{◌≡◌, ◌⊎◌, refl, ℕ, ◌^◌, Option, Some, List, [], ◌∷◌, ◌++◌}
use Rattle.std.proofs.Common.{arith, ap, sym, subst, inl, inr, ◌∙◌}
use Rattle.std.proofs.lemmas.Bool.{cases_lt}
use Rattle.motion_history.specs.Entries.{Entry, cycles_of}
use Rattle.motion_history.specs.Setup.{IsSetup, Setup}
use Rattle.motion_kernel.specs.Histories.{IsLegalFrom, IsPast, machine_from}
use Rattle.motion_kernel.specs.Machine.{Machine, machine_at_opening}
use Rattle.motion_kernel.specs.Segments.{IsEarly, after_segment, counted_on, machine_now, nothing_before}
use Rattle.motion_kernel.specs.declared.segment.Before.{Before}
use Rattle.motion_kernel.specs.kept.Machine.{AreWhole}
use Rattle.segment_check.proofs.Configured.{ConfiguredLaws, past_held}
use Rattle.segment_check.proofs.RowLaws.{SegmentsGoOn}
use Rattle.segment_check.specs.Headers.{BeginsWith, IsFoundLegalText, TellByHeaders, TellFromOpening}
use Rattle.segment_check.specs.Next.{ended}
use Rattle.segment_text.specs.Held.{HasMachineBits, IsHeld, IsMachineOf}
use Rattle.segment_text.specs.ReadBack.{HeadersTellMachines, IsTextOf, TextsAreSpelled}
use Rattle.segment_text.specs.Texts.{line_of}
use Rattle.segment_text.specs.TraceSegment.{header_text}

-- the machine after a past and a segment
abbrev pub MachinesGoOn : Type 0
MachinesGoOn = (s : Setup) (past segment : List Entry) →
    machine_from s (machine_at_opening s) (past ++ counted_on (cycles_of past) segment)
    ≡ machine_from s (machine_from s (machine_at_opening s) past) segment

-- the laws on which it rests
pub record RowLaws : Type 0 where
  pub past : SegmentsGoOn
  pub machine : MachinesGoOn
  pub told : HeadersTellMachines
  pub spelled : TextsAreSpelled
  pub configured : ConfiguredLaws

early_or_not : (b : Before) → IsEarly b ⊎ (IsEarly b → ⊥)
early_or_not b = elim (cases_lt b.segments (2 ^ 63)) [
  | inl one ↦ elim (cases_lt b.entries (2 ^ 63)) [
    | inl two ↦ elim (cases_lt b.cycles (2 ^ 63)) [
      | inl three ↦ inl (record { segments = one; entries = two; cycles = three })
      | inr late ↦ inr (λ e. let c = e.cycles in omega arith)
    ]
    | inr late ↦ inr (λ e. let c = e.entries in omega arith)
  ]
  | inr late ↦ inr (λ e. let c = e.segments in omega arith)
]

-- where a past has led, by a header
record IsWhere (s : Setup) (es : List Entry) (b : Before) (m : Machine) : Type 0 where
  setup : IsSetup s
  held : IsHeld s b m
  after : m ≡ machine_from s (machine_at_opening s) es
  past : IsPast s es

by_halves : (a b c d : List ℕ) → ◌≡◌ {A = Option (List ℕ × List ℕ)} (Some (a, b)) (Some (c, d)) → a ≡ c
by_halves a b c d e =
    let pair : ◌≡◌ {A = List ℕ × List ℕ} (a, b) (c, d) = cc e in
    ap (λ (p : List ℕ × List ℕ). p.0) pair

-- the text of a legal trace segment spells it
spells : RowLaws → (s : Setup) (text next : List ℕ) (t : IsFoundLegalText s text next) →
    IsTextOf text t.trace_segment
spells laws s text next t =
    laws.spelled text t.trace_segment t.found.trace_segment.begins.machine.sized.setup t.reading

held_of : RowLaws → (s : Setup) (text next : List ℕ) (t : IsFoundLegalText s text next) →
    IsHeld s t.trace_segment.before t.trace_segment.machine
held_of laws s text next t =
    subst (λ c. IsHeld c t.trace_segment.before t.trace_segment.machine) t.config
    (spells laws s text next t).held

-- the next trace segment begins there
here : RowLaws → (s : Setup) (past : List Entry) (b : Before) (m : Machine) (text next : List ℕ)
    (t : IsFoundLegalText s text next) → IsWhere s past b m → BeginsWith (header_text b m) text →
    t.trace_segment.machine ≡ m
here laws s past b m text next t w begins =
    let p = t.trace_segment in
    let is = spells laws s text next t in
    let same : Some (header_text p.before p.machine, is.behind) ≡ Some (header_text b m, begins.behind) = sym is.halves ∙ begins.halves in
    let header : header_text p.before p.machine ≡ header_text b m = by_halves _ _ _ _ same in
    (laws.told s p.before b p.machine m (held_of laws s text next t) w.held header).1

-- the past with a legal trace segment that begins where it leads
grown : RowLaws → (s : Setup) (past : List Entry) (text next : List ℕ)
    (t : IsFoundLegalText s text next) → IsPast s past →
    t.trace_segment.machine ≡ machine_from s (machine_at_opening s) past →
    IsPast s (past ++ counted_on (cycles_of past) t.found.next.history)
grown laws s past text next t is start =
    let es = t.found.next.history in
    laws.past s past es is
    (subst (λ x. IsLegalFrom s x es) start
    (subst (λ c. IsLegalFrom c t.trace_segment.machine es) t.config t.found.next.legal))

-- and where that leads
leads : RowLaws → (s : Setup) (past : List Entry) (text next : List ℕ)
    (t : IsFoundLegalText s text next) →
    t.trace_segment.machine ≡ machine_from s (machine_at_opening s) past →
    machine_now (ended t.trace_segment t.found.next.history)
    ≡ machine_from s (machine_at_opening s) (past ++ counted_on (cycles_of past) t.found.next.history)
leads laws s past text next t start =
    let es = t.found.next.history in
    ap (λ c. machine_from c t.trace_segment.machine es) t.config ∙ ap (λ x. machine_from s x es) start
    ∙ sym (laws.machine s past es)

-- where its counts have a place in a header, the next begins there
goes_on : RowLaws → (s : Setup) (past : List Entry) (text next : List ℕ)
    (t : IsFoundLegalText s text next) → IsSetup s → IsPast s past →
    t.trace_segment.machine ≡ machine_from s (machine_at_opening s) past →
    IsEarly (after_segment (ended t.trace_segment t.found.next.history)) →
    IsWhere s (past ++ counted_on (cycles_of past) t.found.next.history)
    (after_segment (ended t.trace_segment t.found.next.history))
    (machine_now (ended t.trace_segment t.found.next.history))
goes_on laws s past text next t setup is start early =
    let es = t.found.next.history in
    let more = grown laws s past text next t is start in
    let after = leads laws s past text next t start in
    let behind = t.found.next.header_is in
    let held = past_held laws.configured s (past ++ counted_on (cycles_of past) es) setup (subst AreWhole t.config behind.whole) more (subst HasMachineBits after behind.bits) in
    record {
      setup = setup;
      held = record { before = early; machine = subst (IsMachineOf s) (sym after) held };
      after = after;
      past = more;
    }

-- a text begins with some header
begins_with_some : RowLaws → (s : Setup) (text next : List ℕ) (t : IsFoundLegalText s text next) →
    BeginsWith [] text → ⊥
unfolding header_text line_of
begins_with_some laws s text next t begins =
    let is = spells laws s text next t in
    let none : header_text t.trace_segment.before t.trace_segment.machine ≡ [] = by_halves _ _ _ _ (sym is.halves ∙ begins.halves) in
    cc none

-- what texts say that follow each other
texts_after : RowLaws → (s : Setup) (past : List Entry) (text next : List ℕ)
    (t : IsFoundLegalText s text next) (texts : List (List ℕ)) (whole : List Entry) → IsSetup s →
    IsPast s past → t.trace_segment.machine ≡ machine_from s (machine_at_opening s) past →
    TellByHeaders s next (past ++ counted_on (cycles_of past) t.found.next.history) texts whole →
    IsPast s whole
texts_after laws s past text next t [] whole setup is start h =
    subst (IsPast s) h (grown laws s past text next t is start)
texts_after laws s past text next t (later ∷ texts) whole setup is start h =
    let p = t.trace_segment in
    let es = t.found.next.history in
    let k = ended p es in
    let behind = t.found.next.header_is in
    elim (early_or_not (after_segment k)) [
      | inl early ↦
          let w = goes_on laws s past text next t setup is start early in
          let at = here laws s (past ++ counted_on (cycles_of past) es) (after_segment k) (machine_now k) later h.0 h.1 w
          (subst (λ x. BeginsWith x later) (behind.told early) h.2) in
          texts_after laws s (past ++ counted_on (cycles_of past) es) later h.0 h.1 texts whole setup w.past (at ∙ w.after) h.3
      | inr late ↦
          absurd (begins_with_some laws s later h.0 h.1 (subst (λ x. BeginsWith x later) (behind.none late) h.2))
    ]

nothing_is_early : IsEarly nothing_before
nothing_is_early = record { segments = omega arith; entries = omega arith; cycles = omega arith }

opened_past : (s : Setup) → IsPast s []
opened_past s = record { follows = tt }

opened_from : (s : Setup) → machine_at_opening s ≡ machine_from s (machine_at_opening s) []
unfolding machine_from
opened_from s = refl

-- a legal trace segment without another before it begins at opening
first_begins_so : RowLaws → (s : Setup) (text next : List ℕ) (t : IsFoundLegalText s text next) →
    IsMachineOf s (machine_at_opening s) → t.trace_segment.before.segments ≡ 0 →
    t.trace_segment.machine ≡ machine_at_opening s
first_begins_so laws s text next t opened none =
    let p = t.trace_segment in
    let same : header_text p.before p.machine ≡ header_text nothing_before (machine_at_opening s) =
    subst (λ c. header_text p.before p.machine ≡ header_text nothing_before (machine_at_opening c)) t.config (t.found.trace_segment.begins.first none) in
    (laws.told s p.before nothing_before p.machine (machine_at_opening s) (held_of laws s text next t)
    (record { before = nothing_is_early; machine = opened }) same).1

-- the configuration of a legal trace segment
pub setup_of : (s : Setup) (text next : List ℕ) (t : IsFoundLegalText s text next) → IsSetup s
setup_of s text next t = subst IsSetup t.config t.found.trace_segment.begins.machine.sized.setup

pub whole_of : (s : Setup) (text next : List ℕ) (t : IsFoundLegalText s text next) → AreWhole s
whole_of s text next t = subst AreWhole t.config t.found.next.header_is.whole

pub from_opening : RowLaws → (s : Setup) (text : List ℕ) (texts : List (List ℕ))
    (whole : List Entry) → IsMachineOf s (machine_at_opening s) →
    TellFromOpening s text texts whole → IsPast s whole
from_opening laws s text texts whole opened h =
    texts_after laws s [] text h.next h.first texts whole (setup_of s text h.next h.first) (opened_past s)
    (first_begins_so laws s text h.next h.first opened h.none_before ∙ opened_from s) h.later
