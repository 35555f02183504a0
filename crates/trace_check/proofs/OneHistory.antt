-- A trace is that of at most one legal history.
-- for: traces_tell_their_history, migrated_traces_are_legal
use Rattle.std.proofs.Common.{◌≡◌, ℕ, ◌+◌, List, [], ◌∷◌, map, refl, sym, ◌∙◌, ap, subst}
use Rattle.motion_history.specs.Entries.{Entry, call, cycle, cycle_count, end_of}
use Rattle.motion_history.specs.Setup.{Setup}
use Rattle.motion_history.specs.declared.refused.TraceVersion.{TraceVersion}
use Rattle.motion_kernel.specs.cycles.Cycles.{cycled}
use Rattle.motion_kernel.specs.Histories.{Follows, IsOf, after, inputs_of}
use Rattle.motion_kernel.specs.Machine.{Machine, machine_at_opening}
use Rattle.trace_text.specs.ReadBack.{TextsTellTraces, TracesAreReadBack}
use Rattle.trace_text.specs.RowRanges.{found_row}
use Rattle.trace_text.specs.TraceState.{TraceState, entry_of}
use Rattle.trace_text.specs.Writable.{found_entry}
use Rattle.trace_check.specs.Laws.{MigratedTracesAreLegal, migrated_version, TextsTellHistories, TracesTellHistories}
use Rattle.trace_check.proofs.HeldLaws.{Laws, trace-held}
use Rattle.trace_check.proofs.LegalLaws.{same-inputs}

same-of : (v : TraceVersion) (s : Setup) (c : ℕ) (m : Machine) (x y : Entry) → IsOf s c m x → IsOf s c m y → found_entry v s x ≡ found_entry v s y → x ≡ y
same-of v s c m (call k i o) (call l j p) h g e = cc e
same-of v s c m (call k i o) (cycle n rows grows) h g e = absurd (cc e)
same-of v s c m (call k i o) (end_of task) h g e = absurd (cc e)
same-of v s c m (end_of task) (call l j p) h g e = absurd (cc e)
same-of v s c m (end_of task) (cycle n rows grows) h g e = absurd (cc e)
same-of v s c m (end_of task) (end_of other) h g e = cc e
same-of v s c m (cycle n rows grows) (call l j p) h g e = absurd (cc e)
same-of v s c m (cycle n rows grows) (end_of task) h g e = absurd (cc e)
same-of v s c m (cycle n rows grows) (cycle k others more) h g e =
    let f : cycle n (map found_row rows) grows ≡ cycle k (map found_row others) more = ap entry_of e in
    let found : map found_row rows ≡ map found_row others = cc f in
    let groups : grows ≡ more = cc f in
    let ins : inputs_of rows ≡ inputs_of others = sym (same-inputs rows) ∙ ap inputs_of found ∙ same-inputs others in
    let axes : rows ≡ others = h.1.axes ∙ ap (λ i. (cycled s m i).axes) ins ∙ sym g.1.axes in
    let number : n ≡ k = h.0 ∙ sym g.0 in
    λ i. cycle (number i) (axes i) (groups i)

one : (v : TraceVersion) (s : Setup) (c : ℕ) (m : Machine) (es others : List Entry) → Follows s c m es → Follows s c m others → map (found_entry v s) es ≡ map (found_entry v s) others → es ≡ others
one v s c m [] [] f g e = refl
one v s c m [] (y ∷ others) f g e = absurd (cc e)
one v s c m (x ∷ es) [] f g e = absurd (cc e)
one v s c m (x ∷ es) (y ∷ others) f g e =
    let first : found_entry v s x ≡ found_entry v s y = cc e in
    let later : map (found_entry v s) es ≡ map (found_entry v s) others = cc e in
    let is : x ≡ y = same-of v s c m x y f.0 g.0 first in
    let follows : Follows s (c + cycle_count x) (after s m x) others = subst (λ z. Follows s (c + cycle_count z) (after s m z) others) (sym is) g.1 in
    let more : es ≡ others = one v s (c + cycle_count x) (after s m x) es others f.1 follows later in
    λ i. is i ∷ more i

pub one-history : TracesTellHistories
one-history t es others legal other a b = one t.version t.config 0 (machine_at_opening t.config) es others legal.follows other.follows (sym a.found ∙ b.found)

pub texts-tell : TextsTellTraces → TextsTellHistories
texts-tell law v c s es others ds ends h k legal other same =
    one v s 0 (machine_at_opening s) es others legal.follows other.follows (ap (λ (t : TraceState). t.found) (law v v c c s s es others ds ends h k same))

pub migrated : TracesAreReadBack → Laws → MigratedTracesAreLegal
migrated law g t es kept legal is = record {
  read = law (migrated_version t) t.command t.config es t.drives (trace-held g t es kept legal is);
  legal = record { history = es; legal = legal; is = record { found = refl; taken = is.taken } };
  same = record { found = refl; taken = is.taken };
}
