-- The verdict by the first record that differs.
-- for: check, check_from, replay
use Rattle.std.proofs.Common.{◌≡◌, ℕ, Some, None, Ok, Err, length, refl, sym, ◌∙◌, ap, subst}
use Rattle.std.specs.Prelude.{◌↔◌, IfOk, Result}
use Rattle.motion_kernel.specs.Segments.{SegmentedState, at_opening}
use Rattle.motion_kernel.specs.Machine.{Machine}
use Rattle.trace_text.specs.Held.{IsHeldOf}
use Rattle.trace_text.specs.TraceState.{TraceState, entries_of}
use Rattle.trace_check.specs.Legal.{IsLegalTrace, IsLegalTraceFrom}
use Rattle.trace_check.specs.Outcomes.{IsReplayed, IsReplayedFrom}
use Rattle.trace_check.specs.Progress.{difference_from}
use Rattle.trace_check.specs.Verdicts.{IsVerdictOn, IsVerdictFrom, verdict_from, verdict_of}
use Rattle.trace_check.specs.declared.difference.Difference.{Difference}
use Rattle.trace_check.specs.declared.replaying.Replayed.{Replayed}
use Rattle.trace_check.specs.declared.replaying.Replayed.TheVariants as replay
use Rattle.trace_check.specs.declared.verdict.Verdict.{Verdict}
use Rattle.trace_check.specs.declared.verdict.Verdict.TheVariants as verdict
use Rattle.trace_check.proofs.LegalLaws.{legal-held}

pub verdict-legal : (t : TraceState) (m : Machine) (n : ℕ) → difference_from m t ≡ None → n ≡ length (entries_of t) → verdict.Legal n ≡ verdict_from m t
unfolding verdict_from
verdict-legal t m n none e = rw (none, e) refl

pub verdict-illegal : (t : TraceState) (m : Machine) (d : Difference) → difference_from m t ≡ Some d → verdict.IllegalAt d.place d.expected d.found ≡ verdict_from m t
unfolding verdict_from
verdict-illegal t m d h = rw h refl

-- ---- what is verified of a trace of which a part is held

pub verified-legal : (whole t : TraceState) (m : Machine) (k : SegmentedState) (n : ℕ) → IsHeldOf whole t → IsReplayedFrom m whole (replay.Legal k) → n ≡ length (entries_of t) → IsVerdictFrom m whole (verdict.Legal n)
verified-legal whole t m k n h r e =
    let fair : IsLegalTraceFrom m whole = record { history = k.history; legal = r.1.legal; is = r.1.is } in
    let all = legal-held whole t m h fair in
    let count : n ≡ length (entries_of whole) = e ∙ ap (λ (x : TraceState). length (entries_of x)) (sym all) in
    record { is = verdict-legal whole m n r.0 count; legal = (λ x. fair, λ l. ap verdict.Legal count) }

pub verified-illegal : (t : TraceState) (m : Machine) (d : Difference) → IsReplayedFrom m t (replay.IllegalAt d) → IsVerdictFrom m t (verdict.IllegalAt d.place d.expected d.found)
verified-illegal t m d r = record { is = verdict-illegal t m d r.0; legal = (λ x. absurd (cc x), λ l. absurd (r.1 l)) }

-- ---- from opening on

-- a kernel at the opening of what is held is one of the whole
pub opened-whole : (whole t : TraceState) (k : SegmentedState) → IsHeldOf whole t → k ≡ at_opening t.config → k ≡ at_opening whole.config
opened-whole whole t k h is = is ∙ ap (λ (x : TraceState). at_opening x.config) (sym h.is)

pub replayed-opened : (E : Type 0) (t : TraceState) (k : SegmentedState) (r : Result Replayed E) → k ≡ at_opening t.config → IfOk r (IsReplayedFrom k.start t) → IfOk r (IsReplayed t)
replayed-opened E t k r is h = subst (λ (x : SegmentedState). IfOk r (IsReplayedFrom x.start t)) is h

verdict-opened : (t : TraceState) (k : SegmentedState) → k ≡ at_opening t.config → verdict_from k.start t ≡ verdict_of t
unfolding verdict_from verdict_of
verdict-opened t k is = ap (λ (x : SegmentedState). verdict_from x.start t) is

pub told-opened : (E : Type 0) (t : TraceState) (k : SegmentedState) (r : Result Verdict E) → k ≡ at_opening t.config → IfOk r (λ v. v ≡ verdict_from k.start t) → IfOk r (λ v. v ≡ verdict_of t)
told-opened E t k r is h = subst (λ w. IfOk r (λ v. v ≡ w)) (verdict-opened t k is) h

pub verified-opened : (E : Type 0) (t : TraceState) (k : SegmentedState) (r : Result Verdict E) → k ≡ at_opening t.config → IfOk r (λ v. (v ≡ verdict.Legal (length (entries_of t))) ↔ IsLegalTraceFrom k.start t) →
    IfOk r (λ v. (v ≡ verdict.Legal (length (entries_of t))) ↔ IsLegalTrace t)
verified-opened E t k r is h = subst (λ (x : SegmentedState). IfOk r (λ v. (v ≡ verdict.Legal (length (entries_of t))) ↔ IsLegalTraceFrom x.start t)) is h

pub verifies-opened : (E : Type 0) (t : TraceState) (k : SegmentedState) (r : Result Verdict E) → k ≡ at_opening t.config → IfOk r (IsVerdictFrom k.start t) → IfOk r (IsVerdictOn t)
verifies-opened E t k (Ok v) is j = record {
  is = j.is ∙ verdict-opened t k is;
  legal = subst (λ (x : SegmentedState). (v ≡ verdict.Legal (length (entries_of t))) ↔ IsLegalTraceFrom x.start t) is j.legal;
}
verifies-opened E t k (Err e) is j = j
