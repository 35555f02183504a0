-- Each status of the job comes of its cause.
-- for: check_trace_segment_text
use Rattle.std.specs.Prelude.{◌≡◌, refl, ℕ, true, Some, None, Result, Ok, Err, List, [], length}
use Rattle.std.proofs.Common.{◌∙◌, ap, inl, inr, subst, sym}
use Rattle.job_ends.proofs.Refusals.{refused-cause, refused-plan}
use Rattle.job_ends.specs.Causes.{IsRefusedAt, is_told, refusal_by}
use Rattle.job_ends.specs.Plans.{Plan, plan_of_reading, refused_plan}
use Rattle.job_ends.specs.declared.status.Status.{Status}
use Rattle.job_ends.specs.declared.status.Status.TheVariants as status
use Rattle.motion_history.specs.declared.refused.Rule.{Rule}
use Rattle.motion_history.specs.declared.refused.TextRefused.{TextRefused}
use Rattle.segment_check.specs.Begun.{MayBegin}
use Rattle.segment_check.proofs.Flaws.{one_flaw}
use Rattle.segment_check.specs.Flaws.{IsFlawOf}
use Rattle.segment_check.specs.Verified.{IsVerified, IsLegalTraceSegment}
use Rattle.segment_check.specs.declared.flaw.Flaw.{Flaw}
use Rattle.segment_check.specs.declared.verifying.Verdict.{Verdict}
use Rattle.segment_check.specs.declared.verifying.Verdict.TheVariants as verdict
use Rattle.segment_text.specs.declared.trace_segment.TraceSegment.{TraceSegment}
use Rattle.segment_text.specs.reading.Reading.{trace_segment_of}
use Rattle.trace_check.specs.Progress.{difference_from}
use Rattle.trace_check.specs.declared.difference.Difference.{Difference}
use Rattle.trace_text.specs.TraceState.{entries_of}
use Rattle.segment_job.specs.Causes.{TraceSegmentCause}
use Rattle.segment_job.specs.Plans.{beginning_place, beginning_rule, plan_of_verdict}

-- ---- by the verdict on a trace segment

pub verdict-told : (name : List ℕ) (v : Verdict) → is_told (plan_of_verdict name v).status ≡ true
verdict-told name (verdict.NoBeginning f) = refl
verdict-told name (verdict.Legal entries next) = refl
verdict-told name (verdict.IllegalAt d) = refl

pub verdict-caused : (name text : List ℕ) (p : TraceSegment) → trace_segment_of text ≡ Ok p → (v : Verdict) →
    IsVerified p v → TraceSegmentCause text (plan_of_verdict name v).status
verdict-caused name text p is (verdict.NoBeginning f) j = inr (record {
  trace_segment = p;
  reading = is;
  flaw = f;
  found = j.0;
  none = j.1;
  first = refl;
  place_is = refl;
  rule_is = refl;
})
verdict-caused name text p is (verdict.Legal entries next) j =
    record { trace_segment = p; reading = is; legal = j.trace_segment; count = sym j.count }
verdict-caused name text p is (verdict.IllegalAt d) j = record {
  trace_segment = p;
  reading = is;
  begins = j.0;
  difference = d;
  first = j.1;
  place_is = refl;
}

-- a text is one trace segment
same-trace_segment : (text : List ℕ) (p q : TraceSegment) → trace_segment_of text ≡ Ok p → trace_segment_of text ≡ Ok q → q ≡ p
same-trace_segment text p q is other = let same : Ok q ≡ Ok p = sym other ∙ is in cc

legal-alone : (name : List ℕ) (p : TraceSegment) (v : Verdict) (n : ℕ) → IsVerified p v → IsLegalTraceSegment p →
    length (entries_of p.trace) ≡ n → (plan_of_verdict name v).status ≡ status.Legal n
legal-alone name p (verdict.NoBeginning f) n j legal count = absurd (j.1 legal.begins)
legal-alone name p (verdict.Legal entries next) n j legal count = ap status.Legal (j.count ∙ count)
legal-alone name p (verdict.IllegalAt d) n j legal count = absurd (j.2 legal.trace)

illegal-alone : (name : List ℕ) (p : TraceSegment) (v : Verdict) (d : Difference) → IsVerified p v →
    MayBegin p → difference_from p.machine p.trace ≡ Some d →
    (plan_of_verdict name v).status ≡ status.Illegal d.place
illegal-alone name p (verdict.NoBeginning f) d j begins first = absurd (j.1 begins)
illegal-alone name p (verdict.Legal entries next) d j begins first =
    absurd (let bad : None ≡ Some d = sym j.same ∙ first in cc)
illegal-alone name p (verdict.IllegalAt e) d j begins first =
    let same : Some e ≡ Some d = sym j.1 ∙ first in
    let is : e ≡ d = cc in ap (λ (x : Difference). status.Illegal x.place) is

none-alone : (name : List ℕ) (p : TraceSegment) (v : Verdict) (f : Flaw) → IsVerified p v →
    IsFlawOf p (Some f) → ¬ MayBegin p →
    (plan_of_verdict name v).status ≡ status.TextRefused 1 (beginning_place f) (beginning_rule f)
none-alone name p (verdict.NoBeginning g) f j found none =
    ap (λ (x : Flaw). status.TextRefused 1 (beginning_place x) (beginning_rule x))
    (one_flaw p g f j.0 found)
none-alone name p (verdict.Legal entries next) f j found none = absurd (none j.trace_segment.begins)
none-alone name p (verdict.IllegalAt d) f j found none = absurd (none j.0)

-- a text that is a trace segment is not refused
no-refusal : (r : TextRefused) → None ≡ Some r → ⊥
no-refusal r e = absurd (cc)

unrefused : (reading : Result TraceSegment TextRefused) (p : TraceSegment) (word place : ℕ) (rule : Rule) →
    reading ≡ Ok p → IsRefusedAt reading word place rule → ⊥
unrefused reading p word place rule is h =
    no-refusal (record { place = place; rule = rule }) (sym (ap refusal_by is) ∙ h.refusal)

-- a refusal that is the same
same-refusal : (word place there : ℕ) (rule other : Rule) → word ≡ 1 → place ≡ there → rule ≡ other →
    status.TextRefused 1 there other ≡ status.TextRefused word place rule
same-refusal word place there rule other w p r =
    λ i. status.TextRefused (sym w i) (sym p i) (sym r i)

pub verdict-alone : (name text : List ℕ) (p : TraceSegment) → trace_segment_of text ≡ Ok p → (v : Verdict) →
    IsVerified p v → (other : Status) → TraceSegmentCause text other →
    (plan_of_verdict name v).status ≡ other
verdict-alone name text p is v j (status.Legal n) h =
    let same = same-trace_segment text p h.trace_segment is h.reading in
    legal-alone name p v n j (subst IsLegalTraceSegment same h.legal)
    (ap (λ (q : TraceSegment). length (entries_of q.trace)) (sym same) ∙ h.count)
verdict-alone name text p is v j (status.Illegal place) h =
    let same = same-trace_segment text p h.trace_segment is h.reading in
    illegal-alone name p v h.difference j (subst MayBegin same h.begins)
    (ap (λ (q : TraceSegment). difference_from q.machine q.trace) (sym same) ∙ h.first)
    ∙ ap status.Illegal h.place_is
verdict-alone name text p is v j (status.TextRefused word place rule) (inl h) =
    absurd (unrefused (trace_segment_of text) p word place rule is h)
verdict-alone name text p is v j (status.TextRefused word place rule) (inr h) =
    let same = same-trace_segment text p h.trace_segment is h.reading in
    none-alone name p v h.flaw j
    (subst (λ (q : TraceSegment). IsFlawOf q (Some h.flaw)) same h.found)
    (subst (λ (q : TraceSegment). ¬ MayBegin q) same h.none)
    ∙ same-refusal word place (beginning_place h.flaw) rule (beginning_rule h.flaw) h.first
    h.place_is h.rule_is
verdict-alone name text p is v j other h = absurd h

-- ---- by the refusal of a text

pub refusal-caused : (text : List ℕ) (r : TextRefused) → trace_segment_of text ≡ Err r →
    TraceSegmentCause text (status.TextRefused 1 r.place r.rule)
refusal-caused text r is = inl (refused-cause (trace_segment_of text) r is)

-- a text that is refused is no trace segment
no-trace_segment : {A : Type 0} (text : List ℕ) (r : TextRefused) (p : TraceSegment) → trace_segment_of text ≡ Err r →
    trace_segment_of text ≡ Ok p → A
no-trace_segment text r p is other = absurd (let bad : Err r ≡ Ok p = sym is ∙ other in cc)

-- a plan of trace segments that nobody follows
some-plan : TraceSegment → Plan
some-plan p = record { status = status.Ok; text = [] }

pub refusal-alone : (name text : List ℕ) (r : TextRefused) → trace_segment_of text ≡ Err r →
    (other : Status) → TraceSegmentCause text other → (refused_plan 1 name r).status ≡ other
refusal-alone name text r is (status.Legal n) h = no-trace_segment text r h.trace_segment is h.reading
refusal-alone name text r is (status.Illegal place) h = no-trace_segment text r h.trace_segment is h.reading
refusal-alone name text r is (status.TextRefused word place rule) (inl h) =
    ap (λ x. (plan_of_reading some-plan 1 name x).status) (sym is)
    ∙ refused-plan some-plan name (trace_segment_of text) word place rule h
refusal-alone name text r is (status.TextRefused word place rule) (inr h) =
    no-trace_segment text r h.trace_segment is h.reading
refusal-alone name text r is other h = absurd h
