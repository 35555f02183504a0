-- How the job ends, from what its parts did.
-- for: check_trace_segment_text
use Rattle.std.specs.Prelude.{◌≡◌, ◌⊎◌, refl, ℕ, true, false, Result, Ok, Err, List}
use Rattle.std.proofs.Common.{◌∙◌, ap, inl, inr, subst, sym}
use Rattle.job_ends.proofs.PlanLaws.{early}
use Rattle.job_ends.specs.Causes.{is_fault}
use Rattle.job_ends.specs.Ends.{EndsBy, EndsEarly}
use Rattle.job_ends.specs.Plans.{refused_plan}
use Rattle.job_ends.specs.declared.status.Status.{Status}
use Rattle.motion_history.specs.declared.refused.TextFault.{TextFault}
use Rattle.motion_history.specs.declared.refused.TextFault.TheVariants.{Refused}
use Rattle.motion_history.specs.declared.refused.TextRefused.{TextRefused}
use Rattle.segment_check.specs.declared.flaw.Flaw.TheVariants as flaw
use Rattle.segment_text.specs.declared.trace_segment.TraceSegment.{TraceSegment}
use Rattle.segment_text.specs.reading.Reading.{ReadsBy, trace_segment_of}
use Rattle.trace_text.specs.writing.Writes.{Output}
use Rattle.segment_job.proofs.CauseLaws.{refusal-alone, refusal-caused, verdict-alone, verdict-caused, verdict-told}
use Rattle.segment_job.specs.Ends.{EndsByTraceSegment, EndsByVerdict}
use Rattle.segment_job.specs.Plans.{IsPlanOfReading, no_beginning, plan_of_verdict}

-- why a text is refused
pub refused-why : (reading : Result TraceSegment TextRefused) (f : TextFault) (r : TextRefused) →
    f ≡ Refused r → ReadsBy reading (Err f) → reading ≡ Err r
refused-why reading f r e why =
    let P : TextFault → Type 0 = λ x. ReadsBy reading (Err x) in subst P e why

-- memory ran out before anything was written
pub early-ended : (name text : List ℕ) (old new : Output) (s : Status) →
    EndsEarly old new s → EndsByTraceSegment name text old new s
early-ended name text old new s e =
    let fault : is_fault s ≡ true = ap is_fault e.status in
    record {
      plan = refused_plan 1 name (no_beginning flaw.Counts);
      is = inr e;
      by = record {
        ends = early old new (refused_plan 1 name (no_beginning flaw.Counts)) s e;
        told = refl;
        caused = λ f. absurd (let bad : true ≡ false = sym fault ∙ f in cc);
        alone = λ f. absurd (let bad : true ≡ false = sym fault ∙ f in cc);
      };
    }

-- a text that is no trace segment
pub refused-ended : (name text : List ℕ) (r : TextRefused) (old new : Output) (s : Status) →
    trace_segment_of text ≡ Err r → EndsBy old new (refused_plan 1 name r) s →
    EndsByTraceSegment name text old new s
refused-ended name text r old new s is e = record {
  plan = refused_plan 1 name r;
  is = inl (subst (λ x. IsPlanOfReading name x (refused_plan 1 name r)) (sym is) refl);
  by = record {
    ends = e;
    told = refl;
    caused = λ f. refusal-caused text r is;
    alone = λ f. refusal-alone name text r is;
  };
}

-- a trace segment that was verified
pub verified-ended : (name text : List ℕ) (p : TraceSegment) (old new : Output)
    (s : Status) → trace_segment_of text ≡ Ok p → EndsByVerdict name p old new s ⊎ EndsEarly old
    new s →
    EndsByTraceSegment name text old new s
verified-ended name text p old new s is (inr e) = early-ended name text old new s e
verified-ended name text p old new s is (inl e) =
    let plan = plan_of_verdict name e.verdict in
    record {
      plan = plan;
      is = inl (subst (λ x. IsPlanOfReading name x plan) (sym is)
          (record { verdict = e.verdict; verified = e.verified; plan_is = refl }));
      by = record {
        ends = e.ends;
        told = verdict-told name e.verdict;
        caused = λ f. verdict-caused name text p is e.verdict e.verified;
        alone = λ f. verdict-alone name text p is e.verdict e.verified;
      };
    }
