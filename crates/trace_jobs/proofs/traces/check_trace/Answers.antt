-- A trace was verified, or there was no memory for it.
use Rattle.std.specs.Prelude.{None}
use Rattle.std.proofs.Common.{◌≡◌, ◌∙◌, ap, refl, subst, sym}
use Rattle.trace_check.proofs.LegalLaws.{legal-held}
use Rattle.trace_check.specs.Legal.{IsLegalTrace}
use Rattle.trace_check.specs.declared.verdict.Verdict.TheVariants as verdict
use Rattle.trace_text.specs.TraceKept.{IsTraceKept}
use Rattle.trace_jobs.specs.Plans.{verified_plan}
use Rattle.job_ends.proofs.PlanLaws.{early}
use Rattle.job_ends.proofs.Statuses.{same-plan}
use Rattle.trace_jobs.proofs.EndLaws.{checked, illegal-of, verifies-illegal, verifies-legal, verifies-other, legal-of}
use Rattle.trace_jobs.proofs.traces.check_trace.Goals as goal

pub returns-in-Ok-Legal : goal.returns-in-Ok-Legal
returns-in-Ok-Legal g c = record {
  verified = λ whole held.
      let v = c.in-Ok-Legal.ensures.held whole held in
      let is = legal-of whole c.in-Ok-Legal.entries (sym c.in-Ok-Legal.field-0-is ∙ v.is) in
      let fair : IsLegalTrace whole =
      v.legal.0 (c.in-Ok-Legal.field-0-is ∙ ap verdict.Legal is.1) in
      let all = legal-held whole c.args.trace.now _ held fair in
      let kept : IsTraceKept whole = subst IsTraceKept (sym all) c.requires in
      verifies-legal whole c.in-Ok-Legal.field-0 c.in-Ok-Legal.entries c.say_legal.result
      c.in-Ok-Legal.field-0-is v.is v.legal
      (λ es. c.migrated_traces_are_legal.ensures whole es kept) c.say_legal.ensures.illegal;
  ends = λ whole held.
      let v = c.in-Ok-Legal.ensures.held whole held in
      let is = legal-of whole c.in-Ok-Legal.entries (sym c.in-Ok-Legal.field-0-is ∙ v.is) in
      same-plan _ _ _ _ _ (ap (λ n. verified_plan n None) is.1 ∙ sym (checked whole None is.0))
      c.say_legal.ensures.ends;
}

pub returns-in-Ok-IllegalAt-clause-verified : goal.returns-in-Ok-IllegalAt-clause-verified
returns-in-Ok-IllegalAt-clause-verified g c = λ whole held.
    let v = c.in-Ok-IllegalAt.ensures.held whole held in
    verifies-illegal whole c.in-Ok-IllegalAt.field-0 _ _ _ c.say_difference.result
    c.in-Ok-IllegalAt.field-0-is v.legal c.say_difference.ensures.legal

pub returns-in-Ok-IllegalAt-clause-ends : goal.returns-in-Ok-IllegalAt-clause-ends
returns-in-Ok-IllegalAt-clause-ends g c = λ whole held.
    let v = c.in-Ok-IllegalAt.ensures.held whole held in
    same-plan _ _ _ _ _
    (sym (checked whole _ (illegal-of whole _ _ _ (sym c.in-Ok-IllegalAt.field-0-is ∙ v.is))))
    c.say_difference.ensures.ends

pub returns-in-Err-clause-verified : goal.returns-in-Err-clause-verified
returns-in-Err-clause-verified g c = λ whole held. verifies-other (λ t. t ≡ whole) _ refl refl

pub returns-in-Err-clause-ends : goal.returns-in-Err-clause-ends
returns-in-Err-clause-ends g c = λ whole held.
    early _ _ _ _ (record { status = refl; output = refl })
