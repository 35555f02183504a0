-- The trace was verified, or there was no memory for it.
use Rattle.std.specs.Prelude.{None}
use Rattle.std.proofs.Common.{◌∙◌, ap, refl, sym}
use Rattle.job_ends.proofs.PlanLaws.{early}
use Rattle.job_ends.proofs.Statuses.{same-plan}
use Rattle.trace_check.proofs.LegalLaws.{legal-held}
use Rattle.trace_check.specs.Legal.{IsLegalTrace}
use Rattle.trace_check.specs.declared.verdict.Verdict.TheVariants as verdict
use Rattle.trace_jobs.proofs.EndLaws.{legal-of}
use Rattle.switch_job.specs.Plans.{switched_plan}
use Rattle.switch_job.proofs.Verdicts.{plan-of-illegal, plan-of-legal, tells-legal}
use Rattle.switch_job.proofs.switches.write_both.Goals as goal

pub returns-in-Ok-Legal-clause-ends : goal.returns-in-Ok-Legal-clause-ends
returns-in-Ok-Legal-clause-ends g c = λ whole held.
    let v = c.in-Ok-Legal.ensures.held whole held in
    let is = sym c.in-Ok-Legal.field-0-is ∙ v.is in
    let count = (legal-of whole c.in-Ok-Legal.field-0-0 is).1 in
    let fair : IsLegalTrace whole =
    v.legal.0 (c.in-Ok-Legal.field-0-is ∙ ap verdict.Legal count) in
    let all = legal-held whole c.args.trace.now _ held fair in
    same-plan _ _ _ _ _
    (ap (λ t. switched_plan t c.args.switches.now None) (sym all)
    ∙ plan-of-legal whole c.args.switches.now c.in-Ok-Legal.field-0-0 is)
    (record {
      written = c.write_edges.result;
      writes = c.write_edges.ensures;
      status = c.status_by.ensures;
    })

pub returns-in-Ok-Legal-clause-legal : goal.returns-in-Ok-Legal-clause-legal
returns-in-Ok-Legal-clause-legal g c = λ whole held f.
    let v = c.in-Ok-Legal.ensures.held whole held in
    tells-legal whole c.in-Ok-Legal.field-0 v.is v.legal

pub returns-in-Ok-IllegalAt-clause-ends : goal.returns-in-Ok-IllegalAt-clause-ends
returns-in-Ok-IllegalAt-clause-ends g c = λ whole held.
    let v = c.in-Ok-IllegalAt.ensures.held whole held in
    same-plan _ _ _ _ _
    (plan-of-illegal whole c.args.switches.now _ _ _ (sym c.in-Ok-IllegalAt.field-0-is ∙ v.is))
    c.say_difference.ensures.ends

pub returns-in-Ok-IllegalAt-clause-legal : goal.returns-in-Ok-IllegalAt-clause-legal
returns-in-Ok-IllegalAt-clause-legal g c = λ whole held f.
    let v = c.in-Ok-IllegalAt.ensures.held whole held in
    tells-legal whole c.in-Ok-IllegalAt.field-0 v.is v.legal

pub returns-in-Err-clause-ends : goal.returns-in-Err-clause-ends
returns-in-Err-clause-ends g c = λ whole held.
    early _ _ _ _ (record { status = refl; output = refl })
