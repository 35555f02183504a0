-- A trace was written again, or there was no memory for it.
use Rattle.std.specs.Prelude.{None, length}
use Rattle.std.proofs.Common.{◌≡◌, ◌∙◌, ap, refl, subst, sym}
use Rattle.motion_history.specs.Setup.{Setup}
use Rattle.trace_check.specs.Legal.{IsLegalTrace}
use Rattle.trace_check.specs.Outcomes.{IsReplayed}
use Rattle.trace_check.specs.declared.replaying.Replayed.TheVariants as replay
use Rattle.trace_check.proofs.HeldLaws.{migrated-holds}
use Rattle.trace_check.proofs.LegalLaws.{legal-held}
use Rattle.trace_text.specs.TraceKept.{IsTraceKept}
use Rattle.trace_jobs.specs.Plans.{plan_of_migrate}
use Rattle.trace_text.specs.Trace.{CanHold, trace_text}
use Rattle.trace_text.specs.writing.Writes.{Output, Writes}
use Rattle.job_ends.proofs.PlanLaws.{early}
use Rattle.job_ends.specs.Ends.{EndsBy}
use Rattle.job_ends.proofs.Statuses.{same-plan}
use Rattle.trace_jobs.specs.Verified.{tells_illegal}
use Rattle.job_ends.specs.declared.status.Status.TheVariants as status
use Rattle.trace_jobs.proofs.EndLaws.{verifies-fair, verifies-other, verifies-unfair, migrating, not-by}
use Rattle.trace_jobs.proofs.HistoryLaws.{history_is}
use Rattle.trace_jobs.proofs.traces.migrate_trace.Goals as goal

pub write_trace-written-requires-clause-version : goal.write_trace-written-requires-clause-version
write_trace-written-requires-clause-version g c =
    subst (λ s. CanHold c.version_again.result s) (sym c.config.ensures)
    (subst (λ v. CanHold v c.args.trace.now.config) (sym c.version_again.ensures)
    (migrated-holds c.args.trace.now))

pub write_trace-written-requires-clause-drives : goal.write_trace-written-requires-clause-drives
write_trace-written-requires-clause-drives g c =
    c.drives.ensures.each
    ∙ ap (λ (s : Setup). length s.axes) (sym c.config.ensures)

pub returns-in-Ok-Legal-clause-verified : goal.returns-in-Ok-Legal-clause-verified
returns-in-Ok-Legal-clause-verified g c = λ whole held.
    let is = subst (IsReplayed whole) c.in-Ok-Legal.field-0-is
    (c.in-Ok-Legal.ensures.held whole held) in
    let fair : IsLegalTrace whole = record {
      history = c.in-Ok-Legal.kernel.history;
      legal = is.1.legal;
      is = is.1.is;
    } in
    let all = legal-held whole c.args.trace.now _ held fair in
    let kept : IsTraceKept whole = subst IsTraceKept (sym all) c.requires in
    verifies-fair whole c.status_by.result fair
    (λ es. c.migrated_traces_are_legal.ensures whole es kept)
    (not-by tells_illegal refl refl status.Ok c.status_by.result c.write_trace-written.result refl
    c.status_by.ensures)

pub returns-in-Ok-Legal-clause-ends : goal.returns-in-Ok-Legal-clause-ends
returns-in-Ok-Legal-clause-ends g c = λ whole held.
    let is = subst (IsReplayed whole) c.in-Ok-Legal.field-0-is
    (c.in-Ok-Legal.ensures.held whole held) in
    let fair : IsLegalTrace whole = record {
      history = c.in-Ok-Legal.kernel.history;
      legal = is.1.legal;
      is = is.1.is;
    } in
    let t = c.args.trace.now in
    let all : whole ≡ t = legal-held whole t _ held fair in
    let told : IsReplayed t (replay.Legal c.in-Ok-Legal.kernel) =
    subst (IsReplayed t) c.in-Ok-Legal.field-0-is c.in-Ok-Legal.ensures.replay in
    let history = c.history.ensures.entries
    ∙ history_is t c.in-Ok-Legal.kernel.history told.1.legal told.1.is in
    let old : Output = record {
      count = g.K.Sink.count c.args.out.now;
      told = g.K.Sink.told c.args.out.now;
    } in
    let new : Output = record {
      count = g.K.Sink.count c.write_trace-written.new.out;
      told = g.K.Sink.told c.write_trace-written.new.out;
    } in
    subst (λ p. EndsBy old new p c.status_by.result)
    (sym (ap plan_of_migrate all ∙ migrating t None told.0))
    (record {
      written = c.write_trace-written.result;
      writes = subst (λ x. Writes old new x c.write_trace-written.result)
          (λ i. trace_text (c.version_again.ensures i) (c.command.ensures i) (c.config.ensures i) (history i)
          (c.drives.ensures.items i)) c.write_trace-written.ensures;
      status = c.status_by.ensures;
    })

pub returns-in-Ok-IllegalAt-clause-verified : goal.returns-in-Ok-IllegalAt-clause-verified
returns-in-Ok-IllegalAt-clause-verified g c = λ whole held.
    let is = subst (IsReplayed whole) c.in-Ok-IllegalAt.field-0-is
    (c.in-Ok-IllegalAt.ensures.held whole held) in
    verifies-unfair whole c.say_difference.result is.1 c.say_difference.ensures.legal

pub returns-in-Ok-IllegalAt-clause-ends : goal.returns-in-Ok-IllegalAt-clause-ends
returns-in-Ok-IllegalAt-clause-ends g c = λ whole held.
    let is = subst (IsReplayed whole) c.in-Ok-IllegalAt.field-0-is
    (c.in-Ok-IllegalAt.ensures.held whole held) in
    same-plan _ _ _ _ _ (sym (migrating whole _ is.0)) c.say_difference.ensures.ends

pub returns-in-Err-clause-verified : goal.returns-in-Err-clause-verified
returns-in-Err-clause-verified g c = λ whole held. verifies-other (λ t. t ≡ whole) _ refl refl

pub returns-in-Err-clause-ends : goal.returns-in-Err-clause-ends
returns-in-Err-clause-ends g c = λ whole held.
    early _ _ _ _ (record { status = refl; output = refl })
