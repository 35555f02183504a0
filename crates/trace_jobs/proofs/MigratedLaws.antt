-- What a trace that was migrated stands for.
-- for: check_text, check_trace, migrate_text and others
use Rattle.std.specs.Prelude.{◌≡◌, refl, ℕ, Option, Some, None, Result, Ok, Err, List}
use Rattle.std.specs.Io.KnownBytes.{Appends}
use Rattle.std.proofs.Common.{◌∙◌, sym, ap, subst}
use Rattle.job_ends.proofs.PlanLaws.{whole}
use Rattle.job_ends.specs.Causes.{is_fault}
use Rattle.job_ends.specs.Ends.{EndsBy}
use Rattle.job_ends.specs.Plans.{plan_of_reading}
use Rattle.job_ends.specs.declared.status.Status.{Status}
use Rattle.job_ends.specs.declared.status.Status.TheVariants as status
use Rattle.motion_history.specs.declared.refused.TextRefused.{TextRefused}
use Rattle.outside.specs.Told.{FileMap, HasFile}
use Rattle.trace_check.specs.Laws.{migrated_version}
use Rattle.trace_check.specs.Progress.{difference_in}
use Rattle.trace_check.specs.declared.difference.Difference.{Difference}
use Rattle.trace_text.specs.reading.Reading.{trace_of}
use Rattle.trace_text.specs.Trace.{trace_text}
use Rattle.trace_text.specs.TraceState.{TraceState}
use Rattle.trace_text.specs.writing.Writes.{Output}
use Rattle.trace_jobs.proofs.HistoryLaws.{history_is}
use Rattle.trace_jobs.specs.Verified.{JudgesBy, tells_legal}
use Rattle.trace_jobs.specs.Migrated.{Migrated}
use Rattle.trace_jobs.specs.Plans.{migrate_plan, migrated_plan, plan_of_migrate}

trace-migrated : (name text : List ℕ) (old new : Output) (s : Status) (t : TraceState)
    (o : Option Difference) → trace_of text ≡ Ok t → EndsBy old new (migrated_plan t o) s →
    JudgesBy (λ x. trace_of text ≡ Ok x) s → (files : Option FileMap) → HasFile files name text →
    s ≡ status.Ok → Migrated files name old.told new.told
trace-migrated name text old new s t (Some d) is e verified files file h =
    let all = whole old new _ s e (ap is_fault h) in
    let bad : status.Ok ≡ status.Illegal d.place = sym h ∙ all.0 in absurd (cc)
trace-migrated name text old new s t None is e verified files file h =
    let told = verified t is in
    let legal = told.legal (ap tells_legal h) in
    record {
      text = text;
      trace = t;
      file = file;
      reading = is;
      history = legal.history;
      is = legal.is;
      legal = legal.legal;
      written = subst (λ es. Appends old.told new.told
          (trace_text (migrated_version t) t.command t.config es t.drives))
          (sym (history_is t legal.history legal.legal legal.is))
          (whole old new _ s e (ap is_fault h)).1;
      again = told.again (ap tells_legal h) legal.history legal.legal legal.is;
    }

read-migrated : (name text : List ℕ) (old new : Output) (s : Status)
    (reading : Result TraceState TextRefused) → trace_of text ≡ reading →
    EndsBy old new (plan_of_reading plan_of_migrate 1 name reading) s →
    JudgesBy (λ x. trace_of text ≡ Ok x) s → (files : Option FileMap) → HasFile files name text →
    s ≡ status.Ok → Migrated files name old.told new.told
read-migrated name text old new s (Err r) is e verified files file h =
    let all = whole old new _ s e (ap is_fault h) in
    let bad : status.Ok ≡ status.TextRefused 1 r.place r.rule = sym h ∙ all.0 in absurd (cc)
read-migrated name text old new s (Ok t) is e verified files file h =
    trace-migrated name text old new s t (difference_in t) is e verified files file h

pub migrated-of : (name text : List ℕ) (old new : Output) (s : Status) →
    EndsBy old new (migrate_plan name text) s → JudgesBy (λ x. trace_of text ≡ Ok x) s →
    (files : Option FileMap) → HasFile files name text → s ≡ status.Ok →
    Migrated files name old.told new.told
migrated-of name text old new s e verified files file h =
    read-migrated name text old new s (trace_of text) refl e verified files file h
