-- How the job ends with its file, and what that says of its status.
-- for: scope_file
use Rattle.std.specs.Prelude.{◌≡◌, refl, ℕ, Option, List}
use Rattle.std.proofs.Common.{ap, subst, sym}
use Rattle.job_ends.proofs.OverLaws.{by-reading, file-read, file-says}
use Rattle.job_ends.proofs.PlanLaws.{whole}
use Rattle.job_ends.specs.Causes.{is_fault}
use Rattle.job_ends.proofs.Endings.{EndsGiven}
use Rattle.job_ends.specs.Courses.{word_of}
use Rattle.job_ends.specs.Ends.{EndsBy}
use Rattle.job_ends.specs.Files.{IsText}
use Rattle.job_ends.specs.declared.status.Status.{Status}
use Rattle.outside.specs.Told.{FileMap}
use Rattle.scope_report.specs.Laws.{SaysOfEach}
use Rattle.trace_text.specs.reading.Reading.{trace_of}
use Rattle.trace_text.specs.TraceState.{TraceState}
use Rattle.trace_text.specs.writing.Writes.{Output}
use Rattle.scope_job.specs.Causes.{scope_job}
use Rattle.scope_job.specs.Ends.{Course, EndsByScope}
use Rattle.scope_job.specs.Plans.{most_bytes, plan_of_scope, scope_plan}

-- a trace leads to Ok, and to nothing else
shown : (name : List ℕ) (old new : Output) (s : Status) (t : TraceState) →
    EndsBy old new (plan_of_scope t) s → EndsGiven (scope_job name) t old new s
shown name old new s t e = record {
  plan = plan_of_scope t;
  ends = e;
  own = refl;
  unfaulted = refl;
  caused = λ f d. refl;
  alone = λ f other d is. sym is;
}

-- so the job ended
pub ended : ((t : TraceState) → SaysOfEach t) → (told : Option FileMap) (rose : Type 0)
    (name : List ℕ) (old new : Output) (s : Status) → Course told rose name old new s →
    EndsByScope told rose name old new s
ended says told rose name old new s course = record {
  course = course;
  says = file-says told rose name most_bytes trace_of _ _ _ old new s (shown name old new s) course;
  scoped = λ h. file-read told rose name most_bytes trace_of _ old new s _ (ap is_fault h)
      (ap word_of h)
      (λ t text is read e. record {
        text = text;
        trace = t;
        file = is.file;
        reading = read;
        written = (whole old new (plan_of_scope t) s e (ap is_fault h)).1;
        says = says t;
      }) course;
}

-- its text was read, and nothing written before
pub text-ended : ((t : TraceState) → SaysOfEach t) → (told : Option FileMap) (rose : Type 0)
    (name text read : List ℕ) (old mid new : Output) (s : Status) → mid ≡ old → read ≡ text →
    IsText told name most_bytes text → EndsBy mid new (scope_plan name read) s →
    EndsByScope told rose name old new s
text-ended says told rose name text read old mid new s same is t e =
    ended says told rose name old new s
    (by-reading told rose name text most_bytes trace_of plan_of_scope old new s
    (trace_of text) t refl
    (subst (λ x. EndsBy old new (scope_plan name x) s) is
    (subst (λ o. EndsBy o new (scope_plan name read) s) same e)))
