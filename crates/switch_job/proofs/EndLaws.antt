-- How the job ends, and what that says of its status.
-- for: switch_files
use Rattle.std.specs.Prelude.{◌≡◌, refl, ℕ, true, false, Option, Some, None, List}
use Rattle.std.specs.Io.KnownBytes.{Appends}
use Rattle.std.proofs.Common.{◌∙◌, sym, ap, subst}
use Rattle.switch_text.specs.declared.switch.Switch.{Switch}
use Rattle.job_ends.proofs.Both.{both-read, both-says, both-there}
use Rattle.job_ends.proofs.PlanLaws.{whole}
use Rattle.job_ends.specs.Causes.{is_fault}
use Rattle.job_ends.proofs.Endings.{EndsGiven}
use Rattle.job_ends.specs.Courses.{word_of}
use Rattle.job_ends.specs.declared.status.Status.{Status}
use Rattle.job_ends.specs.declared.status.Status.TheVariants as status
use Rattle.outside.specs.Told.{FileMap}
use Rattle.switch_text.specs.Reading.{switches_of}
use Rattle.switch_text.specs.Spelled.{IsSwitchText}
use Rattle.trace_check.specs.Progress.{difference_in}
use Rattle.trace_check.specs.declared.difference.Difference.{Difference}
use Rattle.trace_jobs.specs.Causes.{LegalCause}
use Rattle.trace_text.specs.reading.Reading.{trace_of}
use Rattle.trace_text.specs.TraceState.{TraceState}
use Rattle.trace_text.specs.writing.Writes.{Output}
use Rattle.switch_job.specs.Causes.{is_of_both, switch_job}
use Rattle.switch_job.specs.Ends.{Course, EndsByBoth, EndsBySwitches}
use Rattle.switch_job.specs.Given.{IsTraceText, TellsLegal, most_of_switches, most_of_trace}
use Rattle.switch_job.specs.Plans.{plan_of_switches, switched_plan}
use Rattle.switch_job.specs.Switched.{Switched}

-- ---- the plan of both, and its cause

of-both : (t : TraceState) (ss : List Switch) (o : Option Difference) →
    is_of_both (switched_plan t ss o).status ≡ true
of-both t ss None = refl
of-both t ss (Some d) = refl

unfaulted : (t : TraceState) (ss : List Switch) (o : Option Difference) →
    is_fault (switched_plan t ss o).status ≡ false
unfaulted t ss None = refl
unfaulted t ss (Some d) = refl

-- where no record differs the trace is legal, else it is not
caused : (t : TraceState) (ss : List Switch) (o : Option Difference) → TellsLegal t →
    difference_in t ≡ o → LegalCause t (switched_plan t ss o).status
caused t ss None law d = law.0 d
caused t ss (Some x) law d = record { difference = x; first = d; place_is = refl }

alone : (t : TraceState) (ss : List Switch) (other : Status) → TellsLegal t → LegalCause t other →
    (plan_of_switches t ss).status ≡ other
alone t ss status.Ok law c = ap (λ o. (switched_plan t ss o).status) (law.1 c)
alone t ss (status.Illegal place) law c =
    ap (λ o. (switched_plan t ss o).status) c.first ∙ ap status.Illegal c.place_is
alone t ss other law c = absurd c

shown : (told : Option FileMap) (trace file : List ℕ) (old new : Output) (s : Status)
    (b : EndsByBoth told trace file old new s) →
    EndsGiven (switch_job trace file) (b.both.trace, b.both.switches) old new s
shown told trace file old new s b =
    let t = b.both.trace in
    let ss = b.both.switches in
    record {
      plan = plan_of_switches t ss;
      ends = b.ends;
      own = of-both t ss (difference_in t);
      unfaulted = unfaulted t ss (difference_in t);
      caused = λ f d. caused t ss (difference_in t) (b.legal f) refl;
      alone = λ f other d. alone t ss other (b.legal f);
    }

-- ---- what was written on Ok

text-of-legal : (t : TraceState) (ss : List Switch) (o : Option Difference) →
    (switched_plan t ss o).status ≡ status.Ok → o ≡ None
text-of-legal t ss None e = refl
text-of-legal t ss (Some d) e = absurd (cc)

switched-both : (told : Option FileMap) (trace file : List ℕ) (old new : Output)
    (s : Status) → EndsByBoth told trace file old new s → s ≡ status.Ok →
    Switched told trace file old.told new.told
switched-both told trace file old new s b ok =
    let t = b.both.trace in
    let ss = b.both.switches in
    let unfaulted : is_fault s ≡ false = ap is_fault ok in
    let all = whole old new (plan_of_switches t ss) s b.ends unfaulted in
    let none : difference_in t ≡ None = text-of-legal t ss (difference_in t) (sym all.0 ∙ ok) in
    record {
      trace_text = b.gives.gives.text;
      read = t;
      trace_file = b.gives.gives.is_text.file;
      reading = b.gives.gives.read;
      legal = (b.legal unfaulted).0 none;
      switch_text = b.gives.switches.text;
      switches = ss;
      switch_file = b.gives.switches.is_text.file;
      spelled = b.gives.switches.means;
      written = subst (λ o. Appends old.told new.told (switched_plan t ss o).text) none all.1;
    }

-- ---- the end

pub ended : (told : Option FileMap) (rose : Type 0) (trace file : List ℕ) (old new : Output)
    (s : Status) → Course told rose trace file old new s →
    EndsBySwitches told rose trace file old new s
ended told rose trace file old new s course =
    let axes = λ (t : TraceState). switches_of t.config in
    record {
      course = course;
      says = both-says told rose trace file most_of_trace most_of_switches trace_of IsTraceText axes
          (λ given. LegalCause given.0) true (λ x. is_of_both x ≡ true) _ old new s
          (λ b. (
            (b.both.trace, b.both.switches),
            both-there told trace file most_of_trace
                most_of_switches trace_of IsTraceText axes (IsSwitchText b.both.trace.config)
                b.both.trace
                b.both.switches b.gives.gives b.gives.switches,
            shown told trace file old new s b,
          )) course;
      switched = λ h. switched-both told trace file old new s
          (both-read told rose trace file most_of_trace most_of_switches trace_of IsTraceText axes _
          old new s (ap is_fault h) (ap word_of h) course) h;
    }
