-- Both files are read, one after the other.
-- for: switch_files
use Rattle.std.specs.Prelude.{◌≡◌, false, ℕ, Option, Err, List}
use Rattle.std.proofs.Common.{ap, inr, subst, sym}
use Rattle.job_ends.proofs.Both as both
use Rattle.job_ends.specs.Causes.{is_fault}
use Rattle.job_ends.specs.Ends.{EndsBy}
use Rattle.job_ends.specs.declared.status.Status.{Status}
use Rattle.outside.specs.Faults.{Rose}
use Rattle.outside.specs.Told.{FileMap}
use Rattle.switch_text.specs.Reading.{switches_of}
use Rattle.trace_text.specs.Held.{IsHeldOf}
use Rattle.trace_text.specs.reading.Reading.{trace_of}
use Rattle.trace_text.specs.TraceState.{TraceState}
use Rattle.trace_text.specs.writing.Writes.{Output}
use Rattle.switch_job.specs.Ends.{Course}
use Rattle.switch_job.specs.Given.{GivesSwitches, HoldsBoth, HoldsTrace, IsTraceText, NoBoth, NoSwitches, TellsLegal, most_of_switches, most_of_trace}
use Rattle.switch_job.specs.Plans.{plan_of_switches}
use Rattle.switch_job.specs.declared.reading.Both.{Both}

-- what of a trace is held has its axes
same-config : (whole held : TraceState) → IsHeldOf whole held → held.config ≡ whole.config
same-config whole held h = sym (ap (λ (t : TraceState). t.config) h.is)

-- where the second file gives no switches, the files don't give both
pub second-none : (told told1 : Option FileMap) (n n1 n2 : ℕ) (trace file : List ℕ)
    (t : TraceState) (old old1 new : Output) (s : Status) → told1 ≡ told → n1 ≡ n → old1 ≡ old →
    HoldsTrace told trace t → NoSwitches told1 (Rose n1 n2) file t old1 new s →
    NoBoth told (Rose n n2) trace file old new s
second-none told told1 n n1 n2 trace file t old old1 new s e1 e2 e3 g h =
    both.second-none {C = Both} told told1 n n1 n2 trace file most_of_trace most_of_switches
    trace_of
    IsTraceText (λ (x : TraceState). switches_of x.config) g.whole old old1 new (Err s) e1 e2 e3
    g.gives
    (subst (λ c. NoSwitches told1 (Rose n1 n2) file (record t { config = c }) old1 new s)
    (same-config g.whole t g.held_so) h)

-- where it gives some, they give both
pub both-held : (told told1 : Option FileMap) (trace file : List ℕ) (b : Both) → told1 ≡ told →
    HoldsTrace told trace b.trace → GivesSwitches told1 file b.trace b.switches →
    HoldsBoth told trace file b
both-held told told1 trace file b same g h = record {
  whole = g.whole;
  gives = record {
    gives = g.gives;
    switches = subst (λ c. GivesSwitches told file (record b.trace { config = c }) b.switches)
        (same-config g.whole b.trace g.held_so)
        (subst (λ m. GivesSwitches m file b.trace b.switches) same h);
  };
  held_so = g.held_so;
}

-- where they give both, the job ends by the plan of both
pub by-both : (told : Option FileMap) (rose : Type 0) (trace file : List ℕ) (old old1 new : Output)
    (s : Status) (b : Both) → old1 ≡ old → HoldsBoth told trace file b →
    ((whole : TraceState) → IsHeldOf whole b.trace →
    EndsBy old1 new (plan_of_switches whole b.switches) s) →
    ((whole : TraceState) → IsHeldOf whole b.trace → is_fault s ≡ false → TellsLegal whole) →
    Course told rose trace file old new s
by-both told rose trace file old old1 new s b same h ends legal = inr (record {
  both = record b { trace = h.whole };
  gives = h.gives;
  ends = subst (λ o. EndsBy o new (plan_of_switches h.whole b.switches) s) same
      (ends h.whole h.held_so);
  legal = legal h.whole h.held_so;
})
