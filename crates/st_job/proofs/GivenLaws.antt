-- Both files are read, one after the other.
-- for: st_files
use Rattle.std.specs.Prelude.{◌≡◌, true, ℕ, Option, Result, Ok, Err, IfOk, List}
use Rattle.std.proofs.Common.{inr, subst}
use Rattle.job_ends.specs.Causes.{is_traced}
use Rattle.job_ends.specs.Ends.{EndsBy}
use Rattle.job_ends.specs.declared.status.Status.{Status}
use Rattle.machine_config.specs.declared.machine.Machine.{Machine}
use Rattle.outside.specs.Told.{FileMap}
use Rattle.trace_text.specs.writing.Writes.{Output}
use Rattle.st_rounds.specs.Controllers.{cell_of}
use Rattle.st_job.specs.Ends.{Course}
use Rattle.st_job.specs.Machines.{GivesMachine}
use Rattle.st_job.specs.Given.{GivesController, GivesProgram}
use Rattle.st_job.specs.Again.{IsTracedRun}
use Rattle.st_job.specs.Plans.{plan_of}
use Rattle.st_rounds.specs.declared.cell.Controller.{Controller}

-- where it gives one, they do
pub with-tasks : (told told1 : Option FileMap) (config program : List ℕ) (m : Machine)
    (r : Result Controller Status) → told1 ≡ told → GivesMachine told config m →
    IfOk r (GivesProgram told1 program m) → IfOk r (GivesController told config program)
with-tasks told told1 config program m (Err s) e g h = h
with-tasks told told1 config program m (Ok p) e g h = record {
  machine = m;
  gives = g;
  tasks = subst (λ t. GivesProgram t program m p) e h;
}

-- where they give both, the job ends by the plan of both
pub by-both : (told : Option FileMap) (rose : Type 0) (config program : List ℕ)
    (old old1 new : Output) (s : Status) (p : Controller) → old1 ≡ old →
    GivesController told config program p → EndsBy old1 new (plan_of (cell_of p)) s →
    (is_traced s ≡ true → IsTracedRun (cell_of p)) → Course told rose config program old new s
by-both told rose config program old old1 new s p same gives ends legal = inr (record {
  cell = p;
  gives = gives;
  ends = subst (λ o. EndsBy o new (plan_of (cell_of p)) s) same ends;
  traced = legal;
})
