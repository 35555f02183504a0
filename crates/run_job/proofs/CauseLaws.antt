-- What a run shows of its status where its files give a plant.
-- for: run_files
use Rattle.std.specs.Prelude.{◌≡◌, ◌⊎◌, refl, ℕ, true, false, List, [], map}
use Rattle.std.proofs.Common.{inl, inr}
use Rattle.job_ends.proofs.PlanLaws.{early, traced-unfaulted}
use Rattle.job_ends.proofs.Statuses.{apart, traced-no-text}
use Rattle.job_ends.specs.Causes.{is_fault, is_traced}
use Rattle.job_ends.proofs.Endings.{EndsGiven}
use Rattle.job_ends.specs.Ends.{EndsBy}
use Rattle.job_ends.specs.Plans.{Plan}
use Rattle.job_ends.specs.Readings.{is_of_text}
use Rattle.job_ends.specs.declared.status.Status.{Status}
use Rattle.job_ends.specs.declared.status.Status.TheVariants as status
use Rattle.machine_config.specs.declared.machine.Machine.{Machine}
use Rattle.motion_history.specs.Entries.{Entry}
use Rattle.motion_history.specs.Setup.{Setup}
use Rattle.motion_history.specs.declared.refused.TraceVersion.{TraceVersion}
use Rattle.motion_history.specs.declared.drives.DriveDef.{DriveDef}
use Rattle.plc_program.specs.Reading.{Outcome}
use Rattle.plc_program.specs.declared.program.Instruction.{Instruction}
use Rattle.trace_text.specs.writing.Writes.{Output}
use Rattle.run_job.specs.Causes.{run_job}
use Rattle.run_job.specs.Ends.{EndsByPlant}
use Rattle.run_job.specs.Headline.{HasEnded}
use Rattle.run_job.specs.Plans as plans

-- a plan whose status is about no text
of-plan : (refused : Type 0) (config program : List ℕ) (x : Machine × Outcome) (old new : Output)
    (plan : Plan) (s : Status) → EndsBy old new plan s →
    ((plan.status ≡ status.ThreadRefused) × refused) ⊎ (is_traced plan.status ≡ true) →
    is_fault plan.status ≡ false → is_of_text plan.status ≡ false →
    EndsGiven (run_job refused config program) x old new s
of-plan refused config program x old new plan s e own f n = record {
  plan = plan;
  ends = e;
  own = own;
  unfaulted = f;
  caused = λ g d. absurd (apart is_of_text plan.status plan.status d n refl);
  alone = λ g other d c. absurd c;
}

-- a status that says how a history ended stands for a trace
ended-traced : (s : Status) (setup : Setup) (h : List Entry) → HasEnded s setup h →
    is_traced s ≡ true
ended-traced status.Ok setup h e = refl
ended-traced status.CyclesOver setup h e = refl
ended-traced status.HistoryFull setup h e = refl
ended-traced s setup h e = absurd e

pub shown : (version : TraceVersion) (refused : Type 0) (Started : ℕ → Type 0) (config program : List ℕ)
    (x : Machine × Outcome) (setup : Setup) (tasks : List (List Instruction))
    (drives : List DriveDef) (old new : Output) (s : Status) →
    EndsByPlant version refused Started setup tasks drives old new s →
    EndsGiven (run_job refused config program) x old new s
shown version refused Started config program x setup tasks drives old new s (inl h) =
    let t = ended-traced h.writes.status setup h.history h.writes.ended in
    of-plan refused config program x old new
    (plans.run_plan version h.writes.status setup h.history (map plans.end_row h.logs)) s h.writes.ends
    (inr t)
    (traced-unfaulted h.writes.status t) (traced-no-text h.writes.status t)
shown version refused Started config program x setup tasks drives old new s (inr (inl h)) =
    of-plan refused config program x old new plans.no_thread_plan s h.1 (inl (refl, h.0)) refl refl
shown version refused Started config program x setup tasks drives old new s (inr (inr h)) =
    let plan = plans.run_plan version status.Ok setup [] [] in
    of-plan refused config program x old new plan s (early old new plan s h) (inr refl) refl refl
