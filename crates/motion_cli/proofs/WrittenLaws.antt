-- The trace that a job wrote is a legal one.
-- for: bench_traces_are_legal, run_traces_are_legal, st_traces_are_legal
use Rattle.std.specs.Prelude.{◌≡◌, refl, ℕ, List, [], ◌∷◌, All, map}
use Rattle.std.specs.List.{AllByRecursion}
use Rattle.std.proofs.Common.{subst, sym}
use Rattle.std.proofs.lemmas.List.Elements.{All-from_recursion}
use Rattle.drive_sim.specs.Sim.{DriveSim}
use Rattle.machine_drives.specs.Drives.{drive_end}
use Rattle.motion_history.specs.Entries.{Entry, cycles_of}
use Rattle.motion_history.specs.Setup.{Setup}
use Rattle.motion_history.specs.declared.refused.TraceVersion.{TraceVersion}
use Rattle.motion_kernel.specs.Histories.{IsLegal}
use Rattle.trace_check.specs.Legal.{IsLegalTrace}
use Rattle.trace_text.specs.Writable.{found_trace}
use Rattle.trace_text.specs.declared.command.Command.{Command}
use Rattle.trace_text.specs.declared.drive_end.DriveEndRow.{DriveEndRow}

-- each drive took an output in each cycle
each-taken : (n : ℕ) (drives : List DriveSim) → AllByRecursion (λ (d : DriveEndRow). d.taken ≡ n) (map (drive_end n) drives)
each-taken n [] = tt
each-taken n (d ∷ ds) = (refl, each-taken n ds)

-- what is read of the trace of a legal history, in which the drives kept step, is legal
pub written-legal : (v : TraceVersion) (c : Command) (s : Setup) (es : List Entry)
    (ds : List DriveEndRow) (drives : List DriveSim) → IsLegal s es →
    ds ≡ map (drive_end (cycles_of es)) drives → IsLegalTrace (found_trace v c s es ds)
written-legal v c s es ds drives legal taken =
    let n = cycles_of es in
    let P : List DriveEndRow → Type 0 = λ rows. All (λ (d : DriveEndRow). d.taken ≡ n) rows in
    record {
      history = es;
      legal = legal;
      is = record {
        found = refl;
        taken = subst P (sym taken) (All-from_recursion (λ (d : DriveEndRow). d.taken ≡ n) _ (each-taken n drives));
      };
    }
