-- A run begins at the first line.
use Rattle.std.proofs.Common.{◌≡◌, refl, subst, List, [], true}
use Rattle.plc_program.specs.declared.program.Instruction.{Instruction}
use Rattle.task_run.specs.Runs.{is_settled}
use Rattle.task_run.specs.Standing.{Stands}
use Rattle.task_run.specs.Written.{written_out}
use Rattle.task_run.proofs.Places.{at-first}
use Rattle.task_run.proofs.run.TaskRun.open.Goals as goal

pub settled-requires-clause-place : goal.settled-requires-clause-place
settled-requires-clause-place c = record { passed = []; to_come = written_out c.lines-lines.result.now; stands = at-first c.lines-lines.result.now }

pub returns-clause-run : goal.returns-clause-run
returns-clause-run c =
    let lines = c.lines-lines.result.now in
    let same = c.lines-lines.ensures.value in
    let stands = c.settled.ensures.moves [] (written_out lines) (at-first lines) in
    record {
      within = c.requires;
      stands = subst (λ (ls : List Instruction). Stands ls c.settled.result [] (written_out ls)) same stands;
      settled = subst (λ (ls : List Instruction). is_settled ls c.settled.result.line ≡ true) same c.settled.ensures.settled;
      rests = refl;
    }
