-- A caller that has made nothing makes the calls of a program.
use Rattle.std.proofs.Common.{refl, sym, ap, subst, arith}
use Rattle.std.specs.List.{AllByRecursion}
use Rattle.motion_plant.specs.Calls.{AreCalls, logged_calls}
use Rattle.motion_plant.specs.Makers.{IsBy}
use Rattle.motion_plant.proofs.LoggedCalls.{owns_first, entries_first}
use Rattle.plc_program.specs.Programs.{IsLineOf}
use Rattle.task_run.specs.Callers.{cycles_from}
use Rattle.task_run.specs.Runs.{lines_of}
use Rattle.motion_plant.proofs.task_job.make_calls.Goals as goal

pub invariant_of-caller : goal.invariant_of-caller
invariant_of-caller g c =
    let m = entries_first c.args.permit.own c.args.permit.seen c.requires.unused in
    record {
      own = c.requires.own;
      owns = owns_first (IsBy c.args.permit.config c.args.turns.now.task) c.args.permit.own c.args.permit.seen
          c.requires.unused;
      calls = subst AreCalls (sym m) refl;
      last_is = sym (ap (λ ls. cycles_from 0 (logged_calls ls)) m);
      behind = omega arith;
      few = omega arith;
      small = c.requires.small;
      cut = λ t. absurd (cc);
    }

pub run_task-through-requires-clause-own : goal.run_task-through-requires-clause-own
run_task-through-requires-clause-own g c =
    subst (λ t. AllByRecursion (IsLineOf c.args.permit.config t)
    (lines_of c.args.program.now c.args.run)) c.requires.task
    (c.tasks_have_their_own_lines.ensures c.args.permit.config c.args.program.now c.args.run.task
    c.requires.program c.requires.run.within)

pub run_task-through-requires-clause-unused : goal.run_task-through-requires-clause-unused
run_task-through-requires-clause-unused g c = record {
  calls = ap logged_calls (entries_first c.args.permit.own c.args.permit.seen c.requires.unused);
  rests = refl;
  refused = refl;
}
