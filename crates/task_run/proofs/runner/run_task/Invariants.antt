-- The run and the caller stand after the calls that were made.
use Rattle.std.proofs.Common.{◌≡◌}
use Rattle.task_run.proofs.Running.{IsUnderWay}
use Rattle.task_run.proofs.runner.run_task.Given as goal

abbrev pub invariant-loop : goal.invariant-loop
invariant-loop g l = record {
  way : IsUnderWay l.program l.fn.run l.run (g.C.Caller.told l.fn.caller) (g.C.Caller.told l.caller);
  fixed : g.C.Caller.fixed l.caller ≡ g.C.Caller.fixed l.fn.caller;
}
