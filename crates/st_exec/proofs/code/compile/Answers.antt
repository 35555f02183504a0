-- What a program is compiled to has its operands.
use Rattle.std.proofs.Common.{sym, subst}
use Rattle.std.specs.List.{AllByRecursion}
use Rattle.st_exec.specs.Compiled.{HasOperands}
use Rattle.st_exec.proofs.Sound.{tasks_have}
use Rattle.st_exec.proofs.code.compile.Goals as goal

pub invariant_of-result : goal.invariant_of-result
invariant_of-result c = record {
  cycle = c.requires;
  operands = subst (AllByRecursion (HasOperands c.args.cycle_us)) (sym c.in_ok-tasks.ensures)
      (tasks_have c.args.cycle_us c.as_slice.result.now);
}
