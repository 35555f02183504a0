-- The variables so far have their values.
use Rattle.std.proofs.Common.{◌≡◌, map, take}
use Rattle.st_exec.specs.Compiled.{start_of}
use Rattle.st_exec.proofs.code.starts_of.Given as goal

abbrev pub invariant-loop-variable : goal.invariant-loop-variable
invariant-loop-variable l = l.starts.items ≡ map start_of (take l.variable-index l.variables)
