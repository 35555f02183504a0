-- The numbers so far.
use Rattle.std.proofs.Common.{◌≡◌}
use Rattle.st_tree.specs.Parts.{numbers_from}
use Rattle.st_build.proofs.program.numbers_from.Given as goal

abbrev pub invariant-loop-i : goal.invariant-loop-i
invariant-loop-i l = l.numbers.items ≡ numbers_from l.first l.i
