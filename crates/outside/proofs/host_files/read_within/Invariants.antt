use Rattle.std.proofs.Common.{◌≤◌, length}
use Rattle.std.specs.Io.KnownBytes.{Consumes}
use Rattle.outside.proofs.host_files.read_within.Given as goal

-- what was read is within the budget, and the reader has lost it
abbrev pub invariant-loop : goal.invariant-loop
invariant-loop g l = record {
  taken : Consumes (g.F.Read.remaining l.fn.file) (g.F.Read.remaining l.file) l.into.items;
  within : length l.into.items ≤ l.budget;
}
