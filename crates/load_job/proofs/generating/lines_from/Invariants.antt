-- The rounds so far, and those that are left.
use Rattle.std.proofs.Common.{◌≡◌, ◌≤◌, ◌-◌, ◌++◌}
use Rattle.std.specs.List.{flat_map}
use Rattle.load_job.specs.Load.{lines_of}
use Rattle.load_job.specs.Rounds.{rounds_from}
use Rattle.load_job.proofs.generating.lines_from.Given as goal

abbrev pub invariant-loop : goal.invariant-loop
invariant-loop l = record {
  rounds : l.lines.items ++ flat_map lines_of (rounds_from (2000 - l.counter) l.draws.state) ≡
      flat_map lines_of (rounds_from 2000 l.seed);
  within : l.counter ≤ 2000;
}
