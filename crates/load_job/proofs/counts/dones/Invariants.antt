-- The replies that showed Done so far.
use Rattle.std.proofs.Common.{◌≡◌, ◌≤◌, take}
use Rattle.std.specs.Prelude.{count_by}
use Rattle.load_job.specs.Lines.{shows_done}
use Rattle.load_job.proofs.counts.dones.Given as goal

abbrev pub invariant-loop-place : goal.invariant-loop-place
invariant-loop-place l = record {
  count : l.count ≡ count_by shows_done (take l.place l.history.entries);
  few : l.count ≤ l.place;
}
