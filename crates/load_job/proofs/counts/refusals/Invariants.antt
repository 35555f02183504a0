-- The calls that were refused so far.
use Rattle.std.proofs.Common.{◌≡◌, ◌≤◌, take}
use Rattle.std.specs.Prelude.{count_by}
use Rattle.load_job.specs.Lines.{is_refused}
use Rattle.load_job.proofs.counts.refusals.Given as goal

abbrev pub invariant-loop-place : goal.invariant-loop-place
invariant-loop-place l = record {
  count : l.count ≡ count_by is_refused (take l.place l.history.entries);
  few : l.count ≤ l.place;
}
