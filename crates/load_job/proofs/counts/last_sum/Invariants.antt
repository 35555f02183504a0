-- There is no cycle among the entries that were looked at.
use Rattle.std.proofs.Common.{◌≡◌, ◌-◌, take}
use Rattle.load_job.specs.Lines.{last_rows}
use Rattle.load_job.proofs.counts.last_sum.Given as goal

abbrev pub invariant-loop-behind : goal.invariant-loop-behind
invariant-loop-behind l = last_rows (take (l.entries - l.behind) l.history.entries) ≡ last_rows l.history.entries
