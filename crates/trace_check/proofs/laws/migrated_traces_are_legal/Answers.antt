-- Read back, and legal.
use Rattle.trace_check.proofs.OneHistory.{migrated}
use Rattle.trace_check.proofs.laws.migrated_traces_are_legal.Goals as goal

pub returns : goal.returns
returns c = migrated c.traces_are_read_back.ensures.read (record {
  counted = c.rows_are_counted.ensures;
})
