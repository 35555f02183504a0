-- Whole traces.
use Rattle.trace_text.proofs.back.TraceBack.{texts-tell, trace-back}
use Rattle.trace_text.proofs.laws.traces_are_read_back.Goals as goal

pub returns-clause-read : goal.returns-clause-read
returns-clause-read c = trace-back (record {
  records = c.written_records_are_read_back.ensures;
  back = c.columns_are_read_back.ensures;
  named = c.names_are_read_back.ensures.named;
  ranges = c.axes_are_in_range.ensures.ranges;
  tables = c.cam_tables_are_told.ensures;
})

pub returns-clause-told : goal.returns-clause-told
returns-clause-told c = texts-tell (record {
  records = c.written_records_are_read_back.ensures;
  back = c.columns_are_read_back.ensures;
  named = c.names_are_read_back.ensures.named;
  ranges = c.axes_are_in_range.ensures.ranges;
  tables = c.cam_tables_are_told.ensures;
})
