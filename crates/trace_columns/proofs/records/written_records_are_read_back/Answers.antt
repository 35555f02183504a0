-- What was written is read back.
use Rattle.trace_columns.proofs.RecordLaws.{records-written}
use Rattle.trace_columns.proofs.records.written_records_are_read_back.Goals as goal

pub returns : goal.returns
returns c = records-written
