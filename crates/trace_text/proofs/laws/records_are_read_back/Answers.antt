-- What was written is read back.
use Rattle.std.proofs.Common.{◌∙◌, sym, ap}
use Rattle.trace_columns.specs.Records.{records_of}
use Rattle.trace_text.proofs.back.RecordLaws.{entry-written, trace-written}
use Rattle.trace_text.proofs.laws.records_are_read_back.Goals as goal

pub returns-clause-records : goal.returns-clause-records
returns-clause-records c = trace-written c.written_records_are_read_back.ensures

pub returns-clause-entries : goal.returns-clause-entries
returns-clause-entries c = entry-written c.written_records_are_read_back.ensures

pub returns-clause-told : goal.returns-clause-told
returns-clause-told c = λ v m s es others ds same.
    let law = c.written_records_are_read_back.ensures in
    sym (trace-written law v m s es ds) ∙ ap records_of same ∙ trace-written law v m s others ds
