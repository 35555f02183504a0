-- Each kind of record by itself.
use Rattle.trace_text.proofs.back.EntryLaws.{cycle-back, drive-back, grow-back, row-back}
use Rattle.trace_text.proofs.laws.rows_are_read_back.Goals as goal

pub returns : goal.returns
returns c = record {
  cycles = cycle-back c.columns_are_read_back.ensures;
  rows = row-back c.columns_are_read_back.ensures;
  groups = grow-back c.columns_are_read_back.ensures;
  drives = drive-back c.columns_are_read_back.ensures;
}
