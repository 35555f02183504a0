-- Each column by itself.
use Rattle.trace_columns.proofs.BackLaws.{axes-back, drives-back, flags-back, groups-back, numbers-back, outputs-back, unsigned-back, wide-back, words-back}
use Rattle.trace_columns.proofs.laws.columns_are_read_back.Goals as goal

pub returns : goal.returns
returns c = record {
  wide = wide-back;
  numbers = numbers-back;
  unsigned = unsigned-back;
  words = words-back;
  flags = flags-back;
  outputs = outputs-back;
  axes = axes-back;
  groups = groups-back;
  drives = drives-back;
}
