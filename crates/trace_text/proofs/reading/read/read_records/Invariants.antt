-- This many records are taken.
use Rattle.std.specs.Prelude.{◌≡◌, None, false}
use Rattle.trace_columns.specs.Records.{records_of}
use Rattle.trace_text.proofs.read.Apart.{GoesOn}
use Rattle.trace_text.proofs.reading.read.read_records.Given as goal

abbrev pub invariant-loop-place : goal.invariant-loop-place
invariant-loop-place l = record {
  goes : GoesOn (records_of l.text) l.fn.reader l.reader l.first l.place l.rdr;
  all : l.within_room ≡ false → l.first ≡ None;
}
