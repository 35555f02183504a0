-- This many records are read.
use Rattle.trace_columns.specs.Records.{records_of}
use Rattle.trace_check.proofs.Ahead.{IsAhead}
use Rattle.trace_check.proofs.texts.record_at.Given as goal

abbrev pub invariant-loop : goal.invariant-loop
invariant-loop l = IsAhead (records_of l.text) l.counter l.rdr
