-- The records one after another.
use Rattle.std.specs.Prelude.{refl}
use Rattle.std.proofs.Common.{◌∙◌, arith}
use Rattle.trace_columns.specs.Records.{records_of}
use Rattle.trace_text.proofs.read.RecordLoop.{at-last, refused-at, went-on}
use Rattle.trace_text.proofs.reading.read.read_records.Goals as goal

pub loop-place-init : goal.loop-place-init
loop-place-init c = record {
  goes = record {
    whole = c.args.reader.now;
    stands = rw c.requires refl;
    under = record {
      left = records_of c.args.text.now;
      reading = c.open_records-rdr.ensures;
      same = refl;
      count = omega arith;
    };
  };
  all = λ h. c.requires;
}

pub returns-then-not-found-clause-taken : goal.returns-then-not-found-clause-taken
returns-then-not-found-clause-taken c =
    let goes = c.loop-place.invariant.goes in
    let last = at-last _ _ _ c.loop-place.place _ _ _ _ goes.under c.in-Ok.ensures c.if-not-found.true in
    (goes.whole, last.0, goes.stands, last.1)

pub returns-in-Err-Rule-clause-taken : goal.returns-in-Err-Rule-clause-taken
returns-in-Err-Rule-clause-taken c =
    let goes = c.loop-place.invariant.goes in
    refused-at _ _ _ c.loop-place.place _ _ _ _ _ goes.under c.in-Ok.ensures c.if-not-found.false (rw c.in-Err-Rule.field-0-is at (c.in-Err-Rule.ensures.taken goes.whole goes.stands))

pub loop-place-preserved : goal.loop-place-preserved
loop-place-preserved c =
    let goes = c.loop-place.invariant.goes in
    let t = c.in-Ok-take_record.ensures.taken goes.whole goes.stands in
    record {
      goes = record {
        whole = t.0;
        stands = t.2;
        under = went-on _ _ _ _ c.loop-place.place _ _ _ _ goes.under c.in-Ok.ensures c.if-not-found.false t.1;
      };
      all = λ h. c.in-Ok-take_record.ensures.all h ∙ c.loop-place.invariant.all h;
    }
