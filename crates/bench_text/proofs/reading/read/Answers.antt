-- The invariant holds at the end of the text.
use Rattle.bench_text.proofs.Kept.{text-kept}
use Rattle.bench_text.proofs.reading.read.Goals as goal

pub bench_of-requires : goal.bench_of-requires
bench_of-requires c = text-kept c.inputs_are_fit.ensures c.in_ok-reader.reader _ c.args.text.now c.in_ok-reader.ensures.ok c.in-Ok.ensures.0
