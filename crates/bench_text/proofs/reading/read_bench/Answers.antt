-- What is read is what the text spells.
use Rattle.bench_text.proofs.SpelledBenches.{found-so, only-so}
use Rattle.bench_text.proofs.reading.read_bench.Goals as goal

pub returns-clause-found : goal.returns-clause-found
returns-clause-found c = found-so c.lines_are_spelled.ensures.spelled c.args.text.now _ c.read.ensures

pub returns-clause-only : goal.returns-clause-only
returns-clause-only c = λ bench. only-so c.lines_are_spelled.ensures.spelled c.args.text.now bench _ c.read.ensures
