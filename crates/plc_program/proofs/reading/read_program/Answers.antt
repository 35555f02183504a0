-- What is read is what the text spells.
use Rattle.plc_program.proofs.SpelledPrograms.{found-so, only-so}
use Rattle.plc_program.proofs.reading.read_program.Goals as goal

pub returns-clause-found : goal.returns-clause-found
returns-clause-found c = found-so c.lines_are_spelled.ensures.spelled c.args.version c.args.cycle_us c.args.config.now c.args.text.now _ _ c.read.ensures.exact

pub returns-clause-only : goal.returns-clause-only
returns-clause-only c = λ program after. only-so c.lines_are_spelled.ensures.spelled c.args.version c.args.cycle_us c.args.config.now c.args.text.now program after _ _ c.read.ensures.exact
