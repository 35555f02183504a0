-- What is read is what the text spells.
use Rattle.switch_text.proofs.SpelledSwitches.{found-so, only-so}
use Rattle.switch_text.proofs.reading.read_switches.Goals as goal

pub returns-clause-found : goal.returns-clause-found
returns-clause-found c =
    found-so c.lines_are_spelled.ensures.spelled c.args.config.now c.args.text.now _
    c.read.ensures

pub returns-clause-only : goal.returns-clause-only
returns-clause-only c = λ ss.
    only-so c.lines_are_spelled.ensures.spelled c.args.config.now c.args.text.now ss _
    c.read.ensures
