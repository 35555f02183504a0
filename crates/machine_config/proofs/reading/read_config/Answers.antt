-- What is read is what the text configures, and has an axis.
use Rattle.machine_config.proofs.Configured.{found-so, only-so}
use Rattle.machine_config.proofs.SomeAxis.{machine-so}
use Rattle.machine_config.proofs.reading.read_config.Goals as goal

pub returns-clause-found : goal.returns-clause-found
returns-clause-found c = found-so c.reads_what_is_spelled.ensures c.cam_tables_are_told.ensures c.args.text.now _ c.read.ensures.exact

pub returns-clause-only : goal.returns-clause-only
returns-clause-only c = λ machine. only-so c.reads_what_is_spelled.ensures c.cam_tables_are_told.ensures c.args.text.now machine _ c.read.ensures.exact

pub returns-clause-machine : goal.returns-clause-machine
returns-clause-machine c =
    machine-so c.args.text.now _ (found-so c.reads_what_is_spelled.ensures c.cam_tables_are_told.ensures c.args.text.now _ c.read.ensures.exact) c.read.ensures.kept
