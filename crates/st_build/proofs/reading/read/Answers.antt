-- What is read of a text is of trees, for a machine that is whole.
use Rattle.std.proofs.Common.{◌≡◌, Ok, subst}
use Rattle.st_check.proofs.Whole.{read_whole}
use Rattle.st_check.specs.Reading.{Outcome, reading_of}
use Rattle.st_check.specs.Told.{TellsBy}
use Rattle.st_build.proofs.reading.read.Goals as goal

pub built-program-requires : goal.built-program-requires
built-program-requires c =
    let o : Outcome = record { setup = c.check_text-machine.result.0; names = c.in-Ok.told.names.items; parts = c.in-Ok.told.parts.items } in
    let read : reading_of c.args.machine c.args.text.now ≡ Ok o =
    subst (λ r. TellsBy (reading_of c.args.machine c.args.text.now) r c.check_text-machine.result.0) c.in-Ok.is c.check_text-machine.ensures in
    (c.args.machine, read_whole c.args.machine c.args.text.now o c.requires.tasks read)

pub returns-in-Ok-clause-axes : goal.returns-in-Ok-clause-axes
returns-in-Ok-clause-axes c =
    let o : Outcome = record { setup = c.check_text-machine.result.0; names = c.in-Ok.told.names.items; parts = c.in-Ok.told.parts.items } in
    let read : reading_of c.args.machine c.args.text.now ≡ Ok o =
    subst (λ r. TellsBy (reading_of c.args.machine c.args.text.now) r c.check_text-machine.result.0) c.in-Ok.is c.check_text-machine.ensures in
    c.built-program.ensures.axes c.args.machine (read_whole c.args.machine c.args.text.now o c.requires.tasks read)
