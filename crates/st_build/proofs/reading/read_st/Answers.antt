-- What is read is a program of the text, and the other way round.
use Rattle.std.proofs.Common.{subst}
use Rattle.motion_history.specs.Setup.{Setup}
use Rattle.st_check.specs.Reading.{reading_of}
use Rattle.st_build.proofs.Read.{found_by, text_is_read}
use Rattle.st_build.specs.Reading.{ReadsBy}
use Rattle.st_build.proofs.reading.read_st.Goals as goal

pub returns-clause-found : goal.returns-clause-found
returns-clause-found c =
    let R : Setup → Type 0 =
    λ m. ReadsBy (reading_of m c.args.text.now) c.read-machine.result.1 c.read-machine.result.0 in
    found_by c.args.config.now c.args.text.now c.read-machine.result.1 c.read-machine.result.0
    (subst R c.replace.ensures.value c.read-machine.ensures.exact)

pub returns-clause-only : goal.returns-clause-only
returns-clause-only c =
    let R : Setup → Type 0 =
    λ m. ReadsBy (reading_of m c.args.text.now) c.read-machine.result.1 c.read-machine.result.0 in
    λ tasks after is. text_is_read c.args.config.now c.args.text.now tasks after
    c.read-machine.result.1 c.read-machine.result.0 is
    (subst R c.replace.ensures.value c.read-machine.ensures.exact)
