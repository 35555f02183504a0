-- Parsing digits fails only beyond 32 bits.
use Rattle.command_words.proofs.NumberLaws.{digits-beyond}
use Rattle.command_words.proofs.numbers.value_of.Goals as goal

pub returns-in-Err : goal.returns-in-Err
returns-in-Err c =
    digits-beyond c.args.digits.now c.parse.result _ c.requires c.parse.ensures.value.0 c.in-Err.is
