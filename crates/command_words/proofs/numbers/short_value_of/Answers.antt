-- At most seven digits have a number of 32 bits.
use Rattle.command_words.proofs.NumberLaws.{short-value}
use Rattle.command_words.proofs.numbers.short_value_of.Goals as goal

pub returns : goal.returns
returns c = short-value c.args.digits.now c.value_of.result c.requires c.value_of.ensures
