-- Pairs of digits, and pairs of pairs.
use Rattle.trace_columns.proofs.WordLaws.{eight_value}
use Rattle.trace_columns.proofs.eight.value_of.Goals as goal

pub returns : goal.returns
returns c = λ a b c' d e f g h A B C D E F G H is. eight_value c.args.digits a b c' d e f g h A B C D E F G H is
