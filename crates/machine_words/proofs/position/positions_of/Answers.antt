-- A text without a semicolon is one part.
use Rattle.std.proofs.Common.{sym}
use Rattle.machine_words.proofs.Lists.{one-part}
use Rattle.machine_words.proofs.position.positions_of.Goals as goal

pub position_of-requires : goal.position_of-requires
position_of-requires c = one-part c.args.text.now (sym c.if-is_one_part.ensures)
