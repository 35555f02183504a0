use Rattle.iec_blocks.proofs.ValueLemmas.{least, most}
use Rattle.iec_blocks.proofs.laws.replies_hold_their_types.Goals as goal

pub returns-clause-least : goal.returns-clause-least
returns-clause-least c standard call earlier = least standard call earlier

pub returns-clause-most : goal.returns-clause-most
returns-clause-most c standard call earlier = most standard call earlier
