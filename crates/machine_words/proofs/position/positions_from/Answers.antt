-- The positions stand in front of zeros.
use Rattle.std.proofs.Common.{length, refl}
use Rattle.machine_words.proofs.Zeros.{positions-copied}
use Rattle.machine_words.proofs.position.positions_from.Goals as goal

pub returns : goal.returns
returns c = positions-copied c.args.places.now c.copy_from_slice.new.self (length c.args.places.now) refl c.requires c.copy_from_slice.ensures.after
