use Rattle.std.proofs.Common.{length}
use Rattle.iec_tokens.proofs.time.+duration_in.Given as goal

abbrev pub decreases-duration_in : goal.decreases-duration_in
decreases-duration_in l = length l.units.now
