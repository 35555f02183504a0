-- The same setpoints stop without limited jerk.
use Rattle.jerk_core.proofs.Kept.{kept_plain}
use Rattle.jerk_core.proofs.laws.kept_without_jerk.Goals as goal

pub returns : goal.returns
returns c = kept_plain
