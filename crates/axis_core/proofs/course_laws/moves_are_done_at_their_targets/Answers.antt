-- Where a move is done.
use Rattle.axis_core.proofs.DoneLaws.{move-done}
use Rattle.axis_core.proofs.course_laws.moves_are_done_at_their_targets.Goals as goal

pub returns : goal.returns
returns c = move-done c.blends_apply_by_test.ensures
