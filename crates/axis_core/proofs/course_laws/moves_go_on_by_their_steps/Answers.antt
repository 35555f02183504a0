-- By which steps moves and halts go on.
use Rattle.axis_core.proofs.MotionLaws.{halts-lead, moves-lead, refused-stays}
use Rattle.axis_core.proofs.course_laws.moves_go_on_by_their_steps.Goals as goal

pub returns : goal.returns
returns c = record { moves = moves-lead; halts = halts-lead; refused = refused-stays }
