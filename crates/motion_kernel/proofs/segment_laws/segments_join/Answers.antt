use Rattle.motion_kernel.proofs.Segments.{joined-follows, joined-machine}
use Rattle.motion_kernel.proofs.segment_laws.segments_join.Goals as goal

pub returns-clause-follows : goal.returns-clause-follows
returns-clause-follows c = joined-follows

pub returns-clause-machine : goal.returns-clause-machine
returns-clause-machine c = joined-machine
