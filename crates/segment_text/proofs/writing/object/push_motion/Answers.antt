-- Part by part.
use Rattle.segment_text.specs.Records.{motion_fields}
use Rattle.segment_text.proofs.TextLaws.{last_put}
use Rattle.segment_text.proofs.writing.object.push_motion.Goals as goal

pub returns : goal.returns
unfolding motion_fields
returns c = last_put _ _ _ _ _ _ c.in_ok-push_limits.ensures c.push_motion_path.ensures
