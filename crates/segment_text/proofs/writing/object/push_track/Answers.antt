-- Part by part.
use Rattle.segment_text.specs.Records.{path_fields}
use Rattle.segment_text.proofs.TextLaws.{last_put}
use Rattle.segment_text.proofs.writing.object.push_track.Goals as goal

pub returns : goal.returns
unfolding path_fields
returns c =
    last_put _ _ _ _ _ _ c.in_ok-push_count.ensures
    (last_put _ _ _ _ _ _ c.in_ok-push_numbers.ensures (last_put _ _ _ _ _ _ c.in_ok-push_numbers-2.ensures c.push_motion.ensures))
