-- Part by part.
use Rattle.segment_text.specs.Records.{instance_fields}
use Rattle.segment_text.proofs.TextLaws.{line_put, then_put}
use Rattle.segment_text.proofs.writing.object.push_instance.Goals as goal

pub returns : goal.returns
unfolding instance_fields
returns c =
    line_put _ _ _ _ _ _ c.in_ok-extend_from_slice.ensures.items (then_put _ _ _ _ _ c.in_ok-push_taken.ensures (rw c.progress.ensures at c.in_ok-push_progress.ensures)) c.in_ok-push.ensures.items
