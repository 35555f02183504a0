-- Part by part.
use Rattle.segment_text.specs.Records.{axis_fields}
use Rattle.segment_text.proofs.TextLaws.{line_put, then_put}
use Rattle.segment_text.proofs.writing.object.push_axis.Goals as goal

pub returns : goal.returns
unfolding axis_fields
returns c =
    line_put _ _ _ _ _ _ c.in_ok-extend_from_slice.ensures.items
    (then_put _ _ _ _ _ c.in_ok-push_state.ensures
    (then_put _ _ _ _ _ c.in_ok-push_places.ensures
    (then_put _ _ _ _ _ c.in_ok-push_held.ensures c.in_ok-push_active.ensures)))
    c.in_ok-push.ensures.items
