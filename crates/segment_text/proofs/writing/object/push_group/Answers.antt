-- Part by part.
use Rattle.segment_text.specs.Records.{group_fields}
use Rattle.segment_text.proofs.TextLaws.{line_put, then_put}
use Rattle.segment_text.proofs.writing.object.push_group.Goals as goal

pub returns : goal.returns
unfolding group_fields
returns c =
    line_put _ _ _ _ _ _ c.in_ok-extend_from_slice.ensures.items
    (then_put _ _ _ _ _ c.in_ok-push_group_state.ensures
    (then_put _ _ _ _ _ c.in_ok-push_held.ensures
    (then_put _ _ _ _ _ c.in_ok-push_path.ensures c.in_ok-push_active.ensures)))
    c.in_ok-push.ensures.items
