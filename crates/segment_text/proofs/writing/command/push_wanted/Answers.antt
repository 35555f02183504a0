-- Part by part.
use Rattle.segment_text.specs.WantedFields.{wanted_fields}
use Rattle.segment_text.proofs.TextLaws.{last_put}
use Rattle.segment_text.proofs.writing.command.push_wanted.Goals as goal

pub returns : goal.returns
unfolding wanted_fields
returns c =
    last_put _ _ _ _ _ _ c.in_ok-push_kind.ensures
    (last_put _ _ _ _ _ _ c.in_ok-push_numbers.ensures (last_put _ _ _ _ _ _ c.in_ok-push_rates.ensures c.push_follow.ensures))
