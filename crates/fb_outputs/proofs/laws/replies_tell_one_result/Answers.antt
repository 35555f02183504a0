use Rattle.fb_outputs.specs.Steps.{opened}
use Rattle.fb_outputs.specs.Replies.{after_all}
use Rattle.fb_outputs.proofs.ReplyLaws.{IsReply-outputs_of, error-numbered}
use Rattle.fb_outputs.proofs.laws.replies_tell_one_result.Goals as goal

pub returns-clause-single : goal.returns-clause-single
returns-clause-single c kind happenings = IsReply-outputs_of (after_all (opened kind) happenings)

pub returns-clause-numbered : goal.returns-clause-numbered
returns-clause-numbered c kind happenings numbered error = error-numbered kind happenings numbered error
