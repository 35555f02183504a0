-- One history.
use Rattle.trace_check.proofs.OneHistory.{one-history, texts-tell}
use Rattle.trace_check.proofs.laws.traces_tell_their_history.Goals as goal

pub returns-clause-traces : goal.returns-clause-traces
returns-clause-traces c = one-history

pub returns-clause-texts : goal.returns-clause-texts
returns-clause-texts c = texts-tell c.traces_are_read_back.ensures.told
