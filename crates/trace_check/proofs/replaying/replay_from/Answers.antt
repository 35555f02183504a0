-- What is reported of a trace is reported of each of which so much is held.
use Rattle.trace_check.proofs.LegalLaws.{held-itself}
use Rattle.trace_check.proofs.replaying.replay_from.Goals as goal

pub returns-in-Ok-clause-replay : goal.returns-in-Ok-clause-replay
returns-in-Ok-clause-replay c = c.in-Ok.ensures.verifies c.args.trace.now (held-itself c.args.trace.now)

pub returns-in-Err-Differs-clause-replay : goal.returns-in-Err-Differs-clause-replay
returns-in-Err-Differs-clause-replay c = (rw c.in-Err-Differs.field-0-is at c.in-Err-Differs.ensures.verifies) c.args.trace.now (held-itself c.args.trace.now)

pub returns-in-Err-Differs-clause-held : goal.returns-in-Err-Differs-clause-held
returns-in-Err-Differs-clause-held c = λ whole held. (rw c.in-Err-Differs.field-0-is at c.in-Err-Differs.ensures.verifies) whole held
