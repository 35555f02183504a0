-- From opening on.
use Rattle.trace_check.proofs.VerdictLaws.{opened-whole, replayed-opened}
use Rattle.trace_check.proofs.replaying.replay.Goals as goal

pub returns-clause-replay : goal.returns-clause-replay
returns-clause-replay c = replayed-opened _ c.args.trace.now _ _ c.in_ok-kernel.ensures c.replay_from.ensures.replay

pub returns-clause-held : goal.returns-clause-held
returns-clause-held c = λ whole held. replayed-opened _ whole _ _ (opened-whole whole _ _ held c.in_ok-kernel.ensures) (c.replay_from.ensures.held whole held)
