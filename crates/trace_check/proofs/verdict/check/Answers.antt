-- From opening on.
use Rattle.trace_check.proofs.VerdictLaws.{verified-opened, verifies-opened, opened-whole, told-opened}
use Rattle.trace_check.proofs.verdict.check.Goals as goal

pub returns-clause-verdict : goal.returns-clause-verdict
returns-clause-verdict c = told-opened _ c.args.trace.now _ _ c.in_ok-kernel.ensures c.check_from.ensures.verdict

pub returns-clause-legal : goal.returns-clause-legal
returns-clause-legal c = verified-opened _ c.args.trace.now _ _ c.in_ok-kernel.ensures c.check_from.ensures.legal

pub returns-clause-held : goal.returns-clause-held
returns-clause-held c = λ whole held. verifies-opened _ whole _ _ (opened-whole whole _ _ held c.in_ok-kernel.ensures) (c.check_from.ensures.held whole held)
