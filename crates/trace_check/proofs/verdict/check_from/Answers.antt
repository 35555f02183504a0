-- The verdict by the replay.
use Rattle.trace_check.proofs.VerdictLaws.{verified-illegal, verified-legal, verdict-illegal, verdict-legal}
use Rattle.trace_check.proofs.verdict.check_from.Goals as goal

pub returns-in-Legal-clause-verdict : goal.returns-in-Legal-clause-verdict
returns-in-Legal-clause-verdict c =
    let told = rw c.in-Legal.is at c.in_ok-replay_from.ensures.replay in
    verdict-legal c.args.trace.now c.args.kernel.start c.entries.result told.0 c.entries.ensures.count

pub returns-clause-verdict : goal.returns-clause-verdict
returns-clause-verdict c =
    let told = rw c.in-IllegalAt.is at c.in_ok-replay_from.ensures.replay in
    verdict-illegal c.args.trace.now c.args.kernel.start c.in-IllegalAt.field-0 told.0

pub returns-in-Legal-clause-held : goal.returns-in-Legal-clause-held
returns-in-Legal-clause-held c = λ whole held.
    verified-legal whole c.args.trace.now c.args.kernel.start c.in-Legal.field-0 c.entries.result held (rw c.in-Legal.is at (c.in_ok-replay_from.ensures.held whole held)) c.entries.ensures.count

pub returns-clause-held : goal.returns-clause-held
returns-clause-held c = λ whole held.
    verified-illegal whole c.args.kernel.start c.in-IllegalAt.field-0 (rw c.in-IllegalAt.is at (c.in_ok-replay_from.ensures.held whole held))
