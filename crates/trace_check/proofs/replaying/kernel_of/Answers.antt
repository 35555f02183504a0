-- The replay up to its stop, or to its end.
use Rattle.trace_check.proofs.LegalLaws.{all-replayed, illegal-drives, illegal-entry, legal-kernel}
use Rattle.trace_check.proofs.replaying.kernel_of.Goals as goal

pub returns-in-Err-clause-verifies : goal.returns-in-Err-clause-verifies
returns-in-Err-clause-verifies c = λ whole held. illegal-entry whole c.args.trace.now c.args.kernel.start _ c.replay_entries.new.kernel c.entries.ensures.kept held c.in-Err.ensures.replay

pub returns-in-Ok-check_drives-clause-verifies : goal.returns-in-Ok-check_drives-clause-verifies
returns-in-Ok-check_drives-clause-verifies c = λ whole held.
    let all = all-replayed whole c.args.trace.now c.args.kernel.start c.replay_entries.new.kernel c.in-Ok.place held c.in-Ok.ensures.replay c.history.ensures.legal in
    rw all (legal-kernel c.args.trace.now c.args.kernel.start c.replay_entries.new.kernel c.in-Ok.place c.cycles_made.result c.in-Ok.ensures.replay
    c.cycles_made.ensures.cycles c.in-Ok-check_drives.ensures.taken c.history.ensures.legal)

pub returns-in-Err-check_drives-clause-verifies : goal.returns-in-Err-check_drives-clause-verifies
returns-in-Err-check_drives-clause-verifies c = λ whole held.
    let all = all-replayed whole c.args.trace.now c.args.kernel.start c.replay_entries.new.kernel c.in-Ok.place held c.in-Ok.ensures.replay c.history.ensures.legal in
    illegal-drives whole c.args.trace.now c.args.kernel.start _ c.replay_entries.new.kernel c.in-Ok.place c.cycles_made.result all c.entries.ensures.kept c.in-Ok.ensures.replay
    c.cycles_made.ensures.cycles c.in-Err-check_drives.ensures.compared
