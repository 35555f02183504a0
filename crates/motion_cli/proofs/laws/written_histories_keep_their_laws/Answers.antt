-- Each is legal, of a sound configuration.
use Rattle.load_job.specs.Machine.{machine}
use Rattle.motion_cli.proofs.laws.written_histories_keep_their_laws.Goals as goal

pub returns-clause-bench : goal.returns-clause-bench
returns-clause-bench c = λ files name old new h.
    c.histories_keep_their_laws.ensures h.bench.config h.history h.motion.setup h.motion.whole h.legal

pub returns-clause-run : goal.returns-clause-run
returns-clause-run c = λ files config program old new before after s h.
    c.histories_keep_their_laws.ensures h.setup h.history h.motion.setup h.motion.whole h.legal

pub returns-clause-tasks : goal.returns-clause-tasks
returns-clause-tasks c = λ files config program old new s h.
    c.histories_keep_their_laws.ensures h.cell.setup h.history h.motion.setup h.motion.whole h.legal

pub returns-clause-loads : goal.returns-clause-loads
returns-clause-loads c = λ seed old new h.
    c.histories_keep_their_laws.ensures machine h.history h.motion.setup h.motion.whole h.legal
