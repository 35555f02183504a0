-- What the kernel and the rows keep is read back.
use Rattle.trace_text.specs.Trace.{trace_version}
use Rattle.trace_text.specs.declared.command.Command.TheVariants.{Run}
use Rattle.trace_text.proofs.Versions.{version-holds}
use Rattle.run_job.proofs.trace.trace_is_read_back.Goals as goal

pub returns : goal.returns
returns c =
    let kept = c.history.ensures in
    c.kept_histories_are_read_back.ensures (trace_version c.args.version c.args.end.now.kernel.config) Run c.args.end.now.kernel.config
    c.args.end.now.kernel.history c.args.rows.now
    (record { setup = kept.setup; whole = kept.whole; legal = kept.legal; bits = kept.bits })
    (version-holds c.args.version c.args.end.now.kernel.config
    (λ e. absurd (c.requires.version e)))
    c.requires.each c.rows_have_their_bits.ensures
