-- Its history is legal, and its drives took an output in each cycle.
use Rattle.machine_drives.specs.Drives.{drives_after, drives_at_opening}
use Rattle.trace_text.specs.Trace.{trace_version}
use Rattle.trace_text.specs.declared.command.Command.TheVariants.{Run}
use Rattle.motion_cli.proofs.WrittenLaws.{written-legal}
use Rattle.motion_cli.proofs.laws.run_traces_are_legal.Goals as goal

pub returns : goal.returns
returns c = λ files config program old new before after s h.
    written-legal (trace_version h.machine.version h.setup) Run h.setup h.history h.drives
    (drives_after 0 (drives_at_opening h.setup.axes h.machine.drives) h.history) h.legal h.taken
