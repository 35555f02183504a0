-- What the kernel and the drives keep is read back.
use Rattle.std.specs.Prelude.{List, All}
use Rattle.std.proofs.Common.{subst}
use Rattle.plc_types.specs.Counts.{IsCount}
use Rattle.drive_sim.specs.Sim.{DriveSim}
use Rattle.st_job.proofs.TraceLaws.{read-again}
use Rattle.st_job.proofs.trace.trace_is_read_back.Goals as goal

pub returns : goal.returns
returns c =
    let kept = c.history.ensures in
    let bits = subst (λ (ds : List DriveSim). All (λ (d : DriveSim). IsCount d.actual) ds)
    c.as_slice.ensures.value c.positions_have_32_bits.ensures in
    read-again c.kept_histories_are_read_back.ensures c.args.cell.now.config c.args.ran.now.kernel
    c.args.ran.now.drives.items c.requires.config c.requires.each
    (record { setup = kept.setup; whole = kept.whole; legal = kept.legal; bits = kept.bits }) bits
