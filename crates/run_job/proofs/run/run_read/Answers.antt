-- There is a log for each axis.
use Rattle.std.proofs.Common.{◌∙◌, ap, sym}
use Rattle.std.specs.Prelude.{length}
use Rattle.motion_history.specs.Setup.{Setup}
use Rattle.run_job.proofs.RunLaws.{drives-each}
use Rattle.run_job.proofs.run.run_read.Goals as goal

pub write_run-requires-clause-each : goal.write_run-requires-clause-each
write_run-requires-clause-each g c =
    c.in-Ok.ensures.ran.logged ∙ drives-each _ _ c.requires.each
    ∙ ap (λ (s : Setup). length s.axes) (sym c.in-Ok.ensures.config)
