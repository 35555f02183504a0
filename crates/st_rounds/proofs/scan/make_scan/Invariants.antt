use Rattle.std.specs.Prelude.{◌-◌, length}
use Rattle.st_rounds.proofs.ScanLaws.{IsScanning}
use Rattle.st_rounds.proofs.scan.make_scan.Given as goal

abbrev pub invariant-loop-instance : goal.invariant-loop-instance
invariant-loop-instance l =
    IsScanning l.cell l.number l.kernel.kernel l.task l.initial.kernel.kernel l.initial.task

abbrev pub decreases-loop-instance : goal.decreases-loop-instance
decreases-loop-instance l = l.kernel.kernel.config.entries - length l.kernel.kernel.history
