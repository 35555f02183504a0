use Rattle.std.proofs.Common.{◌≡◌}
use Rattle.motion_kernel.specs.cycles.Polled.{polled_among}
use Rattle.motion_kernel.proofs.polled.polled_in.Given as goal

abbrev pub invariant-loop-instance : goal.invariant-loop-instance
invariant-loop-instance l = record { so_far : l.polled.items ≡ polled_among l.instance l.config.blocks }
