use Rattle.std.proofs.Common.{ap, sym, ◌∙◌}
use Rattle.setpoint_ring.specs.Sides.{DriveSide}
use Rattle.setpoint_ring.proofs.Items.{last_none}
use Rattle.setpoint_ring.proofs.drive_end.DriveEnd.finish.Goals as goal

pub unreachable-requires : goal.unreachable-requires
unreachable-requires c =
    c.requires.answered (ap (λ (s : DriveSide). s.sent) (sym c.self.view_is) ∙ last_none _ (sym c.self.invariant.last_is ∙ c.in_default.is))
