use Rattle.std.proofs.Common.{ap, ◌∙◌}
use Rattle.setpoint_ring.specs.Sides.{DriveSide}
use Rattle.setpoint_ring.proofs.Ended.{end_stays, outputs_prefix}
use Rattle.setpoint_ring.proofs.drive_end.DriveEnd.ended.Goals as goal

pub returns-clause-waiting : goal.returns-clause-waiting
returns-clause-waiting c = outputs_prefix _ _ _ (ap (λ (s : DriveSide). s.waiting) c.self.view_is) c.look.ensures.looked.2

pub returns-clause-stays : goal.returns-clause-stays
returns-clause-stays c = λ seen. end_stays _ _ c.look.ensures.looked.2 (ap (λ (s : DriveSide). s.ended) c.self.view_is ∙ seen)
