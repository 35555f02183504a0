use Rattle.std.proofs.Common.{◌+◌, length, ap, sym, ◌∙◌}
use Rattle.setpoint_ring.specs.Sides.{DriveSide}
use Rattle.setpoint_ring.proofs.Items.{counts_put, last_put}
use Rattle.setpoint_ring.proofs.drive_end.DriveEnd.push.Goals as goal

-- the answer is counted and kept as the last
pub invariant_of-self : goal.invariant_of-self
invariant_of-self c =
    let next = c.requires.next ∙ ap (λ (s : DriveSide). length s.sent + 1) (sym c.self.view_is) in
    record {
      sent_is = counts_put _ _ _ _ next c.in-Ok.ensures.ok.0;
      last_is = last_put _ _ _ c.in-Ok.ensures.ok.0;
      took_is = c.self.invariant.took_is;
      going = c.self.invariant.going;
      few = c.self.invariant.few;
      reserved = c.self.invariant.reserved;
      same_room = c.self.invariant.same_room ∙ ap (λ n. n + 1) (sym c.push.ensures.ring.1);
    }
