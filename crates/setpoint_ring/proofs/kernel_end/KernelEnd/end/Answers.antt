use Rattle.std.proofs.Common.{arith, ◌≡◌, ◌-◌, length, refl, sym, ap, ◌∙◌}
use Rattle.rtrb.specs.Ring.{known_free}
use Rattle.setpoint_ring.specs.Sides.{KernelSide}
use Rattle.setpoint_ring.proofs.Ended.{put_end, put_ended, put_ends}
use Rattle.setpoint_ring.proofs.Fields.{kernel_same, outputs_same, way_same}
use Rattle.setpoint_ring.proofs.kernel_end.KernelEnd.end.Goals as goal

-- the end is put after the outputs
pub invariant_of-self : goal.invariant_of-self
invariant_of-self c =
    let put = c.push_reserved.ensures.sent.0 in
    let going = sym c.self.invariant.end_is ∙ c.if-not-self.true in
    record {
      sent_is = c.self.invariant.sent_is ∙ ap length (sym (put_end _ _ put));
      few = c.self.invariant.few;
      end_is = put_ended _ _ put going;
      last = put_ends _ _ _ put going;
      kept = λ e. absurd (cc);
      taken_is = c.self.invariant.taken_is;
      same_room = c.push_reserved.ensures.ring.1 ∙ c.self.invariant.same_room;
    }

-- and takes the slot that was kept for it
pub returns-then-not-self : goal.returns-then-not-self
returns-then-not-self c =
    let told = c.if-not-self.true in
    let ring = outputs_same _ _ _ _ _ (way_same c.self.inside.outputs.end c.push_reserved.new.self.end c.push_reserved.ensures.ring.0) (ap (λ (s : KernelSide). s.ring) c.self.view_is) in
    let sent = put_end _ _ c.push_reserved.ensures.sent.0 ∙ ap (λ (s : KernelSide). s.sent) c.self.view_is in
    let free = ap (λ (s : KernelSide). s.free) c.self.view_is in
    let kept : known_free c.self.inside.outputs - 1 ≡ c.args.self.now.free = rw told at free in
    kernel_same _ _ _ _ _ _ _ _ _ _ _ _ ring sent (ap (λ (s : KernelSide). s.taken) c.self.view_is) (ap (λ (s : KernelSide). s.waiting) c.self.view_is)
    (omega (arith, kept, c.push_reserved.ensures.sent.1)) refl
