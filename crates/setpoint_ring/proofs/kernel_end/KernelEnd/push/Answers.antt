use Rattle.std.proofs.Common.{arith, ◌+◌, ◌++◌, ◌∷◌, [], length, refl, sym, ap, ◌∙◌}
use Rattle.setpoint_ring.specs.Sides.{KernelSide}
use Rattle.setpoint_ring.specs.Order.{has_end, outputs_of}
use Rattle.setpoint_ring.proofs.Ended.{put_counted, put_ends, put_going, put_outputs}
use Rattle.setpoint_ring.proofs.Fields.{kernel_same, outputs_same, way_same}
use Rattle.setpoint_ring.proofs.kernel_end.KernelEnd.push.Goals as goal

-- the output is put after the others, and a slot stays for the end
pub invariant_of-self-2 : goal.invariant_of-self-2
invariant_of-self-2 c =
    let put = c.push_reserved.ensures.sent.0 in
    let told = ap (λ (s : KernelSide). s.ended) c.self.view_is ∙ c.requires.open in
    let same = c.has_room.ensures.looked.1 in
    let going = ap has_end same ∙ sym c.self.invariant.end_is ∙ told in
    let next = c.requires.next ∙ ap (λ (s : KernelSide). length s.sent + 1) (sym c.self.view_is) ∙ ap (λ xs. length (outputs_of xs) + 1) (sym same) in
    record {
      sent_is = put_counted _ _ c.args.output _ put going next;
      few = c.requires.few;
      end_is = told ∙ sym (put_going _ _ _ put going);
      last = put_ends _ _ _ put going;
      kept = λ e. omega (arith, c.if-not-has_room.ensures.value.0 refl, c.push_reserved.ensures.sent.1);
      taken_is = c.self.invariant.taken_is;
      same_room = c.push_reserved.ensures.ring.1 ∙ c.has_room.ensures.looked.0.1 ∙ c.self.invariant.same_room;
    }

pub returns-clause-sent : goal.returns-clause-sent
returns-clause-sent c =
    let told = ap (λ (s : KernelSide). s.ended) c.self.view_is ∙ c.requires.open in
    let same = c.has_room.ensures.looked.1 in
    let going = ap has_end same ∙ sym c.self.invariant.end_is ∙ told in
    let way = way_same c.has_room.new.ring.end c.push_reserved.new.self.end c.push_reserved.ensures.ring.0 ∙ way_same c.self.inside.outputs.end c.has_room.new.ring.end c.has_room.ensures.looked.0.0 in
    let ring = outputs_same _ _ _ _ _ way (ap (λ (s : KernelSide). s.ring) c.self.view_is) in
    let before = ap outputs_of same ∙ ap (λ (s : KernelSide). s.sent) c.self.view_is in
    let sent = put_outputs _ _ c.args.output c.push_reserved.ensures.sent.0 going ∙ ap (λ xs. xs ++ c.args.output.item ∷ []) before in
    kernel_same _ _ _ _ _ _ _ _ _ _ _ _ ring sent (ap (λ (s : KernelSide). s.taken) c.self.view_is) (ap (λ (s : KernelSide). s.waiting) c.self.view_is) refl
    (ap (λ (s : KernelSide). s.ended) c.self.view_is)
