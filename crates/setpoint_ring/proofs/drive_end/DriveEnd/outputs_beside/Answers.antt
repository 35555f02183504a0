use Rattle.std.proofs.Common.{arith, length, sym, ap, subst, ◌∙◌}
use Rattle.rtrb.specs.Ring.{known_free, known_items, received, sent}
use Rattle.setpoint_ring.specs.Order.{EndsLast, has_end, outputs_of}
use Rattle.setpoint_ring.specs.Sides.{DriveSide, KernelSide}
use Rattle.setpoint_ring.proofs.Ended.{beside_count, beside_outputs, beside_slots, end_stays, no_more, taken_all}
use Rattle.setpoint_ring.proofs.drive_end.DriveEnd.outputs_beside.Goals as goal

-- no more were taken than sent
pub overflow_sub-result : goal.overflow_sub-result
overflow_sub-result c =
    let some_taken = c.slots_beside-2.ensures.looked.1 ∙ c.slots_beside.ensures.consumer.1 in
    let all_sent = c.slots_beside-2.ensures.producer.1 ∙ c.slots_beside.ensures.looked.1 in
    let going = ap has_end some_taken ∙ c.self.invariant.going in
    let count = beside_count (received c.slots_beside-2.new.self) (known_items c.slots_beside-2.new.self) (sent c.slots_beside-2.new.producer) going c.slots_beside-2.ensures.fifo in
    let some = ap (λ xs. length (outputs_of xs)) some_taken in
    let all = ap (λ xs. length (outputs_of xs)) all_sent in
    let took = ap length c.self.invariant.took_is in
    omega (arith, count, some, all, took, c.len.ensures, c.kernel.invariant.sent_is, c.self.inside.took.ok.0)

pub returns-clause-outputs : goal.returns-clause-outputs
returns-clause-outputs c =
    let some_taken = c.slots_beside-2.ensures.looked.1 ∙ c.slots_beside.ensures.consumer.1 in
    beside_outputs _ _ _ (ap has_end some_taken ∙ c.self.invariant.going) c.slots_beside-2.ensures.fifo

-- what isn't in the ring is free, but the slot for the end
pub returns-clause-slots : goal.returns-clause-slots
returns-clause-slots c =
    let some_taken = c.slots_beside-2.ensures.looked.1 ∙ c.slots_beside.ensures.consumer.1 in
    let all_sent = c.slots_beside-2.ensures.producer.1 ∙ c.slots_beside.ensures.looked.1 in
    let going = ap has_end some_taken ∙ c.self.invariant.going in
    beside_slots (received c.slots_beside-2.new.self) (known_items c.slots_beside-2.new.self) (sent c.slots_beside-2.new.producer) c.kernel.inside.told_end
    (known_free c.slots_beside-2.new.producer) c.kernel.inside.outputs.capacity c.kernel.inside.answers.capacity going c.slots_beside-2.ensures.fifo (subst EndsLast (sym all_sent) c.kernel.invariant.last) (c.kernel.invariant.end_is ∙ ap has_end (sym all_sent))
    (omega (arith, c.slots_beside.ensures.all_free, c.slots_beside.ensures.value, c.slots_beside.ensures.looked.0.1, c.slots_beside-2.ensures.producer.2, ap length c.slots_beside-2.ensures.producer.1, ap length c.slots_beside-2.ensures.looked.1))
    c.kernel.invariant.same_room

pub returns-clause-count : goal.returns-clause-count
returns-clause-count c =
    let some_taken = c.slots_beside-2.ensures.looked.1 ∙ c.slots_beside.ensures.consumer.1 in
    let all_sent = c.slots_beside-2.ensures.producer.1 ∙ c.slots_beside.ensures.looked.1 in
    let going = ap has_end some_taken ∙ c.self.invariant.going in
    let count = beside_count (received c.slots_beside-2.new.self) (known_items c.slots_beside-2.new.self) (sent c.slots_beside-2.new.producer) going c.slots_beside-2.ensures.fifo in
    let some = ap (λ xs. length (outputs_of xs)) some_taken in
    let all = ap (λ xs. length (outputs_of xs)) all_sent in
    let took = ap length c.self.invariant.took_is in
    omega (arith, count, some, all, took, c.len.ensures, c.kernel.invariant.sent_is, c.self.inside.took.ok.0)

-- where the end was next, nothing more was sent
pub returns-clause-all : goal.returns-clause-all
returns-clause-all c = λ ended.
    let some_taken = c.slots_beside-2.ensures.looked.1 ∙ c.slots_beside.ensures.consumer.1 in
    let all_sent = c.slots_beside-2.ensures.producer.1 ∙ c.slots_beside.ensures.looked.1 in
    let going = ap has_end some_taken ∙ c.self.invariant.going in
    let seen = ap (λ (s : DriveSide). s.ended) c.self.view_is ∙ ended.seen in
    let empty = ap (λ (s : DriveSide). s.waiting) c.self.view_is ∙ ended.empty in
    let first = c.slots_beside.ensures.consumer.2 in
    let none = no_more _ _ c.slots_beside-2.ensures.looked.2 (end_stays _ _ first seen) (no_more _ _ first seen empty) in
    let all = beside_outputs _ _ _ going c.slots_beside-2.ensures.fifo in
    sym (ap (λ (s : DriveSide). s.taken) c.self.view_is) ∙ ap outputs_of (sym some_taken) ∙ taken_all _ _ _ all none ∙ ap outputs_of all_sent ∙ ap (λ (s : KernelSide). s.sent) c.kernel.view_is
