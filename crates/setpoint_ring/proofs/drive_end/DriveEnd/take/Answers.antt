use Rattle.std.proofs.Common.{arith, ◌<◌, ◌++◌, ◌∷◌, [], length, refl, sym, ap, subst, ◌∙◌}
use Rattle.setpoint_ring.specs.Order.{outputs_of}
use Rattle.setpoint_ring.specs.Sides.{DriveSide}
use Rattle.setpoint_ring.proofs.Ended.{end_known, end_stays, if_none, none_waited, put_counted, put_going, put_outputs, some_known}
use Rattle.setpoint_ring.proofs.Fields.{drive_same, outputs_same, way_same}
use Rattle.setpoint_ring.proofs.drive_end.DriveEnd.take.Goals as goal

-- nothing waited, and nothing was taken
pub returns-in_err-output-clause-none : goal.returns-in_err-output-clause-none
returns-in_err-output-clause-none c =
    let looked = c.in_err-output.ensures.none in
    let ring = outputs_same _ _ _ _ _ (way_same c.self.inside.outputs.end c.take_output.new.ring.end looked.0.0) (ap (λ (s : DriveSide). s.ring) c.self.view_is) in
    let taken = ap outputs_of looked.1 ∙ ap (λ (s : DriveSide). s.taken) c.self.view_is in
    let empty = c.in_err-output.ensures.empty in
    let waiting = empty ∙ sym (none_waited _ _ looked.2 empty) ∙ ap (λ (s : DriveSide). s.waiting) c.self.view_is in
    if_none _ _ (drive_same _ _ _ _ _ _ _ _ _ _ _ _ ring (ap (λ (s : DriveSide). s.sent) c.self.view_is) taken waiting (ap (λ (s : DriveSide). s.free) c.self.view_is) refl)

pub returns-in_err-output-clause-succeeds : goal.returns-in_err-output-clause-succeeds
returns-in_err-output-clause-succeeds c = λ some.
    let none = none_waited _ _ c.in_err-output.ensures.none.2 c.in_err-output.ensures.empty in
    let zero = ap length (sym (ap (λ (s : DriveSide). s.waiting) c.self.view_is) ∙ none) in
    absurd (omega (arith, some, zero))

pub returns-in_err-output-clause-stays : goal.returns-in_err-output-clause-stays
returns-in_err-output-clause-stays c = λ seen. end_stays _ _ c.in_err-output.ensures.none.2 (ap (λ (s : DriveSide). s.ended) c.self.view_is ∙ seen)

-- the output is kept after those before it
pub invariant_of-self-2 : goal.invariant_of-self-2
invariant_of-self-2 c =
    let taken = c.in_ok-output.ensures.taken in
    let going = c.self.invariant.going in
    let after = put_outputs _ _ c.in_ok-output.output taken going in
    let took = c.push_within.ensures.items ∙ ap (λ xs. xs ++ c.in_ok-output.output.item ∷ []) c.self.invariant.took_is ∙ sym after in
    let counted = put_counted _ _ c.in_ok-output.output _ taken going c.in_ok-output.ensures.allowed.1 in
    record {
      sent_is = c.self.invariant.sent_is;
      last_is = c.self.invariant.last_is;
      took_is = took;
      going = put_going _ _ c.in_ok-output.output taken going;
      few = omega (arith, ap length took, counted, c.in_ok-output.ensures.allowed.2);
      reserved = omega (arith, c.push_within.ensures.room, c.self.invariant.reserved);
      same_room = c.take_output.ensures.ring.1 ∙ c.self.invariant.same_room;
    }

pub returns-clause-taken : goal.returns-clause-taken
returns-clause-taken c =
    let ring = outputs_same _ _ _ _ _ (way_same c.self.inside.outputs.end c.take_output.new.ring.end c.take_output.ensures.ring.0) (ap (λ (s : DriveSide). s.ring) c.self.view_is) in
    let before = ap (λ (s : DriveSide). s.taken) c.self.view_is in
    let taken = put_outputs _ _ c.in_ok-output.output c.in_ok-output.ensures.taken c.self.invariant.going ∙ ap (λ xs. xs ++ c.in_ok-output.output.item ∷ []) before in
    drive_same _ _ _ _ _ _ _ _ _ _ _ _ ring (ap (λ (s : DriveSide). s.sent) c.self.view_is) taken refl (ap (λ (s : DriveSide). s.free) c.self.view_is) refl

pub returns-clause-number : goal.returns-clause-number
returns-clause-number c = put_counted _ _ c.in_ok-output.output _ c.in_ok-output.ensures.taken c.self.invariant.going c.in_ok-output.ensures.allowed.1

pub returns-clause-waiting : goal.returns-clause-waiting
returns-clause-waiting c = λ some.
    let waits = ap (λ (s : DriveSide). s.waiting) c.self.view_is in
    sym waits ∙ ap outputs_of (c.in_ok-output.ensures.first (some_known _ (subst (λ xs. 0 < length xs) (sym waits) some)))

pub returns-clause-stays : goal.returns-clause-stays
returns-clause-stays c = λ seen. end_stays _ _ c.in_ok-output.ensures.known (ap (λ (s : DriveSide). s.ended) c.self.view_is ∙ seen)

-- no output comes where the end is next
pub returns-clause-end : goal.returns-clause-end
returns-clause-end c = λ ended.
    let seen = ap (λ (s : DriveSide). s.ended) c.self.view_is ∙ ended.seen in
    let empty = ap (λ (s : DriveSide). s.waiting) c.self.view_is ∙ ended.empty in
    let first = sym empty ∙ ap outputs_of (c.in_ok-output.ensures.first (end_known _ seen)) in
    absurd (cc)
