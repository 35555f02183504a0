-- The lemma on the first of two moves.
use Rattle.axis_core.proofs.FirstMoves.{moves-end, blend-ends, blend-ends-in-time}
use Rattle.axis_core.proofs.blend_laws.first_moves_end.Goals as goal

pub returns-clause-ends : goal.returns-clause-ends
returns-clause-ends c = λ limits target1 target2 before now vb first second limits_ok room first_ok second_ok within kept.
    let ends = moves-end c.ways_to_rest.ensures c.moves_go_by_their_laws.ensures c.blends_go_by_their_laws.ensures limits target1 target2 before now first second vb
    (record { limits_ok = limits_ok; first_ok = first_ok; second_ok = second_ok; within = within; kept = kept; room = room }) in
    (ends.cycles, ends.ends)

pub returns-clause-crosses : goal.returns-clause-crosses
returns-clause-crosses c = λ limits target1 target2 before now vb first second limits_ok room first_ok second_ok within kept has.
    blend-ends c.blends_go_by_their_laws.ensures limits target1 target2 before now first second vb
    (record { limits_ok = limits_ok; first_ok = first_ok; second_ok = second_ok; within = within; kept = kept; room = room }) has

pub returns-clause-in_time : goal.returns-clause-in_time
returns-clause-in_time c = λ limits target1 target2 before now vb first second limits_ok room first_ok second_ok within kept applies.
    blend-ends-in-time c.ways_to_rest.ensures c.moves_go_by_their_laws.ensures c.blends_go_by_their_laws.ensures limits target1 target2 before now first second vb
    (record { limits_ok = limits_ok; first_ok = first_ok; second_ok = second_ok; within = within; kept = kept; room = room }) applies
