-- The machine with its trace segment is put back.
use Rattle.std.proofs.Common.{◌≡◌, Some, subst, sym, ◌∙◌}
use Rattle.motion_c.specs.Held.{held}
use Rattle.motion_c.specs.Traces.{MakesTraceSegment}
use Rattle.motion_c.proofs.tracing.motion_segment_text.Goals as goal

pub returns-clause-made : goal.returns-clause-made
returns-clause-made c = λ m is done.
    let taken : Some c.in-Some.machine.value ≡ Some m = c.in-Some.ensures.taken ∙ is in
    let value = c.deref_mut.ensures.value in
    let back = c.deref_mut.ensures.writes_back in
    let kept = c.put.ensures in
    let same : c.deref_mut.result.now ≡ m = cc in
    let there : held c.put.new.motion ≡ Some c.make_trace_segment-answer.new.machine = cc in
    subst (λ x. MakesTraceSegment x c.args.answers.now (held c.put.new.motion)) same
    (subst (λ o. MakesTraceSegment c.deref_mut.result.now c.args.answers.now o) (sym there)
    (c.make_trace_segment-answer.ensures.made done))
