-- The line gets its next output.
use Rattle.std.proofs.Common.{ap, ◌∙◌, sym}
use Rattle.std.specs.Prelude.{slice_set}
use Rattle.motion_plant.specs.Lines.{with_output}
use Rattle.motion_plant.proofs.Lists.{get_or_at, some_is}
use Rattle.motion_plant.proofs.cycles.push_at.Goals as goal

pub push-requires-clause-goes_on : goal.push-requires-clause-goes_on
push-requires-clause-goes_on g c =
    (c.requires.next c.index_mut.result.now
    (get_or_at _ _ _ c.requires.there c.index_mut.ensures.value)).1

pub returns-clause-pushed : goal.returns-clause-pushed
unfolding with_output
returns-clause-pushed g c = λ x e.
    let same = some_is c.index_mut.result.now x
    (sym (get_or_at _ _ _ c.requires.there c.index_mut.ensures.value) ∙ e) in
    ap (λ y. slice_set c.args.lines.now.items c.args.i y) (c.push.ensures ∙
    ap (λ y. with_output y c.args.out) same)
