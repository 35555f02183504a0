-- The output of one line more goes in.
use Rattle.std.proofs.Common.{rules, ap, ◌∙◌, sym}
use Rattle.std.specs.Prelude.{slice_get}
use Rattle.motion_plant.specs.Lines.{with_output}
use Rattle.motion_plant.proofs.Zips.{zip_over, zip_here}
use Rattle.motion_plant.proofs.Lists.{get_there, get_at}
use Rattle.motion_plant.proofs.cycles.push_all.Goals as goal

pub push_at-requires-clause-next : goal.push_at-requires-clause-next
push_at-requires-clause-next g c = λ x e.
    let inv = c.loop-i.invariant in
    let at = sym (ap (λ xs. slice_get xs c.loop-i.i) inv.lines ∙
    zip_here with_output c.args.lines.now.items c.args.outs.now c.loop-i.i c.requires.width) ∙
    e in
    c.requires.next c.loop-i.i x at

pub loop-i-preserved : goal.loop-i-preserved
loop-i-preserved g c =
    let inv = c.loop-i.invariant in
    let there = get_there c.args.lines.now.items c.loop-i.i (search rules) in
    let at = ap (λ xs. slice_get xs c.loop-i.i) inv.lines ∙
    zip_here with_output c.args.lines.now.items c.args.outs.now c.loop-i.i c.requires.width ∙
    there.1 in
    record {
      lines = c.push_at.ensures.pushed there.0 at ∙ zip_over with_output c.args.lines.now.items
          c.args.outs.now c.loop-i.lines.items c.loop-i.i there.0 _ there.1
          (get_at c.args.outs.now c.loop-i.i _ (search rules)) inv.lines;
      same = c.push_at.ensures.len ∙ inv.same;
    }
