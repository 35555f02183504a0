-- The answer of one line more is taken.
use Rattle.std.proofs.Common.{rules, ap, ◌∙◌}
use Rattle.std.specs.Prelude.{slice_get}
use Rattle.motion_plant.specs.Lines.{with_answer}
use Rattle.motion_plant.proofs.Zips.{zip_set, zip_here}
use Rattle.motion_plant.proofs.Lists.{get_there, length_set}
use Rattle.motion_plant.proofs.cycles.take_all.Goals as goal

pub loop-i-preserved : goal.loop-i-preserved
loop-i-preserved g c =
    let inv = c.loop-i.invariant in
    let there = get_there c.args.lines.now.items c.loop-i.i (search rules) in
    let width = inv.width ∙ c.requires.width in
    let at = ap (λ xs. slice_get xs c.loop-i.i) inv.lines ∙
    zip_here with_answer c.args.lines.now.items c.loop-i.ins c.loop-i.i width ∙ there.1 in
    record {
      lines = c.take_at.ensures.taken there.0 at ∙ zip_set with_answer c.args.lines.now.items
          c.loop-i.ins c.loop-i.lines.items c.loop-i.i there.0 c.take_at.result there.1 width
          inv.lines;
      same = c.take_at.ensures.len ∙ inv.same;
      width = length_set c.loop-i.ins c.loop-i.i c.take_at.result ∙ inv.width;
    }
