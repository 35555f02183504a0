-- What was reported of the first command and what is still to be reported of the others.
use Rattle.std.proofs.Common.{◌∙◌, arith}
use Rattle.command_pool.specs.declared.ending.Finish.TheVariants as finish
use Rattle.command_pool.proofs.ClearLemmas.{takes_first}
use Rattle.command_pool.proofs.pool.CommandPool.clear.Goals as goal

pub loop-taken-preserved : goal.loop-taken-preserved
loop-taken-preserved c =
    let t = takes_first c.loop-taken.self c.take-wanted.new.self c.args.list c.take-wanted.result finish.Aborted c.loop-taken.notes c.add_end.new.self
    c.loop-taken.invariant.there c.take-wanted.ensures.first c.take-wanted.ensures.rest c.add_end.ensures in
    record {
      there = omega (arith, t.there, c.loop-taken.invariant.there);
      left = omega (arith, t.count, c.loop-taken.invariant.left);
      room = omega (arith, t.count, t.one, c.loop-taken.invariant.room);
      lists = t.cleared ∙ c.loop-taken.invariant.lists;
      notes = t.told ∙ c.loop-taken.invariant.notes;
    }
