-- What one key more gives spells what was gone over after those before.
use Rattle.std.proofs.Common.{true, drop, arith}
use Rattle.st_tree.specs.Parts.{given_parts}
use Rattle.st_tree.specs.Places.{Inside}
use Rattle.st_build.proofs.Lists.{pushed_over}
use Rattle.st_build.proofs.Ways.{passes_on}
use Rattle.st_build.proofs.statement.all_given_at.Goals as goal

pub loop-alloc-preserved : goal.loop-alloc-preserved
loop-alloc-preserved c = record {
  spelled = pushed_over given_parts (drop c.args.at.now c.args.parts.now) c.loop-alloc.given.items c.push.new.list.items c.in_ok-one.one
      (drop c.loop-alloc.at c.args.parts.now) (drop c.given_at.new.at c.args.parts.now)
      c.loop-alloc.invariant.spelled c.in_ok-one.ensures.spelled c.in_ok-push.ensures;
  passes = λ around. passes_on (Inside 0 true around) (Inside 0 true around) (Inside 0 true around) _ _ _ (c.loop-alloc.invariant.passes around) (c.in_ok-one.ensures.passes around);
  onward = omega (arith, c.loop-alloc.invariant.onward, c.in_ok-one.ensures.onward);
}
