-- One task more spells what was gone over after those before, and the rest is of trees.
use Rattle.std.proofs.Common.{◌≡◌, ◌+◌, ◌++◌, drop, length, rules, ap, sym, subst, ◌∙◌, length-append}
use Rattle.std.specs.List.{flat_map}
use Rattle.st_tree.specs.Parts.{blocks_of, task_names, task_parts}
use Rattle.st_tree.specs.Places.{AreOfTrees}
use Rattle.st_build.proofs.Lists.{joined_over, joined_push}
use Rattle.st_build.proofs.Numbers.{numbers_joined}
use Rattle.st_build.proofs.program.program_of.Goals as goal

pub loop-at-preserved : goal.loop-at-preserved
loop-at-preserved c =
    let joined : flat_map blocks_of c.push.new.list.items ≡ flat_map blocks_of c.loop-at.tasks.items ++ blocks_of c.in_ok-task.task =
    joined_push blocks_of c.loop-at.tasks.items c.push.new.list.items c.in_ok-task.task c.in_ok-push.ensures in
    let count : c.len-blocks.result ≡ length (blocks_of c.in_ok-task.task) = search rules in
    let sum : c.loop-at.blocks + c.len-blocks.result ≡ c.loop-at.blocks + length (blocks_of c.in_ok-task.task) = ap (λ k. c.loop-at.blocks + k) count in
    record {
      parts = joined_over task_parts c.args.parts.now c.loop-at.tasks.items c.push.new.list.items c.in_ok-task.task
          (drop c.loop-at.at c.args.parts.now) (drop c.task_at.new.at c.args.parts.now)
          c.loop-at.invariant.parts c.in_ok-task.ensures.parts c.in_ok-push.ensures;
      names = joined_over task_names c.args.names.now c.loop-at.tasks.items c.push.new.list.items c.in_ok-task.task
          (drop c.loop-at.at_name c.args.names.now) (drop c.task_at.new.at_name c.args.names.now)
          c.loop-at.invariant.names c.in_ok-task.ensures.names c.in_ok-push.ensures;
      numbered = numbers_joined (flat_map blocks_of c.loop-at.tasks.items) (blocks_of c.in_ok-task.task) _ c.loop-at.blocks (length (blocks_of c.in_ok-task.task)) _
          c.loop-at.invariant.numbered c.in_ok-task.ensures.blocks joined sum;
      counted = ap length joined ∙ length-append (flat_map blocks_of c.loop-at.tasks.items) (blocks_of c.in_ok-task.task) ∙
          ap (λ k. k + length (blocks_of c.in_ok-task.task)) c.loop-at.invariant.counted ∙ sym sum;
      ahead = subst (λ k. AreOfTrees k (drop c.task_at.new.at_name c.args.names.now) (drop c.task_at.new.at c.args.parts.now)) (sym sum) c.in_ok-task.ensures.ahead;
    }
