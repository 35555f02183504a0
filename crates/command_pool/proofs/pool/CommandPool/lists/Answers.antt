use Rattle.std.proofs.Common.{◌≤◌, arith}
use Rattle.command_pool.specs.Layout.{links_of, commands_of}
use Rattle.command_pool.proofs.Lists.{length-lists_of}
use Rattle.command_pool.proofs.pool.CommandPool.lists.Goals as goal

pub overflow_cast-result : goal.overflow_cast-result
overflow_cast-result c =
    let n : c.len.result ≤ 255 = omega (arith, c.self.invariant.few_lists, c.self.inside.queues.ok.0, c.len.ensures) in
    omega arith

pub returns : goal.returns
returns c =
    let l = length-lists_of (links_of c.self.inside.records.items) (commands_of c.self.inside.records.items) c.self.inside.queues.items in
    rw (← c.self.view_is) (omega (arith, c.self.inside.queues.ok.0, c.len.ensures))
