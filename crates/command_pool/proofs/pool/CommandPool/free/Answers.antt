use Rattle.std.proofs.Common.{arith}
use Rattle.command_pool.specs.Layout.{links_of, commands_of}
use Rattle.command_pool.proofs.Lists.{length-lists_of, waiting-lists_of}
use Rattle.command_pool.proofs.pool.CommandPool.free.Goals as goal

pub returns : goal.returns
returns c =
    let rs = c.self.inside.records.items in
    let qs = c.self.inside.queues.items in
    let w = waiting-lists_of (links_of rs) (commands_of rs) qs in
    let l = length-lists_of (links_of rs) (commands_of rs) qs in
    rw (← c.self.view_is) (omega (arith, c.self.invariant.whole, c.self.invariant.eight_each))
