-- Each record is free, and the lists are empty.
use Rattle.std.proofs.Common.{◌≡◌, arith, rules, ◌*◌, replicate}
use Rattle.command_pool.specs.Layout.{links_of, commands_of, empty}
use Rattle.command_pool.proofs.Lists.{lists_of-opened}
use Rattle.command_pool.proofs.Opened.{IsLinked-opened}
use Rattle.command_pool.proofs.pool.reserved.Goals as goal

queues : (c : goal.In_ok-vec) → c.in_ok-vec.field-0.items ≡ replicate c.args.lists empty
queues c = c.in_ok-vec.ensures.items_if_clones_equal (search rules)

pub invariant_of-result : goal.invariant_of-result
invariant_of-result c =
    rw (c.in_ok-free_records.ensures, queues c) (IsLinked-opened c.args.lists (c.args.lists * 8) (omega arith) (omega arith))

pub returns : goal.returns
returns c = rw (queues c) (lists_of-opened (links_of c.in_ok-free_records.field-0.items) (commands_of c.in_ok-free_records.field-0.items) c.args.lists)
