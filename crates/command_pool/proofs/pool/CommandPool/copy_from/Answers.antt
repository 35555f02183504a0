-- Pools of as many lists have as many records, and equal records and links give equal lists.
use Rattle.std.proofs.Common.{ap, length, arith}
use Rattle.command_pool.specs.Layout.{commands_of, links_of}
use Rattle.command_pool.proofs.Lists.{length-lists_of}
use Rattle.command_pool.proofs.Records.{length-links_of}
use Rattle.command_pool.proofs.pool.CommandPool.copy_from.Goals as goal

pub copy_from_slice-requires : goal.copy_from_slice-requires
copy_from_slice-requires c =
    let p = c.self.inside in
    let q = c.other.inside in
    let lists = length-lists_of (links_of p.records.items) (commands_of p.records.items) p.queues.items in
    let others = length-lists_of (links_of q.records.items) (commands_of q.records.items) q.queues.items in
    let here = ap length c.self.view_is in
    let there = ap length c.other.view_is in
    let records = length-links_of p.records.items in
    let as_many = length-links_of q.records.items in
    let read = ap length c.as_slice.ensures.value in
    omega (arith, p.records.ok.0, q.records.ok.0, c.self.invariant.eight_each, c.other.invariant.eight_each, c.requires)

pub copy_from_slice-requires-2 : goal.copy_from_slice-requires-2
copy_from_slice-requires-2 c =
    let p = c.self.inside in
    let q = c.other.inside in
    let lists = length-lists_of (links_of p.records.items) (commands_of p.records.items) p.queues.items in
    let others = length-lists_of (links_of q.records.items) (commands_of q.records.items) q.queues.items in
    let here = ap length c.self.view_is in
    let there = ap length c.other.view_is in
    let read = ap length c.as_slice-2.ensures.value in
    omega (arith, p.queues.ok.0, q.queues.ok.0, c.requires)
