-- The first free record goes to the end of the list.
use Rattle.std.proofs.Common.{◌≡◌, arith, ◌-◌}
use Rattle.command_pool.specs.Layout.{queue_at, links_of, commands_of}
use Rattle.command_pool.proofs.Records.{length-commands_of}
use Rattle.command_pool.proofs.Lists.{lists_of-pushed}
use Rattle.command_pool.proofs.Pushed.{IsLinked-pushed}
use Rattle.command_pool.proofs.KeptLemmas.{has_list, has_list_item, count_is, queue_read, HasFree, room_is_free, last_below}
use Rattle.command_pool.proofs.pool.CommandPool.add.Goals as goal

pub index-queue-requires : goal.index-queue-requires
index-queue-requires c = has_list c.self.inside _ c.args.list c.self.view_is c.requires.there

pub next_of-self-inside-requires : goal.next_of-self-inside-requires
next_of-self-inside-requires c = (room_is_free c.self.inside _ c.args.list c.self.invariant c.self.view_is c.requires.there c.requires.room).below

pub overflow_sub-self : goal.overflow_sub-self
overflow_sub-self c = (room_is_free c.self.inside _ c.args.list c.self.invariant c.self.view_is c.requires.there c.requires.room).some

pub fill-requires : goal.fill-requires
fill-requires c = (room_is_free c.self.inside _ c.args.list c.self.invariant c.self.view_is c.requires.there c.requires.room).below

module _ (c : goal.After-append-arg-1) where
  read : c.index-queue.result.now ≡ queue_at c.self.inside.queues.items c.args.list
  read = queue_read c.self.inside c.args.list c.index-queue.result.now (has_list c.self.inside _ c.args.list c.self.view_is c.requires.there) c.index-queue.ensures

pub append-requires-clause-last : goal.append-requires-clause-last
append-requires-clause-last c some =
    let h = last_below c.self.inside c.args.list c.index-queue.result.now c.self.invariant (read c) some in
    omega (arith, c.fill.ensures.len)

pub append-requires-clause-few : goal.append-requires-clause-few
append-requires-clause-few c =
    let n = count_is c.self.inside _ c.args.list c.self.view_is in
    rw (read c) (omega (arith, c.requires.room))

pub index_mut-requires : goal.index_mut-requires
index_mut-requires c = has_list c.self.inside _ c.args.list c.self.view_is c.requires.there

module _ (c : goal.After-self-3-1) where
  read_last : c.index-queue.result.now ≡ queue_at c.self.inside.queues.items c.args.list
  read_last = queue_read c.self.inside c.args.list c.index-queue.result.now (has_list c.self.inside _ c.args.list c.self.view_is c.requires.there) c.index-queue.ensures

  free_last : HasFree c.self.inside
  free_last = room_is_free c.self.inside _ c.args.list c.self.invariant c.self.view_is c.requires.there c.requires.room

pub invariant_of-self : goal.invariant_of-self
invariant_of-self c =
    let n = count_is c.self.inside _ c.args.list c.self.view_is in
    rw (c.append.ensures.links, c.fill.ensures.links, c.append.ensures.queue, c.next_of-self-inside.ensures, read_last c)
    (IsLinked-pushed (links_of c.self.inside.records.items) c.self.inside.queues.items c.self.inside.free_first (c.self.inside.free_count - 1) c.args.list
    (free_last c).linked (has_list_item c.self.inside _ c.args.list c.self.view_is c.requires.there) (omega (arith, c.requires.room)))

pub returns : goal.returns
returns c =
    rw (c.append.ensures.links, c.fill.ensures.links, c.append.ensures.commands, c.fill.ensures.commands, c.append.ensures.queue, read_last c, ← c.self.view_is)
    (lists_of-pushed (links_of c.self.inside.records.items) (commands_of c.self.inside.records.items) c.self.inside.queues.items
    c.self.inside.free_first (c.self.inside.free_count - 1) c.args.list c.args.wanted (free_last c).linked
    (length-commands_of c.self.inside.records.items))
