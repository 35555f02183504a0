-- The first record of the list goes to the start of the free list.
use Rattle.std.proofs.Common.{◌∙◌, sym, ap, Some, ◌<◌, add-one}
use Rattle.command_pool.specs.Layout.{queue_at, links_of, commands_of, shorter}
use Rattle.command_pool.proofs.Lists.{lists_of-popped}
use Rattle.command_pool.proofs.Popped.{IsLinked-popped}
use Rattle.command_pool.proofs.KeptLemmas.{has_list, has_list_item, HasFirst, has_first, first_command}
use Rattle.command_pool.proofs.pool.CommandPool.take.Goals as goal

pub index-queue-requires : goal.index-queue-requires
index-queue-requires c = has_list c.self.inside _ c.args.list c.self.view_is c.requires.there

pub command-wanted-requires : goal.command-wanted-requires
command-wanted-requires c =
    (has_first c.self.inside _ c.args.list c.index-queue.result.now c.self.invariant c.self.view_is c.requires.there c.requires.some c.index-queue.ensures).below

pub next_of-requires : goal.next_of-requires
next_of-requires c =
    (has_first c.self.inside _ c.args.list c.index-queue.result.now c.self.invariant c.self.view_is c.requires.there c.requires.some c.index-queue.ensures).below

pub overflow_sub-queue : goal.overflow_sub-queue
overflow_sub-queue c =
    (has_first c.self.inside _ c.args.list c.index-queue.result.now c.self.invariant c.self.view_is c.requires.there c.requires.some c.index-queue.ensures).some

pub index_mut-requires : goal.index_mut-requires
index_mut-requires c = has_list c.self.inside _ c.args.list c.self.view_is c.requires.there

pub link-requires : goal.link-requires
link-requires c =
    (has_first c.self.inside _ c.args.list c.index-queue.result.now c.self.invariant c.self.view_is c.requires.there c.requires.some c.index-queue.ensures).below

module _ (c : goal.After-self-3-1) where
  first : HasFirst c.self.inside c.args.list c.index-queue.result.now
  first = has_first c.self.inside _ c.args.list c.index-queue.result.now c.self.invariant c.self.view_is c.requires.there c.requires.some c.index-queue.ensures

  some : 0 < (queue_at c.self.inside.queues.items c.args.list).count
  some = rw (← first.read) first.some

pub invariant_of-self : goal.invariant_of-self
unfolding shorter
invariant_of-self c =
    rw (c.link.ensures.links, c.next_of.ensures, (first c).read, add-one c.self.inside.free_count)
    (IsLinked-popped (links_of c.self.inside.records.items) c.self.inside.queues.items c.self.inside.free_first c.self.inside.free_count c.args.list
    c.self.invariant (has_list_item c.self.inside _ c.args.list c.self.view_is c.requires.there) (some c))

pub returns-clause-first : goal.returns-clause-first
returns-clause-first c =
    first_command c.self.inside _ c.args.list c.index-queue.result.now c.self.view_is (first c).read (first c).some ∙ ap Some (sym c.command-wanted.ensures)

pub returns-clause-rest : goal.returns-clause-rest
unfolding shorter
returns-clause-rest c =
    rw (c.link.ensures.links, c.link.ensures.commands, c.next_of.ensures, (first c).read, ← c.self.view_is)
    (lists_of-popped (links_of c.self.inside.records.items) (commands_of c.self.inside.records.items) c.self.inside.queues.items
    c.self.inside.free_first c.self.inside.free_count c.args.list c.self.invariant (has_list_item c.self.inside _ c.args.list c.self.view_is c.requires.there) (some c))
