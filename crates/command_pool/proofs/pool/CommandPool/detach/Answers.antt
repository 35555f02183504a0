-- The links stay, and each command in the list has lost the owner.
use Rattle.std.proofs.Common.{◌≡◌, ◌∙◌, ap, map, set}
use Rattle.command_pool.specs.Layout.{chain, commands_of, detached_in, links_of, lists_of, queue_at}
use Rattle.command_pool.specs.Waiting.{detached, queue_of}
use Rattle.command_pool.proofs.Detached.{in_one, lists_of-detached}
use Rattle.command_pool.proofs.KeptLemmas.{has_list, listed_below, queue_read}
use Rattle.command_pool.proofs.pool.CommandPool.detach.Goals as goal

pub index-queue-requires : goal.index-queue-requires
index-queue-requires c = has_list c.self.inside _ c.args.list c.self.view_is c.requires

pub detach_in-requires : goal.detach_in-requires
detach_in-requires c =
    let p = c.self.inside in
    let read = queue_read p c.args.list c.index-queue.result.now (has_list p _ c.args.list c.self.view_is c.requires) c.index-queue.ensures in
    record { places = λ k some. listed_below p k c.self.invariant (in_one (links_of p.records.items) p.queues.items c.args.list k (rw read at some)) }

pub returns : goal.returns
returns c =
    let p = c.self.inside in
    let qs = p.queues.items in
    let new = c.detach_in.new.records.items in
    let old = p.records.items in
    let owner = c.args.owner in
    let list = c.args.list in
    let read = queue_read p list c.index-queue.result.now (has_list p _ list c.self.view_is c.requires) c.index-queue.ensures in
    let links : links_of new ≡ links_of old = c.detach_in.ensures.links in
    let commands : commands_of new ≡ detached_in owner (chain (links_of old) (queue_at qs list)) (commands_of old) =
    c.detach_in.ensures.commands ∙ ap (λ q. detached_in owner (chain (links_of old) q) (commands_of old)) read in
    ap (λ ls. lists_of ls (commands_of new) qs) links ∙
    (ap (λ ws. lists_of (links_of old) ws qs) commands ∙
    (lists_of-detached (links_of old) (commands_of old) qs p.free_first p.free_count list owner c.self.invariant
    ∙ ap (λ ls. set ls list (map (detached owner) (queue_of ls list))) c.self.view_is))
