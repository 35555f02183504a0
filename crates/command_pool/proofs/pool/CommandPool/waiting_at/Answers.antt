-- The command in the record that is at this place of the list.
use Rattle.std.proofs.Common.{◌∙◌, sym, ap, Some, List, map, arith}
use Rattle.std.specs.Option.{option_map}
use Rattle.std.specs.Prelude.{slice_get}
use Rattle.std.proofs.lemmas.Option.{slice_get-map, slice_get_past}
use Rattle.command_pool.specs.Layout.{chain, chains, command_at, commands_of, links_of, times}
use Rattle.command_pool.specs.Waiting.{queue_of}
use Rattle.command_pool.specs.declared.linking.Queue.{Queue}
use Rattle.command_pool.specs.declared.wanted.Wanted.{Wanted}
use Rattle.command_pool.proofs.Chains.{get_or-chains}
use Rattle.command_pool.proofs.KeptLemmas.{count_is, has_list, listed_below, queue_read}
use Rattle.command_pool.proofs.Lists.{queue_of-lists_of}
use Rattle.command_pool.proofs.Times.{times_in_all-get}
use Rattle.command_pool.proofs.pool.CommandPool.waiting_at.Goals as goal

pub index-queue-requires : goal.index-queue-requires
index-queue-requires c = has_list c.self.inside _ c.args.list c.self.view_is c.requires

pub returns-then-place-queue : goal.returns-then-place-queue
returns-then-place-queue c =
    let lt = has_list c.self.inside _ c.args.list c.self.view_is c.requires in
    let read = queue_read c.self.inside c.args.list c.index-queue.result.now lt c.index-queue.ensures in
    let count = count_is c.self.inside _ c.args.list c.self.view_is in
    let counts = ap (λ (q : Queue). q.count) read in
    sym (slice_get_past (queue_of c.args.self.now c.args.list) c.args.place (omega (arith, c.if-place-queue.true)))

pub record_at-requires-clause-places : goal.record_at-requires-clause-places
record_at-requires-clause-places c k some =
    let links = links_of c.self.inside.records.items in
    let queues = c.self.inside.queues.items in
    let lt = has_list c.self.inside _ c.args.list c.self.view_is c.requires in
    let read = queue_read c.self.inside c.args.list c.index-queue.result.now lt c.index-queue.ensures in
    let least = times_in_all-get k (chains links queues) c.args.list in
    let here = ap (times k) (get_or-chains links queues c.args.list) in
    let same = ap (λ (q : Queue). times k (chain links q)) read in
    listed_below c.self.inside k c.self.invariant (omega (arith, some))

pub returns : goal.returns
returns c =
    let links = links_of c.self.inside.records.items in
    let commands = commands_of c.self.inside.records.items in
    let queues = c.self.inside.queues.items in
    let lt = has_list c.self.inside _ c.args.list c.self.view_is c.requires in
    let read = queue_read c.self.inside c.args.list c.index-queue.result.now lt c.index-queue.ensures in
    let at = c.record_at.ensures.at in
    sym (ap (λ (ls : List (List Wanted)). slice_get (queue_of ls c.args.list) c.args.place) (sym c.self.view_is) ∙
    (ap (λ (ws : List Wanted). slice_get ws c.args.place) (queue_of-lists_of links commands queues c.args.list) ∙
    (ap (λ (q : Queue). slice_get (map (command_at commands) (chain links q)) c.args.place) (sym read) ∙
    (slice_get-map (command_at commands) (chain links c.index-queue.result.now) c.args.place ∙
    (ap (option_map (command_at commands)) at ∙ ap Some (sym c.command.ensures))))))
