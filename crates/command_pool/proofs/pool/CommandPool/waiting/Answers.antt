-- A list's count is that of its commands.
use Rattle.std.proofs.Common.{◌≡◌, ◌∙◌, sym, ap}
use Rattle.command_pool.specs.declared.linking.Queue.{Queue}
use Rattle.command_pool.specs.Layout.{queue_at}
use Rattle.command_pool.proofs.KeptLemmas.{has_list, count_is, queue_read}
use Rattle.command_pool.proofs.pool.CommandPool.waiting.Goals as goal

pub index-requires : goal.index-requires
index-requires c = has_list c.self.inside _ c.args.list c.self.view_is c.requires

read : (c : goal.After-index) → c.index.result.now ≡ queue_at c.self.inside.queues.items c.args.list
read c = queue_read c.self.inside c.args.list c.index.result.now (has_list c.self.inside _ c.args.list c.self.view_is c.requires) c.index.ensures

pub returns-clause-count : goal.returns-clause-count
returns-clause-count c = ap (λ (q : Queue). q.count) (read c) ∙ sym (count_is c.self.inside _ c.args.list c.self.view_is)

pub returns-clause-few : goal.returns-clause-few
returns-clause-few c = rw (read c) (c.self.invariant.at_most_eight c.args.list)
