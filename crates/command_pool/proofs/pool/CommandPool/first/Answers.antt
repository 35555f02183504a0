-- The command in the list's first record.
use Rattle.std.proofs.Common.{◌∙◌, sym, ap, Some, arith}
use Rattle.std.specs.Prelude.{slice_get}
use Rattle.command_pool.proofs.KeptLemmas.{has_list, queue_read, first_below, no_commands, first_command}
use Rattle.command_pool.proofs.pool.CommandPool.first.Goals as goal

pub index-queue-requires : goal.index-queue-requires
index-queue-requires c = has_list c.self.inside _ c.args.list c.self.view_is c.requires

pub returns-then-queue-eq0 : goal.returns-then-queue-eq0
returns-then-queue-eq0 c =
    let lt = has_list c.self.inside _ c.args.list c.self.view_is c.requires in
    let read = queue_read c.self.inside c.args.list c.index-queue.result.now lt c.index-queue.ensures in
    sym (ap (λ ws. slice_get ws 0) (no_commands c.self.inside _ c.args.list c.index-queue.result.now c.self.view_is read c.if-queue-eq0.true))

pub command-requires : goal.command-requires
command-requires c =
    let lt = has_list c.self.inside _ c.args.list c.self.view_is c.requires in
    let read = queue_read c.self.inside c.args.list c.index-queue.result.now lt c.index-queue.ensures in
    first_below c.self.inside c.args.list c.index-queue.result.now c.self.invariant read (omega arith)

pub returns : goal.returns
returns c =
    let lt = has_list c.self.inside _ c.args.list c.self.view_is c.requires in
    let read = queue_read c.self.inside c.args.list c.index-queue.result.now lt c.index-queue.ensures in
    ap Some c.command.ensures ∙ sym (first_command c.self.inside _ c.args.list c.index-queue.result.now c.self.view_is read (omega arith))
