-- The command in the list's last record.
use Rattle.std.proofs.Common.{◌∙◌, sym, ap, Some, arith}
use Rattle.command_pool.specs.Waiting.{last_of}
use Rattle.command_pool.proofs.KeptLemmas.{has_list, queue_read, last_below, no_commands, last_command}
use Rattle.command_pool.proofs.pool.CommandPool.last.Goals as goal

pub index-queue-requires : goal.index-queue-requires
index-queue-requires c = has_list c.self.inside _ c.args.list c.self.view_is c.requires

pub returns-then-queue-eq0 : goal.returns-then-queue-eq0
returns-then-queue-eq0 c =
    let lt = has_list c.self.inside _ c.args.list c.self.view_is c.requires in
    let read = queue_read c.self.inside c.args.list c.index-queue.result.now lt c.index-queue.ensures in
    sym (ap last_of (no_commands c.self.inside _ c.args.list c.index-queue.result.now c.self.view_is read c.if-queue-eq0.true))

pub command-requires : goal.command-requires
command-requires c =
    let lt = has_list c.self.inside _ c.args.list c.self.view_is c.requires in
    let read = queue_read c.self.inside c.args.list c.index-queue.result.now lt c.index-queue.ensures in
    last_below c.self.inside c.args.list c.index-queue.result.now c.self.invariant read (omega arith)

pub returns : goal.returns
returns c =
    let lt = has_list c.self.inside _ c.args.list c.self.view_is c.requires in
    let read = queue_read c.self.inside c.args.list c.index-queue.result.now lt c.index-queue.ensures in
    ap Some c.command.ensures ∙ sym (last_command c.self.inside _ c.args.list c.index-queue.result.now c.self.invariant c.self.view_is read (omega arith))
