-- Each reply reports one result, by the laws of the machine and of instances.
use Rattle.motion_laws.proofs.entries.replies.Commands.{InstancesTellOne, ReplyLaws}
use Rattle.motion_laws.proofs.entries.replies.Entries.{call_of_blocks, cycle_of_blocks, opening_of_blocks}
use Rattle.motion_laws.proofs.entries.replies.Histories.{entry_of_block, reply_of_block}
use Rattle.motion_laws.proofs.reply_laws.replies_tell_one_result.Goals as goal

instances : (c : goal.After-replies_tell_one_result) → InstancesTellOne
instances c = record {
  single = c.replies_tell_one_result.ensures.single;
  numbered = c.replies_tell_one_result.ensures.numbered;
}

laws : (c : goal.After-replies_tell_one_result) → ReplyLaws
laws c =
    let m = c.machines_stay_kept.ensures in
    record {
      machines = record {
        opened = m.opened;
        call = m.call;
        may_go_on = m.may_go_on;
        cycle = m.cycle;
      };
      instances = instances c;
    }

pub returns-clause-opened : goal.returns-clause-opened
returns-clause-opened c = opening_of_blocks

pub returns-clause-call : goal.returns-clause-call
returns-clause-call c = call_of_blocks

pub returns-clause-cycle : goal.returns-clause-cycle
returns-clause-cycle c = cycle_of_blocks

pub returns-clause-reply : goal.returns-clause-reply
returns-clause-reply c = reply_of_block (instances c)

pub returns-clause-entries : goal.returns-clause-entries
returns-clause-entries c = entry_of_block (laws c)
