-- What a kernel keeps can be held by a trace, and what can be held is read back.
use Rattle.trace_check.proofs.KeptHistories.{Laws, history-held}
use Rattle.trace_check.proofs.laws.kept_histories_are_read_back.Goals as goal

pub returns : goal.returns
returns c = λ v who s es ds kept version many bits.
    let laws : Laws = record {
      counted = c.rows_are_counted.ensures;
      machines = record {
        opened = c.machines_stay_kept.ensures.opened;
        call = c.machines_stay_kept.ensures.call;
        may_go_on = c.machines_stay_kept.ensures.may_go_on;
        cycle = c.machines_stay_kept.ensures.cycle;
      };
    } in
    c.traces_are_read_back.ensures.read v who s es ds (history-held laws v s es ds kept version many bits)
