-- How often owners are notified, and of what.
use Rattle.buffer_modes.proofs.Fates.{replaces, tells}
use Rattle.buffer_modes.proofs.Owners.{few-active, few-waiting, nobody, told-active, told-more, told-once, told-reset, told-waiting, waits-more}
use Rattle.buffer_modes.proofs.laws.ends_tell_their_owners.Goals as goal

pub returns : goal.returns
returns c = record {
  owners = record {
    nobody = nobody;
    waits_more = waits-more;
    told_more = told-more;
    told_once = told-once;
    told_active = told-active;
    told_waiting = told-waiting;
    told_reset = told-reset;
    few_active = few-active;
    few_waiting = few-waiting;
  };
  tellings = record { tells = tells; replaces = replaces };
}
