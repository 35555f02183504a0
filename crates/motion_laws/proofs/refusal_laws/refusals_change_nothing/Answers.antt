-- A refused call changes nothing.
use Rattle.motion_laws.proofs.entries.refusals.Calls.{numbered_entry, refused_call, refused_entry, refused_number}
use Rattle.motion_laws.proofs.refusal_laws.refusals_change_nothing.Goals as goal

pub returns-clause-call : goal.returns-clause-call
returns-clause-call c = refused_call

pub returns-clause-number : goal.returns-clause-number
returns-clause-number c = refused_number

pub returns-clause-entries : goal.returns-clause-entries
returns-clause-entries c = refused_entry

pub returns-clause-numbers : goal.returns-clause-numbers
returns-clause-numbers c = numbered_entry
