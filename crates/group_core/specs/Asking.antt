-- What a command is asked of, as its parts are handed in.
use Rattle.group_core.specs.Refusals.{Asked}
use Rattle.group_core.specs.declared.refusing.Asking.{Asking}

-- what a command is asked of
abbrev pub asked_of : Asking → Asked
asked_of q = record {
  group = q.group.now;
  moves = q.moves;
  waiting = q.waiting;
  wanted = q.wanted.now;
  jerk = q.jerk;
  members = q.members.now;
}
