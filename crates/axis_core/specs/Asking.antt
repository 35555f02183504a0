-- What a command is asked of, as its parts are handed in.
use Rattle.std.specs.Prelude.{◌≤◌, pos, ◌≤ℤ◌, unsigned_abs}
use Rattle.std.specs.Option.{option_copied}
use Rattle.motion_numbers.specs.declared.TheConstants.{MOST_NUMBER}
use Rattle.plc_types.specs.declared.count.TheConstants.{MOST_OFFSET}
use Rattle.axis_core.specs.declared.axis.TheConstants.{MOST_SETPOINT}
use Rattle.motion_numbers.specs.Ranges.{IsStep, IsPlace}
use Rattle.axis_core.specs.Kept.{IsSmallTarget}
use Rattle.axis_core.specs.Refusals.{Asked}
use Rattle.axis_core.specs.blocks.Moves.{position_of}
use Rattle.axis_core.specs.declared.refusing.Asking.{Asking}

-- what a command is asked of
abbrev pub asked_of : Asking → Asked
asked_of q = record {
  axis = q.axis.now;
  number = q.number;
  waiting = q.waiting;
  last = option_copied q.last;
  wanted = q.wanted.now;
  jerk = q.jerk;
  held = q.held;
  tables = q.tables;
}

-- the numbers of what is asked are small enough to be worked with. This project's profile
pub record MayAsk (q : Asking) : Type 0 where
  pub position : unsigned_abs (position_of q.wanted.now) ≤ MOST_NUMBER
  pub increment : pos 1 ≤ℤ q.axis.now.inc
  pub lo : IsPlace q.axis.now.limits.lo
  pub hi : IsPlace q.axis.now.limits.hi
  pub vmax : IsStep q.axis.now.limits.vmax
  pub setpoint : unsigned_abs q.axis.now.setpoint ≤ MOST_SETPOINT
  pub offset : unsigned_abs q.axis.now.offset ≤ MOST_OFFSET
  pub active : IsSmallTarget q.axis.now.active
  pub last : IsSmallTarget (option_copied q.last)
