-- How a seat of the lock is a permit. This project's profile.
use Rattle.std.specs.Prelude.{◌≡◌, []}
use Rattle.atomic_table.specs.Seated.{TableId}
use Rattle.kernel_turn.specs.PermitState.{PermitState}
use Rattle.kernel_turn.specs.PermitView.{PermitView}
use Rattle.kernel_turn.specs.Steps.{Seated}
use Rattle.kernel_turn.specs.Views.{IsIdle}

-- a permit of a lock as its view says
abbrev pub state_of : TableId → PermitView → PermitState
state_of table v = record {
  table = table;
  opening = v.opening;
  config = v.config;
  seen = v.seen;
  own = v.own;
  made_stop = v.made_stop;
  met_stop = v.met_stop;
  out = v.out;
}

-- between turns a permit waits for nothing and has no kernel
pub record IsReady (m : Seated) : Type 0 where
  pub idle : IsIdle m.0
  pub empty : m.1 ≡ []
