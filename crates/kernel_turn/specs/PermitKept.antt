-- How a permit is kept. This project's profile.
use Rattle.kernel_turn.specs.Inside.{state_of, IsReady}
use Rattle.kernel_turn.specs.PermitState.{PermitState}
use Rattle.kernel_turn.specs.declared.permit.Permit.TheInside.{Inside}

-- a permit as its seat says
abbrev pub permit_of : Inside → PermitState
permit_of p = state_of p.seat.table_id p.seat.me.0

-- between turns
abbrev pub IsKept : Inside → Type 0
IsKept p = IsReady p.seat.me
