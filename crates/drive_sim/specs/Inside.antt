-- How a simulated drive is kept.
use Rattle.drive_sim.specs.Faults.{RisesAbove}
use Rattle.drive_sim.specs.Sim.{DriveSim}
use Rattle.drive_sim.specs.declared.drive.Drive.TheInside.{Inside}

-- the state that a drive's fields say: its ring has room for as many targets as its lag. This
-- project's profile
abbrev pub sim_of : Inside → DriveSim
sim_of d = record {
  lag = d.kept.capacity;
  faults = d.faults.items;
  steps = d.steps;
  state = d.state;
  last = d.last;
  mode_display = d.mode_display;
  actual = d.actual;
  kept = d.kept.items;
}

-- a drive's fault steps rise. This project's profile
pub record IsSim (d : Inside) : Type 0 where
  pub rising : RisesAbove 0 d.faults.items
