-- What contracts see of a line's inside, and the invariant of it. This project's profile.
use Rattle.std.specs.Prelude.{◌≡◌, []}
use Rattle.drive_jobs.specs.DriveLinkState.{DriveLinkState}
use Rattle.drive_jobs.specs.declared.link.DriveLink.TheInside.{Inside}

-- what a line shows
abbrev pub link_of : Inside → DriveLinkState
link_of l = record {
  job = l.job.value;
  outs = l.kernel.sent;
  ins = l.kernel.taken;
  ended = l.kernel.ended;
}

-- the line's end and its job's are of one ring, of two slots each way, and the job's was not used
-- when it was started
pub record IsDriveLink (l : Inside) : Type 0 where
  pub pair : l.kernel.ring ≡ l.job.value.end.ring
  pub sent : l.job.value.end.sent ≡ []
  pub taken : l.job.value.end.taken ≡ []
  pub room : l.kernel.ring.room ≡ 2
