-- The law of drives.
use Rattle.machine_drives.proofs.DriveLaws.{follow-outputs}
use Rattle.machine_drives.proofs.laws.drives_follow_their_outputs.Goals as goal

pub returns : goal.returns
returns c = follow-outputs
