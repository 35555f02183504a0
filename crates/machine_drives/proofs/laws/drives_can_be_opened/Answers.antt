-- The law of drives that are opened.
use Rattle.std.proofs.lemmas.List.Elements.{All-weaker}
use Rattle.machine_drives.proofs.Opening.{can_open}
use Rattle.machine_drives.specs.Drives.{CanOpen}
use Rattle.motion_history.specs.Drives.{IsDrive}
use Rattle.machine_drives.proofs.laws.drives_can_be_opened.Goals as goal

pub returns-clause-one : goal.returns-clause-one
returns-clause-one c = can_open

pub returns-clause-all : goal.returns-clause-all
returns-clause-all c = λ ds are. All-weaker IsDrive CanOpen can_open ds are
