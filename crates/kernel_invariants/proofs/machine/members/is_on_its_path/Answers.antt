-- The path is the one that was looked at.
use Rattle.std.proofs.Common.{ap}
use Rattle.group_core.specs.Seen.{on_path}
use Rattle.kernel_invariants.specs.Parts.{track_of}
use Rattle.kernel_invariants.proofs.Members.{on_its_path}
use Rattle.kernel_invariants.proofs.machine.members.is_on_its_path.Goals as goal

pub stands_on-requires : goal.stands_on-requires
stands_on-requires c = c.requires (track_of c.in-Some.track) (ap on_path c.in-Some.is)

pub returns-in-Some : goal.returns-in-Some
returns-in-Some c = on_its_path _ _ _ _ _ c.in-Some.is c.stands_on.ensures
