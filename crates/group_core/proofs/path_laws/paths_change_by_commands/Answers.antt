-- How the path of a group changes.
use Rattle.group_core.proofs.PathChanges.{active-begins, begins-active, leaves-disabled, path-ends, path-goes-on}
use Rattle.group_core.proofs.path_laws.paths_change_by_commands.Goals as goal

pub returns : goal.returns
returns c = record { begins = active-begins; only_begins = begins-active; only_leaves = leaves-disabled; ends = path-ends; goes_on = path-goes-on }
