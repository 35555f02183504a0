-- An axis follows its group's path.
use Rattle.axis_core.proofs.PathLaws.{path-follows, path-goes-on}
use Rattle.axis_core.proofs.path_laws.paths_are_followed.Goals as goal

pub returns : goal.returns
returns c = record { follows = path-follows; goes_on = path-goes-on }
