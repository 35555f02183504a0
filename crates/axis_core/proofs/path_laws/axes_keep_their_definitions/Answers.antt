-- What an axis is defined by never changes.
use Rattle.axis_core.proofs.DefinitionLaws.{commands-keep, cycles-keep, detached-keep, paths-keep, powers-keep}
use Rattle.axis_core.proofs.path_laws.axes_keep_their_definitions.Goals as goal

pub returns : goal.returns
returns c = record { command = commands-keep; power = powers-keep; detach = detached-keep; path = paths-keep; cycle = cycles-keep }
