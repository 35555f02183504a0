-- The axes so far stand at their places.
use Rattle.std.proofs.Common.{◌≡◌}
use Rattle.group_core.specs.Tracks.{places_of}
use Rattle.group_core.proofs.moving.stand_on.Given as goal

abbrev pub invariant-loop-axis : goal.invariant-loop-axis
invariant-loop-axis g l = l.setpoints ≡ places_of l.axis (g.P.Path.place_of l.fn.path) l.fn.place l.fn.setpoints
