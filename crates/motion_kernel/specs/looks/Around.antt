-- What the axes look at in a cycle, as it is handed in.
use Rattle.motion_kernel.specs.looks.AxisLooks.{Surroundings}
use Rattle.motion_kernel.specs.declared.axis_looks.Around.{Around}

abbrev pub around_of : Around → Surroundings
around_of a = record { answers = a.answers.now; pairs = a.pairs.now; steps = a.steps.now }
