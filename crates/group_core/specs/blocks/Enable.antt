-- MC_GroupEnable and MC_GroupDisable (PLCopen Motion Control Part 4).
use Rattle.std.specs.Prelude.{List, [], ◌∷◌}
use Rattle.axis_state.specs.GroupDiagram.{next_of}
use Rattle.axis_state.specs.declared.group_diagram.GroupEvent.TheVariants.{Enable, Disable}
use Rattle.group_core.specs.declared.group.Group.{Group}
use Rattle.group_core.specs.declared.reason.Reason.{Reason}
use Rattle.group_core.specs.declared.reason.Reason.TheVariants.{NotPowered, InErrorStop, InStopping, InHoming, NotAtRest, GroupStateRefuses}

-- the refusals of a GroupEnable, in their order. This project's profile
abbrev pub enable_tests : List Reason
enable_tests = NotPowered ∷ InErrorStop ∷ InStopping ∷ InHoming ∷ NotAtRest ∷ GroupStateRefuses ∷ []

-- the reason against which a GroupDisable is tested
abbrev pub disable_tests : List Reason
disable_tests = GroupStateRefuses ∷ []

-- the group is enabled
abbrev pub enabled : Group → Group
enabled g = record g { state = next_of Enable }

-- the group is disabled, without an error
abbrev pub disabled : Group → Group
disabled g = record g { state = next_of Disable; error = 0 }
