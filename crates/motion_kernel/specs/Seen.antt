-- The machine that the kernel's parts are.
use Rattle.std.specs.Prelude.{map}
use Rattle.group_core.specs.Seen.{on_path}
use Rattle.group_core.specs.declared.group.GroupOnPath.{GroupOnPath}
use Rattle.linear_path.specs.declared.line.LinePath.{LinePath}
use Rattle.motion_kernel.specs.Machine.{Machine, PlacedGroup}
use Rattle.motion_kernel.specs.declared.parts.Parts.{Parts}

-- a group with its path
abbrev pub placed : GroupOnPath LinePath → PlacedGroup
placed g = record { group = g.group; path = on_path g.track }

-- the machine of these parts
abbrev pub machine_of : Parts → Machine
machine_of p = record {
  axes = p.axes.items;
  groups = map placed p.groups.items;
  queues = p.pool;
  instances = p.instances.items;
}
