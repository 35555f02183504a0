-- How a configuration is kept.
use Rattle.motion_history.specs.declared.config.Items.{Items}
use Rattle.motion_history.specs.Setup.{Setup}

-- the configuration that the items are
abbrev pub setup_of : Items → Setup
setup_of i = record {
  axes = i.axes.items;
  groups = i.groups.items;
  tables = i.tables.items;
  tasks = i.tasks.items;
  blocks = i.blocks.items;
  cycles = i.cycles;
  entries = i.entries;
}
