-- The machine with its tasks that a controller runs.
use Rattle.st_rounds.specs.Cell.{Cell}
use Rattle.st_rounds.specs.declared.cell.Controller.{Controller}

abbrev pub cell_of : Controller → Cell
cell_of p = record {
  setup = p.config;
  cycle_us = p.code.us;
  trees = p.program.tasks.items;
  drives = p.drives;
}
