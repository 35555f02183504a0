-- The items that are left make of the machine what all make of the first.
use Rattle.std.proofs.Common.{◌≡◌, drop}
use Rattle.machine_config.specs.Machines.{IsUnderWay}
use Rattle.machine_config.specs.Reading.{items_meaning}
use Rattle.machine_config.specs.Shown.{shown}
use Rattle.machine_config.proofs.reading.add_items.Given as goal

abbrev pub invariant-loop-before : goal.invariant-loop-before
invariant-loop-before l =
    (items_meaning l.before l.machine (drop l.before (shown l.items)) ≡ items_meaning 0 l.fn.machine (shown l.items)) × IsUnderWay l.machine
