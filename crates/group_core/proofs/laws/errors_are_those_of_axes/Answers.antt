-- A group's error is that of its axes.
use Rattle.std.specs.Prelude.{refl}
use Rattle.group_core.proofs.ErrorNumbers.{command-numbered, cycle-numbered, detach-numbered, off-numbered, reset-numbered}
use Rattle.group_core.proofs.laws.errors_are_those_of_axes.Goals as goal

pub returns-clause-opened : goal.returns-clause-opened
returns-clause-opened c = λ axes some. absurd (some refl)

pub returns-clause-command : goal.returns-clause-command
returns-clause-command c = λ w jerk members core h. command-numbered w jerk members core h

pub returns-clause-power_off : goal.returns-clause-power_off
returns-clause-power_off c = λ core h. off-numbered core h

pub returns-clause-detach : goal.returns-clause-detach
returns-clause-detach c = λ owner g h. detach-numbered owner g h

pub returns-clause-cycle : goal.returns-clause-cycle
returns-clause-cycle c = λ members core axes h. cycle-numbered members core axes h

pub returns-clause-reset : goal.returns-clause-reset
returns-clause-reset c = λ members on g h. reset-numbered members on g h
