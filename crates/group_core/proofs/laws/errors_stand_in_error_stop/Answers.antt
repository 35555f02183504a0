-- Errors stand in GroupErrorStop.
use Rattle.group_core.proofs.ShownLaws.{command-shown, cycle-shown, detach-shown, off-shown, opened-shown, reset-shown}
use Rattle.group_core.proofs.laws.errors_stand_in_error_stop.Goals as goal

pub returns-clause-opened : goal.returns-clause-opened
returns-clause-opened c = λ axes. opened-shown axes

pub returns-clause-command : goal.returns-clause-command
returns-clause-command c = λ w jerk members core made shown. command-shown w jerk members core made shown

pub returns-clause-power_off : goal.returns-clause-power_off
returns-clause-power_off c = λ core shown. off-shown core shown

pub returns-clause-detach : goal.returns-clause-detach
returns-clause-detach c = λ owner g shown. detach-shown owner g shown

pub returns-clause-cycle : goal.returns-clause-cycle
returns-clause-cycle c = λ members core kept shown. cycle-shown members core kept shown

pub returns-clause-reset : goal.returns-clause-reset
returns-clause-reset c = λ members on g shown. reset-shown members on g shown
