-- The invariant of a group.
use Rattle.group_core.proofs.KeptCalls.{commanded-kept, powered-kept}
use Rattle.group_core.proofs.KeptCycles.{cycled-kept}
use Rattle.group_core.proofs.KeptOthers.{disowned-kept, opened-kept, reset-kept}
use Rattle.group_core.proofs.laws.groups_stay_kept.Goals as goal

pub returns-clause-opened : goal.returns-clause-opened
returns-clause-opened c = λ axes limits count are. opened-kept axes limits count are

pub returns-clause-command : goal.returns-clause-command
returns-clause-command c = λ members w jerk core look made kept.
    commanded-kept c.standing_is_kept.ensures.kept members w jerk core (record { look = look; kept = kept }) made

pub returns-clause-power_off : goal.returns-clause-power_off
returns-clause-power_off c = λ limits core kept. powered-kept limits core kept

pub returns-clause-detach : goal.returns-clause-detach
returns-clause-detach c = λ owner limits core kept. disowned-kept owner limits core kept

pub returns-clause-cycle : goal.returns-clause-cycle
returns-clause-cycle c = λ members core look kept.
    cycled-kept (record { standing = c.standing_is_kept.ensures.kept; taken = c.taken_steps_keep.ensures.kept; slower = c.braking_steps_are_only_cut.ensures.slower })
    members core look kept

pub returns-clause-reset : goal.returns-clause-reset
returns-clause-reset c = λ members limits core kept. reset-kept members limits core kept
