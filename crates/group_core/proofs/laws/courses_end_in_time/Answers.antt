-- Commands of a group come to their end in time.
use Rattle.group_core.proofs.CourseLaws.{Plans, begins-under-way, braking-begins, braking-carries, command-carries, cycle-carries, detach-carries, off-carries, reset-carries}
use Rattle.group_core.proofs.laws.courses_end_in_time.Goals as goal

pub returns-clause-begins : goal.returns-clause-begins
returns-clause-begins c = λ course limits core w p kept active on leads.
    (let plans : Plans = record { arrive = c.moves_arrive_in_time.ensures; rest = c.halts_come_to_rest_in_time.ensures } in
    begins-under-way plans course limits core w p kept active on leads)

pub returns-clause-command : goal.returns-clause-command
returns-clause-command c = λ n course w jerk members core look made kept under-way. command-carries n course w jerk members core look made kept under-way

pub returns-clause-power_off : goal.returns-clause-power_off
returns-clause-power_off c = λ n course core under-way. off-carries n course core under-way

pub returns-clause-detach : goal.returns-clause-detach
returns-clause-detach c = λ n course owner core under-way. detach-carries n course owner core under-way

pub returns-clause-cycle : goal.returns-clause-cycle
returns-clause-cycle c = λ n course members core kept under-way. cycle-carries n course members core kept under-way

pub returns-clause-reset : goal.returns-clause-reset
returns-clause-reset c = λ n course members core under-way. reset-carries n course members core under-way

pub returns-clause-stopped : goal.returns-clause-stopped
returns-clause-stopped c = λ limits core p kept stopped on.
    (let plans : Plans = record { arrive = c.moves_arrive_in_time.ensures; rest = c.halts_come_to_rest_in_time.ensures } in
    braking-begins plans limits core p kept stopped on)

pub returns-clause-braked : goal.returns-clause-braked
returns-clause-braked c = λ n members core braking. braking-carries n members core braking
