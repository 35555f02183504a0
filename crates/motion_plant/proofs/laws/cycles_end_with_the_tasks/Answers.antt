-- A run says it of the entries that the cycles made.
use Rattle.motion_plant.proofs.CycleLaws.{in_time_each}
use Rattle.motion_plant.proofs.laws.cycles_end_with_the_tasks.Goals as goal

pub returns : goal.returns
returns c = λ s program drives h logs ran. in_time_each s h ran.in_time
