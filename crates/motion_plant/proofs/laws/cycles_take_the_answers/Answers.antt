-- A run says it of the entries that the cycles made.
use Rattle.motion_plant.proofs.CycleLaws.{driven_each}
use Rattle.motion_plant.proofs.laws.cycles_take_the_answers.Goals as goal

pub returns : goal.returns
returns c = λ s program drives h logs ran. driven_each s drives h ran.driven
