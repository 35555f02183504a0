use Rattle.load_job.proofs.LoadLaws.{loads-fill}
use Rattle.load_job.proofs.laws.loads_fill_their_room.Goals as goal

pub returns : goal.returns
returns c = loads-fill
