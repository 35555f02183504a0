-- What the history of a run keeps. This project's profile.
use Rattle.motion_kernel.specs.Histories.{IsLegal}
use Rattle.motion_laws.specs.Headline.{KeepsHeadline}
use Rattle.st_rounds.specs.Cell.{Cell}
use Rattle.st_rounds.specs.Rounds.{run_of}

-- the history of a machine's run with its tasks is legal, and its motion is as the headline says
pub record IsLegalRun (c : Cell) : Type 0 where
  pub legal : IsLegal c.setup (run_of c).history
  pub motion : KeepsHeadline c.setup (run_of c).history
