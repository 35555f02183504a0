-- What the history of a bench's run keeps. This project's profile.
use Rattle.bench_text.specs.BenchState.{BenchState}
use Rattle.motion_kernel.specs.Histories.{IsLegal}
use Rattle.motion_laws.specs.Headline.{KeepsHeadline}
use Rattle.bench_run.specs.Run.{run_of}

-- the history of a bench's run is legal, and its motion is as the headline says
pub record IsLegalRun (b : BenchState) : Type 0 where
  pub legal : IsLegal b.config (run_of b).history
  pub motion : KeepsHeadline b.config (run_of b).history
