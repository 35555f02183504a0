-- A run ended so.
use Rattle.motion_cli.proofs.AskedLaws.{asked-as}
use Rattle.motion_cli.proofs.serve.serve_request.Goals as goal

pub returns-in-Run-clause-ends : goal.returns-in-Run-clause-ends
returns-in-Run-clause-ends g c =
    asked-as _ _ _ _ _ _ _ _ _ c.in-Run.is c.run_files.ensures.ends
