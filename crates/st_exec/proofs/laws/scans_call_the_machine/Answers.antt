-- Scans call the machine.
use Rattle.st_exec.proofs.FitCalls.{scan_calls}
use Rattle.st_exec.proofs.laws.scans_call_the_machine.Goals as goal

pub returns : goal.returns
returns c = scan_calls
