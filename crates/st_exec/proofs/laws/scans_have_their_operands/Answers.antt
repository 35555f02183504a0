-- Scans have their operands.
use Rattle.st_exec.proofs.Wholes.{scan_whole}
use Rattle.st_exec.proofs.laws.scans_have_their_operands.Goals as goal

pub returns : goal.returns
returns c = scan_whole
