-- The calls of a scan come in order.
use Rattle.st_exec.proofs.Steady.{asks_in_order}
use Rattle.st_exec.proofs.laws.scans_ask_in_order.Goals as goal

pub returns : goal.returns
returns c = asks_in_order
