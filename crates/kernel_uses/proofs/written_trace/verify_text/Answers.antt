-- The trace that was read was verified.
use Rattle.kernel_uses.proofs.Verdicts.{verified-on}
use Rattle.kernel_uses.proofs.written_trace.verify_text.Goals as goal

pub returns-in-Ok : goal.returns-in-Ok
returns-in-Ok c = verified-on _ _ _ c.in-Ok.ensures.reading c.verify.ensures
