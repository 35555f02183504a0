use Rattle.std.proofs.Common.{ap, Ok}
use Rattle.std.proofs.KnownBytes.{Consumes-trans}
use Rattle.outside.proofs.Beginnings.{begins-kept}
use Rattle.outside.proofs.host_files.read_within.Goals as goal

-- what was read before and the piece that goes past the budget
pub returns-then-not-branch-clause-beginning : goal.returns-then-not-branch-clause-beginning
returns-then-not-branch-clause-beginning g c =
    let given = Consumes-trans _ _ _ _ _ c.loop.invariant.taken c.in-Ok.ensures.bytes.0 in
    λ e. begins-kept _ _ _ _ _ _ given (c.in_ok-take_within-in-Ok.ensures.cut (ap Ok c.if-not-branch.true))
