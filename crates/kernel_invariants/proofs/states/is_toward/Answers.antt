-- Both lead to the same positions.
use Rattle.kernel_invariants.proofs.Toward.{toward_by}
use Rattle.kernel_invariants.proofs.states.is_toward.Goals as goal

pub returns-else-not-is_line : goal.returns-else-not-is_line
returns-else-not-is_line c =
    toward_by c.args.on.now c.in-Some-Some.wanted c.in-Some-Some.track c.eq.result
    c.in-Some-Some.is-0 c.in-Some-Some.is-1 (c.is_line.ensures.0 c.if-not-is_line.false) c.eq.ensures
