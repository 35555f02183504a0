-- The pool after the commands were ended and the line waits.
use Rattle.group_core.proofs.Pools.{only-pushed}
use Rattle.group_core.proofs.calls.brake_for.Goals as goal

pub returns-clause-others : goal.returns-clause-others
returns-clause-others c =
    only-pushed c.push_last.result _ _ _ _ _ c.requires.list c.end_all.ensures.others c.push_last.ensures.added c.push_last.ensures.unchanged
