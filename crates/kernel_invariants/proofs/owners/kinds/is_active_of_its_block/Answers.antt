-- The active command is of its block where it is there.
use Rattle.kernel_invariants.proofs.owners.kinds.is_active_of_its_block.Goals as goal

pub returns-in-Some : goal.returns-in-Some
returns-in-Some c = rw c.in-Some.is c.is_of_its_block.ensures
