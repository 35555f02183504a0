-- The three parts together.
use Rattle.kernel_invariants.proofs.owners.kinds.are_of.Goals as goal

pub returns-then-is_of : goal.returns-then-is_of
returns-then-is_of c = (
  λ t. let both = c.is_of.ensures.0 c.if-is_of.true in
      record { command = both.0; own = both.1; queue = c.are_of_blocks.ensures.0 t },
  λ h. c.are_of_blocks.ensures.1 h.queue,
)
