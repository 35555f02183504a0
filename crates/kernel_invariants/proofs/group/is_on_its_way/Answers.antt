-- Both parts are the whole.
use Rattle.kernel_invariants.proofs.group.is_on_its_way.Goals as goal

pub returns-then-is_ordered : goal.returns-then-is_ordered
returns-then-is_ordered c = (
  λ h. (c.is_ordered.ensures.0 c.if-is_ordered.true, c.has_path.ensures.0 h),
  λ k. c.has_path.ensures.1 k.1,
)
