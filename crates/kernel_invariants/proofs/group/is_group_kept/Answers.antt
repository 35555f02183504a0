-- The parts are the whole.
use Rattle.kernel_invariants.proofs.Groups.{parts_of, whole_of}
use Rattle.kernel_invariants.proofs.group.is_group_kept.Goals as goal

pub returns-then-is_on_its_way : goal.returns-then-is_on_its_way
returns-then-is_on_its_way c =
    let way = c.is_on_its_way.ensures.0 c.if-is_on_its_way.true in (
      λ h. whole_of _ _ _ _ c.requires.axes c.requires.ranges way.0 way.1 (c.is_queue_kept.ensures.0 h),
      λ k. c.is_queue_kept.ensures.1 (parts_of _ _ _ _ c.requires.axes k).queue,
    )

pub returns-else-is_on_its_way : goal.returns-else-is_on_its_way
returns-else-is_on_its_way c =
    let fails = c.if-is_on_its_way.false in (
      λ h. absurd (cc),
      λ k.
          let passes = c.is_on_its_way.ensures.1 (parts_of _ _ _ _ c.requires.axes k).way in
          absurd (cc),
    )
