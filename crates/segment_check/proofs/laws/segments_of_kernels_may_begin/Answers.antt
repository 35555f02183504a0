-- A kernel's own segments may begin, since its machines can stand.
use Rattle.segment_check.proofs.OwnLaws.{MachinesCanStand, first_begins, next_begins}
use Rattle.segment_check.proofs.laws.segments_of_kernels_may_begin.Goals as goal

laws : (c : goal.After-machines_can_stand) → MachinesCanStand
laws c = record {
  opened = c.machines_can_stand.ensures.opened;
  segment = c.machines_can_stand.ensures.segment;
}

pub returns-clause-first : goal.returns-clause-first
returns-clause-first c = first_begins (laws c)

pub returns-clause-next : goal.returns-clause-next
returns-clause-next c = next_begins (laws c)
