-- Segments that follow each other are one past.
use Rattle.motion_history.specs.Entries.{cycles_of}
use Rattle.std.specs.Prelude.{◌++◌}
use Rattle.motion_kernel.specs.Segments.{counted_on}
use Rattle.motion_kernel.specs.Machine.{machine_at_opening}
use Rattle.motion_laws.proofs.history_laws.segments_keep_their_laws.Goals as goal

pub returns-clause-first : goal.returns-clause-first
returns-clause-first c s segment legal = record { follows = legal.follows }

pub returns-clause-past : goal.returns-clause-past
returns-clause-past c s past segment before legal = record { follows = c.segments_join.ensures.follows s (machine_at_opening s) past segment before.follows legal }

pub returns-clause-machine : goal.returns-clause-machine
returns-clause-machine c s past segment = c.segments_join.ensures.machine s (machine_at_opening s) past segment

pub returns-clause-laws : goal.returns-clause-laws
returns-clause-laws c s past segment setup whole before legal =
    c.pasts_keep_their_laws.ensures s (past ++ counted_on (cycles_of past) segment) setup whole
    (record { follows = c.segments_join.ensures.follows s (machine_at_opening s) past segment before.follows legal })
