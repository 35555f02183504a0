-- A Reset of an axis or a group that is pending (PLCopen Motion Control Part 1, MC_Reset; Part 4,
-- MC_GroupReset).
use Rattle.std.specs.Prelude.{ℕ, Option, Some, None, List, []}
use Rattle.command_pool.specs.Waiting.{told_to, without}
use Rattle.command_pool.specs.declared.ending.Finish.TheVariants as finish
use Rattle.command_pool.specs.declared.notes.Note.{Note}
use Rattle.buffer_modes.specs.declared.reset.PendingReset.{PendingReset}

-- the owner of a pending Reset
abbrev pub reset_owner : Option PendingReset → Option ℕ
reset_owner None = None
reset_owner (Some p) = p.owner

-- a pending Reset without this owner
abbrev pub reset_without : ℕ → Option PendingReset → Option PendingReset
reset_without owner None = None
reset_without owner (Some p) = Some (record { owner = without owner p.owner })

-- what is reported of a pending Reset that another one replaces
abbrev pub replaced_note : Option PendingReset → List Note
replaced_note None = []
replaced_note (Some p) = told_to p.owner finish.Aborted
