-- The replies of a block in a trace. This project's profile.
use Rattle.std.specs.Prelude.{ℕ, ◌==◌, if◌then◌else◌, List, [], ◌∷◌}
use Rattle.std.specs.List.{flat_map}
use Rattle.plc_types.specs.declared.outputs.Outputs.{Outputs}
use Rattle.motion_history.specs.Entries.{Entry, call, cycle, end_of}

-- the reply of a call, where it is a call of this block
abbrev pub reply_of : ℕ → ℕ → Outputs → List Outputs
reply_of block called reply = if called == block then reply ∷ [] else []

-- the replies of a block in an entry, by the number of the block
abbrev pub replies_in : ℕ → Entry → List Outputs
replies_in block (call called inputs reply) = reply_of block called reply
replies_in block (cycle n rows groups) = []
replies_in block (end_of task) = []

-- and in all entries
abbrev pub replies_of : ℕ → List Entry → List Outputs
replies_of block es = flat_map (replies_in block) es
