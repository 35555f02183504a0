-- The flags of a block's outputs, and their names in texts. PLCopen Motion Control Part 1.
use Rattle.std.specs.Prelude.{ℕ, Bool, codes, Option, List, [], ◌∷◌}
use Rattle.std.specs.List.{find}
use Rattle.std.specs.Str.{bytes_eq}
use Rattle.plc_types.specs.declared.flag.Flag.{Flag}
use Rattle.plc_types.specs.declared.flag.Flag.TheVariants.{Busy, Active, Done, Aborted, Error, Reached}
use Rattle.plc_types.specs.declared.outputs.Outputs.{Outputs}

-- the flags, in the order of a block's outputs
abbrev pub flags : List Flag
flags = Busy ∷ Active ∷ Done ∷ Aborted ∷ Error ∷ Reached ∷ []

-- the name of each flag
unfoldable pub flag_name : Flag → List ℕ
flag_name Busy = codes "busy"
flag_name Active = codes "active"
flag_name Done = codes "done"
flag_name Aborted = codes "aborted"
flag_name Error = codes "error"
flag_name Reached = codes "reached"

-- the flag of this name
unfoldable pub flag_named : List ℕ → Option Flag
flag_named name = find (λ f. bytes_eq (flag_name f) name) flags

-- what the outputs of a block say of a flag
abbrev pub is_shown : Flag → Outputs → Bool
is_shown Busy o = o.busy
is_shown Active o = o.active
is_shown Done o = o.done
is_shown Aborted o = o.aborted
is_shown Error o = o.error
is_shown Reached o = o.reached
