-- Which instance has a command, how often, and how often it is notified of an end (PLCopen Motion
-- Control Part 1, general rules).
use Rattle.std.specs.Prelude.{◌≡◌, ℕ, ◌+◌, Bool, true, false, not, nat_eq, Option, Some, None, List, [], ◌∷◌}
use Rattle.command_pool.specs.Waiting.{without}
use Rattle.command_pool.specs.declared.notes.Note.{Note}
use Rattle.command_pool.specs.declared.wanted.Wanted.{Wanted}

-- the instance that has a command
abbrev pub owner_by : Option Wanted → Option ℕ
owner_by None = None
owner_by (Some w) = w.owner

-- an active command without this owner
abbrev pub active_without : ℕ → Option Wanted → Option Wanted
active_without owner None = None
active_without owner (Some w) = Some (record w { owner = without owner w.owner })

-- whether nobody holds a state of stopping: no instance has it, or its Execute is false. MC_Stop
-- and MC_GroupStop
abbrev pub is_released : Option ℕ → Bool → Bool
is_released None held = true
is_released (Some owner) held = not held

-- 1 where an owner is this instance, else 0
abbrev pub one_of : Bool → ℕ
one_of true = 1
one_of false = 0

unfoldable pub owner_count : ℕ → Option ℕ → ℕ
owner_count k None = 0
owner_count k (Some owner) = one_of (nat_eq owner k)

-- how many of the commands that wait this instance has
abbrev pub waits_of : ℕ → List Wanted → ℕ
waits_of k [] = 0
waits_of k (w ∷ ws) = owner_count k w.owner + waits_of k ws

-- how many of some notes are for this instance
abbrev pub ends_given : ℕ → List Note → ℕ
ends_given k [] = 0
ends_given k (n ∷ ns) = owner_count k (Some n.owner) + ends_given k ns

-- commands that are the same but for the instance that has them
abbrev pub IsSame : Option Wanted → Option Wanted → Type 0
IsSame None None = Unit {0}
IsSame None (Some v) = ⊥
IsSame (Some w) None = ⊥
IsSame (Some w) (Some v) = record v { owner = None } ≡ record w { owner = None }
