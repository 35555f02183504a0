-- The fields of commands in a trace segment's header. This project's profile.
use Rattle.std.specs.Prelude.{ℕ, ℤ, Option, Some, None, List, [], ◌∷◌, ◌++◌, codes, map}
use Rattle.std.specs.Fmt.{signed_decimal}
use Rattle.command_pool.specs.declared.rates.Rates.{Rates}
use Rattle.command_pool.specs.declared.wanted.Wanted.{Wanted}
use Rattle.plc_types.specs.KindNames.{kind_name, mode_name}
use Rattle.segment_text.specs.Fields.{follow_fields, owner_text, target_text}

-- numbers, each in a field
abbrev pub numbers_fields : List ℤ → List (List ℕ)
numbers_fields numbers = map signed_decimal numbers

-- Velocity, Acceleration and Deceleration, in internal units and per cycle
abbrev pub rates_fields : Rates → List (List ℕ)
rates_fields r = numbers_fields (r.v ∷ r.a ∷ r.d ∷ [])

-- the kind of a command, its owner, its target, and its buffer mode
abbrev pub kind_fields : Wanted → List (List ℕ)
kind_fields w =
    kind_name w.kind ∷ owner_text w.owner ∷ target_text w.target ∷ mode_name w.mode ∷ []

-- a command: these, its positions, its rates, and whom it follows
unfoldable pub wanted_fields : Wanted → List (List ℕ)
wanted_fields w =
    kind_fields w ++ (numbers_fields w.targets ++ (rates_fields w.rates ++ follow_fields w.follow))

-- the active command, if there is one
unfoldable pub active_fields : Option Wanted → List (List ℕ)
active_fields None = []
active_fields (Some w) = wanted_fields w

-- a command that waits, after its axis or group
abbrev pub waiting_fields : Wanted → List (List ℕ)
waiting_fields w = codes "waiting" ∷ wanted_fields w
