-- The records of a header by their places, as they are written. This project's profile.
use Rattle.std.specs.Prelude.{ℕ, Option, Some, None, List, [], ◌∷◌, map}
use Rattle.command_pool.specs.declared.wanted.Wanted.{Wanted}
use Rattle.segment_text.specs.WantedFields.{waiting_fields}

-- the axis or group of a number, if it is there, and the commands that wait for it
abbrev pub object_at : {X : Type 0} → (ℕ → X → List (List ℕ)) → (ℕ → List Wanted) → ℕ →
    Option X → List (List (List ℕ))
object_at fields queue n None = []
object_at fields queue n (Some x) = fields n x ∷ map waiting_fields (queue n)

-- the record of a number, if it is there
abbrev pub record_at : {X : Type 0} → (ℕ → X → List (List ℕ)) → ℕ → Option X →
    List (List (List ℕ))
record_at fields n None = []
record_at fields n (Some x) = fields n x ∷ []
