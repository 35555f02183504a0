-- The lines that say how a trace was verified. This project's profile.
use Rattle.std.specs.Prelude.{ℕ, codes, decimal, List, [], ◌∷◌, ◌++◌}
use Rattle.std.specs.List.{flat_map}
use Rattle.trace_check.specs.declared.difference.Difference.{Difference}

-- a record as it is shown: its fields with commas between them
abbrev pub joined : List (List ℕ) → List ℕ
joined [] = []
joined (f ∷ fs) = f ++ flat_map (λ g. 44 ∷ g) fs

-- the line that says that a trace is legal, with this many entries
abbrev pub legal_line : ℕ → List ℕ
legal_line entries = codes "legal " ++ decimal entries ++ codes "\n"

-- the lines that give the first record of a trace that is not the machine's
abbrev pub illegal_lines : Difference → List ℕ
illegal_lines d =
    codes "illegal " ++ decimal d.place ++ codes "\nexpected " ++ joined d.expected ++
    codes "\nfound " ++ joined d.found ++ codes "\n"
