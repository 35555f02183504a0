-- Code before other code: a jump that leads to where this many instructions are left.
use Rattle.std.specs.Prelude.{ℕ, ◌+◌, ◌-◌, ℤ, List, [], ◌∷◌, ◌++◌, length}
use Rattle.st_exec.specs.Code.{Code}
use Rattle.st_exec.specs.declared.instruction.Act.TheVariants.{Pass, Take}
use Rattle.st_exec.specs.declared.instruction.Use.TheVariants.{Match}
use Rattle.st_exec.specs.declared.instruction.Instruction.TheVariants.{Do}

-- a side of a choice, and a jump to where this many of the instructions that come are left
abbrev pub side_over : Code → ℕ → Code → Code
side_over side left others = side ++ (Do (Pass (length others - left)) ∷ others)

-- branches, each with such a jump
abbrev pub branches_over : List (ℤ × Code) → ℕ → Code → Code
branches_over [] left others = others
branches_over (branch ∷ branches) left others =
    Do (Take (Match branch.0 (length branch.1 + 1))) ∷
    side_over branch.1 left (branches_over branches left others)
