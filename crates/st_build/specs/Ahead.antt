-- What stands ahead of a builder. This project's profile.
use Rattle.std.specs.Prelude.{◌≡◌, ℕ, zero, Bool, true, false, List, ◌∷◌, length}
use Rattle.st_tree.specs.Parts.{Parts}
use Rattle.st_tree.specs.Places.{Around, Declaring, Inside, Leads, Then, begins, names_in}

-- parts begin with an expression, in statements or among keys
pub record IsAtExpression (parts : Parts) : Type 0 where
  pub keys : Bool
  pub around : List Around
  pub leads : Leads (Inside zero keys around) parts
  pub begun : begins parts ≡ true

-- parts are those from the statements of an `IF` on
pub record IsInThen (parts : Parts) : Type 0 where
  pub around : List Around
  pub leads : Leads (Inside zero false (Then ∷ around)) parts

-- names and parts are those from declarations on
pub record AreDeclared (names : List (List ℕ)) (parts : Parts) : Type 0 where
  pub leads : Leads Declaring parts
  pub named : length names ≡ names_in parts
