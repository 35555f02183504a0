-- Where a reader of parts stands, and which parts may follow: parts that lead it from outside of the
-- tasks to there again are those of trees. This project's profile.
use Rattle.std.specs.Prelude.{◌≡◌, ◌≤◌, ℕ, ◌+◌, ◌-◌, zero, suc, Bool, true, false, Option, Some, None, List, [], ◌∷◌, length}
use Rattle.std.specs.Option.{option_and_then}
use Rattle.st_tree.specs.Parts.{Parts}
use Rattle.st_tree.specs.declared.part.Part.{Part}
use Rattle.st_tree.specs.declared.part.Part.TheVariants as part

-- what statements stand in: an `IF` before its `ELSE`, a branch of a `CASE`, or the part of an `IF`
-- or a `CASE` after its `ELSE`
pub data Around : Type 0 where
  Then : Around
  Branch : Around
  Otherwise : Bool → Around

-- where a reader stands: outside of the tasks; among declarations; in statements, or among the keys
-- of a call, with this many operands that wait, and what is around it, the nearest first; or before
-- the first branch of a `CASE`
pub data Place : Type 0 where
  Outside : Place
  Declaring : Place
  Inside : ℕ → Bool → List Around → Place
  Selected : List Around → Place

-- one operand more waits
abbrev pub operand : Place → Option Place
operand (Inside n keys around) = Some (Inside (suc n) keys around)
operand _ = None

-- the last operand is changed
abbrev pub changed : Place → Option Place
changed (Inside (suc n) keys around) = Some (Inside (suc n) keys around)
changed _ = None

-- the last two operands are joined
abbrev pub joined : Place → Option Place
joined (Inside (suc (suc n)) keys around) = Some (Inside (suc n) keys around)
joined _ = None

-- where a part leads to, if it may stand there
abbrev pub after : Part → Place → Option Place
after part.Task Outside = Some Declaring
after (part.Declared start) Declaring = Some Declaring
after (part.Body blocks) Declaring = Some (Inside zero false [])
after part.TaskEnd (Inside zero false []) = Some Outside
after (part.Number n) place = operand place
after (part.Truth b) place = operand place
after (part.Variable x) place = operand place
after (part.Flag k flag) place = operand place
after part.Negative place = changed place
after part.Not place = changed place
after (part.Join op) place = joined place
after (part.Set x) (Inside (suc zero) false around) = Some (Inside zero false around)
after (part.Execute k) (Inside (suc zero) false around) = Some (Inside zero true around)
after (part.Given key) (Inside (suc zero) true around) = Some (Inside zero true around)
after (part.Mode mode) (Inside zero true around) = Some (Inside zero true around)
after (part.Master axis) (Inside zero true around) = Some (Inside zero true around)
after part.CallEnd (Inside zero true around) = Some (Inside zero false around)
after part.If (Inside (suc zero) false around) = Some (Inside zero false (Then ∷ around))
after part.Case (Inside (suc zero) false around) = Some (Selected around)
after (part.Branch v) (Selected around) = Some (Inside zero false (Branch ∷ around))
after (part.Branch v) (Inside zero false (Branch ∷ around)) =
    Some (Inside zero false (Branch ∷ around))
after part.Else (Inside zero false (Then ∷ around)) =
    Some (Inside zero false (Otherwise false ∷ around))
after part.Else (Inside zero false (Branch ∷ around)) =
    Some (Inside zero false (Otherwise true ∷ around))
after part.Else (Selected around) = Some (Inside zero false (Otherwise true ∷ around))
after part.EndIf (Inside zero false (Otherwise false ∷ around)) = Some (Inside zero false around)
after part.EndCase (Inside zero false (Otherwise true ∷ around)) = Some (Inside zero false around)
after _ _ = None

-- where parts lead to, one after another, by what each does
abbrev pub lead : {X : Type 0} → (Part → X → Option X) → X → Parts → Option X
lead step x [] = Some x
lead step x (p ∷ ps) = option_and_then (λ y. lead step y ps) (step p x)

-- parts lead from a place to the end of the last task
abbrev pub Leads : Place → Parts → Type 0
Leads place parts = lead after place parts ≡ Some Outside

-- whether a part is one of an expression
abbrev pub is_of_expression : Part → Bool
is_of_expression (part.Number n) = true
is_of_expression (part.Truth b) = true
is_of_expression (part.Variable x) = true
is_of_expression (part.Flag k flag) = true
is_of_expression part.Negative = true
is_of_expression part.Not = true
is_of_expression (part.Join op) = true
is_of_expression _ = false

-- whether parts begin with one of an expression
abbrev pub begins : Parts → Bool
begins [] = false
begins (p ∷ parts) = is_of_expression p

-- how many operands a part changes or joins
abbrev pub operands_for : Part → ℕ
operands_for part.Negative = 1
operands_for part.Not = 1
operands_for (part.Join op) = 2
operands_for _ = 0

-- how many operands wait after a part of an expression
abbrev pub operands_after : Part → ℕ → ℕ
operands_after part.Negative n = n
operands_after part.Not n = n
operands_after (part.Join op) n = n - 1
operands_after _ n = suc n

-- whether parts begin with a declaration
abbrev pub declares : Parts → Bool
declares (part.Declared start ∷ parts) = true
declares _ = false

-- whether they begin with the end of a call
abbrev pub ends_call : Parts → Bool
ends_call (part.CallEnd ∷ parts) = true
ends_call _ = false

-- whether they begin with a branch
abbrev pub branches : Parts → Bool
branches (part.Branch v ∷ parts) = true
branches _ = false

-- how many names parts want: one for each task and each variable
abbrev pub names_in : Parts → ℕ
names_in [] = 0
names_in (part.Task ∷ parts) = suc (names_in parts)
names_in (part.Declared start ∷ parts) = suc (names_in parts)
names_in (_ ∷ parts) = names_in parts

-- how many blocks they declare
abbrev pub blocks_in : Parts → ℕ
blocks_in [] = 0
blocks_in (part.Body blocks ∷ parts) = blocks + blocks_in parts
blocks_in (_ ∷ parts) = blocks_in parts

-- names and parts are those of trees that come after this many blocks, and blocks have numbers of 16
-- bits
pub record AreOfTrees (before : ℕ) (names : List (List ℕ)) (parts : Parts) : Type 0 where
  pub leads : Leads Outside parts
  pub named : length names ≡ names_in parts
  pub few : before + blocks_in parts ≤ 65535

-- parts are those from a place on in statements, with what is around it
pub record IsInside (operands : ℕ) (keys : Bool) (parts : Parts) : Type 0 where
  pub around : List Around
  pub leads : Leads (Inside operands keys around) parts

-- they are those from the first branch of a `CASE` on
pub record IsSelected (parts : Parts) : Type 0 where
  pub around : List Around
  pub leads : Leads (Selected around) parts

-- parts that are gone over lead from a place to another, and declare nothing
pub record Passes (from to : Place) (old new : Parts) : Type 0 where
  pub leads : Leads from old → Leads to new
  pub names : names_in old ≡ names_in new
  pub blocks : blocks_in old ≡ blocks_in new
