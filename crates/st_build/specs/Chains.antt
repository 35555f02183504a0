-- Chains: operands of one level of the grammar, joined from the left. IEC 61131-3, "Expressions";
-- which operators have a level of their own is this project's grammar in docs/formats.md.
use Rattle.std.specs.Prelude.{◌≡◌, Bool, true, false, if◌then◌else◌, Option, List, [], ◌∷◌, ◌++◌, ◌-◌, length, slice_get}
use Rattle.std.specs.Option.{option_map_or}
use Rattle.st_tree.specs.declared.expression.Expr.{Expr}
use Rattle.st_tree.specs.declared.expression.Expr.TheOpen.{Expr-F}
use Rattle.st_tree.specs.declared.expression.Expr.TheViews.{out-Expr}
use Rattle.st_tree.specs.declared.expression.Operator.{Operator}
use Rattle.st_tree.specs.declared.expression.Operator.TheVariants as operator
use Rattle.st_tree.specs.declared.expression.Term.{Term}

-- whether two operators are of one level that may have more than two operands
abbrev pub are_of_one_level : Operator → Operator → Bool
are_of_one_level operator.Or operator.Or = true
are_of_one_level operator.And operator.And = true
are_of_one_level operator.Plus operator.Plus = true
are_of_one_level operator.Plus operator.Minus = true
are_of_one_level operator.Minus operator.Plus = true
are_of_one_level operator.Minus operator.Minus = true
are_of_one_level operator.Times operator.Times = true
are_of_one_level _ _ = false

-- the terms of a chain; an operand that is none has no terms
abbrev pub terms_in : Expr-F Expr Term → List Term
terms_in (Expr-F.Chain first terms) = terms.items
terms_in _ = []

-- the first operand of a chain; of one that is none, itself
abbrev pub first_in : Expr → Expr-F Expr Term → Expr
first_in e (Expr-F.Chain first terms) = first.value
first_in e _ = e

abbrev pub terms_of : Expr → List Term
terms_of e = terms_in (out-Expr e)

abbrev pub first_of : Expr → Expr
first_of e = first_in e (out-Expr e)

-- the last term
abbrev pub last_of : List Term → Option Term
last_of terms = slice_get terms (length terms - 1)

-- whether an operand is a chain that goes on with an operator: that of its last term is of one
-- level with it
abbrev pub goes_on : Expr → Operator → Bool
goes_on e op = option_map_or (λ (t : Term). are_of_one_level t.operator op) (last_of (terms_of e)) false

-- an operand and a term are joined: a chain that goes on is one term longer, and another operand
-- begins one
pub record IsJoined (first : Expr) (term : Term) (e : Expr) : Type 0 where
  pub operand : first_of e ≡ (if goes_on first term.operator then first_of first else first)
  pub terms : terms_of e ≡
      (if goes_on first term.operator then terms_of first ++ term ∷ [] else term ∷ [])
