-- What expressions are worth. IEC 61131-3 section 3.3 (expressions), in this project's profile: a
-- DINT is a whole number of 32 bits with its sign, and a BOOL is 1 or 0.
use Rattle.std.specs.Prelude.{ℕ, ℤ, pos, neg_ℤ, ◌+ℤ◌, ◌-ℤ◌, ◌*ℤ◌, int_lt, int_le, Bool, false, not, ◌&&◌, ◌||◌, if◌then◌else◌, List, [], ◌∷◌, slice_index_or}
use Rattle.std.specs.Ordering.{int_eq}
use Rattle.std.specs.Int.{int_wrap, w32}
use Rattle.plc_types.specs.declared.outputs.Outputs.{Outputs}
use Rattle.st_tree.specs.declared.expression.Expr.{Expr}
use Rattle.st_tree.specs.declared.expression.Expr.TheOpen.{Expr-F, Term-F}
use Rattle.st_tree.specs.declared.expression.Expr.TheFolds.{fold-Expr}
use Rattle.plc_types.specs.Flags.{is_shown}
use Rattle.plc_types.specs.declared.flag.Flag.{Flag}
use Rattle.st_tree.specs.declared.expression.Operator.{Operator}
use Rattle.st_tree.specs.declared.expression.Operator.TheVariants.{Or, And, Equal, Different, Below, AtMost, Above, AtLeast, Plus, Minus, Times}

-- a truth as a number
unfoldable pub truth_of : Bool → ℤ
truth_of b = if b then pos 1 else pos 0

-- whether a number is a truth that holds
unfoldable pub is_true : ℤ → Bool
is_true z = not (int_eq z (pos 0))

-- what an operator makes of two values; a DINT wraps at 32 bits
abbrev pub joined : Operator → ℤ → ℤ → ℤ
joined Or a b = truth_of (is_true a || is_true b)
joined And a b = truth_of (is_true a && is_true b)
joined Equal a b = truth_of (int_eq a b)
joined Different a b = truth_of (not (int_eq a b))
joined Below a b = truth_of (int_lt a b)
joined AtMost a b = truth_of (int_le a b)
joined Above a b = truth_of (int_lt b a)
joined AtLeast a b = truth_of (int_le b a)
joined Plus a b = int_wrap w32 (a +ℤ b)
joined Minus a b = int_wrap w32 (a -ℤ b)
joined Times a b = int_wrap w32 (a *ℤ b)

-- the negative of a DINT, which wraps too
abbrev pub negative_of : ℤ → ℤ
negative_of a = int_wrap w32 (neg_ℤ a)

-- the contrary of a truth
abbrev pub contrary_of : ℤ → ℤ
contrary_of a = truth_of (not (is_true a))

-- the outputs of a block that has not replied yet
abbrev pub silent : Outputs
silent = record {
  busy = false;
  active = false;
  done = false;
  aborted = false;
  error = false;
  error_id = 0;
  reached = false;
}

-- the value of a variable
unfoldable pub variable_of : List ℤ → ℕ → ℤ
variable_of vars x = slice_index_or vars x (pos 0)

-- a flag of a block is that of its last reply
unfoldable pub shown_of : List Outputs → ℕ → Flag → ℤ
shown_of last k flag = truth_of (is_shown flag (slice_index_or last k silent))

-- a value, by the variables of the task and the last reply of each block
abbrev pub Value : Type 0
Value = List ℤ → List Outputs → ℤ

-- what the terms of a chain make of a value, the first of them first
abbrev pub chained : List (ℤ → Value) → ℤ → Value
chained [] v vars last = v
chained (term ∷ terms) v vars last = chained terms (term v vars last) vars last

-- one level of an expression, with the value of each part in its place
abbrev pub value_step : Expr-F Value (ℤ → Value) → Value
value_step (Expr-F.Number n) vars last = n
value_step (Expr-F.Truth b) vars last = truth_of b
value_step (Expr-F.Variable x) vars last = variable_of vars x
value_step (Expr-F.Flag k flag) vars last = shown_of last k flag
value_step (Expr-F.Negative a) vars last = negative_of (a.value vars last)
value_step (Expr-F.Not a) vars last = contrary_of (a.value vars last)
value_step (Expr-F.Chain first terms) vars last =
    chained terms.items (first.value vars last) vars last

-- a term takes the value of what stands before it
abbrev pub term_step : Term-F Value (ℤ → Value) → ℤ → Value
term_step term v vars last = joined term.operator v (term.operand vars last)

-- the value of an expression
abbrev pub value_of : Expr → Value
value_of = fold-Expr Value (ℤ → Value) value_step term_step
