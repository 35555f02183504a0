-- Parts one after another, and one more after them.
-- for: program_of
use Rattle.std.proofs.Common.{◌≡◌, Result, Ok, Err, OnOk, List, [], ◌∷◌, ◌++◌, map, ap, sym, ◌∙◌, append_assoc, append-nil}
use Rattle.std.specs.List.{flat_map}
use Rattle.std.proofs.lemmas.List.Concat.{flat_map-append}
use Rattle.st_tree.specs.declared.expression.Expr.{Expr}
use Rattle.st_tree.specs.Parts.{Parts, all_of, expr_parts, operands_parts}

pub all_of_push : {X : Type 0} (f : X → Parts) (xs : List X) (x : X) → all_of (map f (xs ++ x ∷ [])) ≡ all_of (map f xs) ++ f x
all_of_push f [] x = append-nil (f x)
all_of_push f (y ∷ ys) x = ap (λ l. f y ++ l) (all_of_push f ys x) ∙ sym (append_assoc (f y) (all_of (map f ys)) (f x))

-- the same after other parts, where the longer list has its own name
pub pushed : {X : Type 0} (f : X → Parts) (front : Parts) (xs ys : List X) (x : X) → ys ≡ xs ++ x ∷ [] → front ++ all_of (map f ys) ≡ (front ++ all_of (map f xs)) ++ f x
pushed f front xs ys x is = ap (λ l. front ++ all_of (map f l)) is ∙ ap (λ l. front ++ l) (all_of_push f xs x) ∙ sym (append_assoc front (all_of (map f xs)) (f x))

-- what an answer that is Ok gives, says what follows
pub on_ok_then : {A E : Type 0} (r : Result A E) (P Q : Type 0) → (P → Q) → OnOk r P → OnOk r Q
on_ok_then (Ok x) P Q then_so h = then_so h
on_ok_then (Err e) P Q then_so h = tt

-- one operand more
pub with_operand : (old new : List Expr) (e : Expr) → new ≡ old ++ e ∷ [] → operands_parts new ≡ operands_parts old ++ expr_parts e
with_operand old new e is = ap operands_parts is ∙ all_of_push expr_parts old e

-- the last operand is changed
pub last_changed : (old rest : List Expr) (a : Expr) (made p after : Parts) → old ≡ rest ++ a ∷ [] → made ≡ expr_parts a ++ p →
    after ≡ operands_parts rest ++ made → after ≡ operands_parts old ++ p
last_changed old rest a made p after is is_made is_after =
    is_after ∙ ap (λ l. operands_parts rest ++ l) is_made ∙ sym (append_assoc (operands_parts rest) (expr_parts a) p) ∙
    ap (λ l. l ++ p) (sym (with_operand rest old a is))

-- the last two are joined
pub last_joined : (old between rest : List Expr) (a b : Expr) (made term p after : Parts) → old ≡ between ++ b ∷ [] → between ≡ rest ++ a ∷ [] →
    term ≡ expr_parts b ++ p → made ≡ expr_parts a ++ term → after ≡ operands_parts rest ++ made → after ≡ operands_parts old ++ p
last_joined old between rest a b made term p after is is_between is_term is_made is_after =
    last_changed old between b term p after is is_term (last_changed between rest a made term after is_between is_made is_after)

-- one item more spells what follows
pub pushed_over : {X : Type 0} (f : X → Parts) (all : Parts) (xs ys : List X) (x : X) (left rest : Parts) →
    all ≡ all_of (map f xs) ++ left → left ≡ f x ++ rest → ys ≡ xs ++ x ∷ [] → all ≡ all_of (map f ys) ++ rest
pushed_over f all xs ys x left rest is_all is_left is =
    is_all ∙ ap (λ l. all_of (map f xs) ++ l) is_left ∙ sym (append_assoc (all_of (map f xs)) (f x) rest) ∙
    ap (λ l. l ++ rest) (sym (ap (λ l. all_of (map f l)) is ∙ all_of_push f xs x))

-- lists of anything, joined by `flat_map`
pub joined_push : {X Y : Type 0} (f : X → List Y) (xs ys : List X) (x : X) → ys ≡ xs ++ x ∷ [] → flat_map f ys ≡ flat_map f xs ++ f x
joined_push f xs ys x is = ap (λ l. flat_map f l) is ∙ flat_map-append f xs (x ∷ []) ∙ ap (λ l. flat_map f xs ++ l) (append-nil (f x))

-- the same of lists of anything, joined by `flat_map`
pub joined_over : {X Y : Type 0} (f : X → List Y) (all : List Y) (xs ys : List X) (x : X) (left rest : List Y) →
    all ≡ flat_map f xs ++ left → left ≡ f x ++ rest → ys ≡ xs ++ x ∷ [] → all ≡ flat_map f ys ++ rest
joined_over f all xs ys x left rest is_all is_left is =
    is_all ∙ ap (λ l. flat_map f xs ++ l) is_left ∙ sym (append_assoc (flat_map f xs) (f x) rest) ∙
    ap (λ l. l ++ rest) (sym (joined_push f xs ys x is))
