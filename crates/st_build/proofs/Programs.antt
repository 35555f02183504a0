-- Trees whose parts fit a machine are a program of it.
-- for: read_st
use Rattle.std.proofs.Common.{◌≡◌, ℕ, suc, ◌+◌, ◌-◌, Bool, true, false, Option, Some, None, List, [], ◌∷◌, ◌++◌, map, length, refl, sym, subst, ap, ◌∙◌, append_assoc, arith}
use Rattle.std.specs.Prelude.{◌==◌, IsTrue, slice_get}
use Rattle.std.specs.List.{flat_map, list_all}
use Rattle.std.specs.Option.{option_and_then}
use Rattle.std.proofs.lemmas.Bool.{and_from}
use Rattle.motion_history.specs.Setup.{Setup}
use Rattle.motion_history.specs.declared.config.BlockDef.{BlockDef}
use Rattle.st_check.specs.Going.{Going, begun, going_after, is_own, only, takes_key, takes_master, takes_mode}
use Rattle.st_tree.specs.Parts.{Parts, all_of, body_parts, branch_parts, branch_step, declared_parts, expr_parts, expr_step, given_parts, stmt_parts, stmt_step, task_parts, term_parts, term_step}
use Rattle.st_tree.specs.Places.{lead}
use Rattle.st_tree.specs.declared.part.Part.TheVariants as part
use Rattle.st_tree.specs.Fitting.{AreFitting, IsProgramOf, all_true, branch_fits_step, fits, fits_step, is_call_by, is_given}
use Rattle.st_tree.specs.declared.call.Given.{Given}
use Rattle.st_tree.specs.declared.call.Given.TheVariants as given
use Rattle.st_tree.specs.declared.expression.Expr.{Expr}
use Rattle.st_tree.specs.declared.expression.Expr.TheFolds.{ind-Expr, fold-roll-Expr, fold-roll-Term, map-Expr, map-Term}
use Rattle.st_tree.specs.declared.expression.Expr.TheOpen.{Expr-F, Term-F}
use Rattle.st_tree.specs.declared.expression.Expr.TheViews.{roll-Expr, roll-Term}
use Rattle.st_tree.specs.declared.expression.Term.{Term}
use Rattle.st_tree.specs.declared.program.Task.{Task}
use Rattle.st_tree.specs.declared.program.Variable.{Variable}
use Rattle.st_tree.specs.declared.statement.Branch.{Branch}
use Rattle.st_tree.specs.declared.statement.Stmt.{Stmt}
use Rattle.st_tree.specs.declared.statement.Stmt.TheFolds.{ind-Stmt, fold-Branch, fold-roll-Stmt, fold-roll-Branch, map-Stmt, map-Branch}
use Rattle.st_tree.specs.declared.statement.Stmt.TheOpen.{Stmt-F}
use Rattle.st_tree.specs.declared.statement.Stmt.TheViews.{roll-Stmt, roll-Branch}

-- where parts lead what was called
abbrev goes : Setup → Going → Parts → Option Going
goes s g ps = lead (going_after s) g ps

-- whether each call inside a branch fits the machine
abbrev branch_fits : Setup → ℕ → Branch → Bool
branch_fits s task = fold-Branch Bool Bool (fits_step s task) branch_fits_step

-- ---- expressions call nothing

record Calm (e : Expr) : Type 0 where
  calm : (s : Setup) (g : Going) (rest : Parts) → goes s g (expr_parts e ++ rest) ≡ goes s g rest

record CalmTerm (t : Term) : Type 0 where
  calm : (s : Setup) (g : Going) (rest : Parts) → goes s g (term_parts t ++ rest) ≡ goes s g rest

terms_calm : (ts : List ((t : Term) × CalmTerm t)) (s : Setup) (g : Going) (rest : Parts) →
    goes s g (all_of (map term_parts (map (λ t. t.0) ts)) ++ rest) ≡ goes s g rest
terms_calm [] s g rest = refl
terms_calm (t ∷ ts) s g rest =
    ap (goes s g) (append_assoc (term_parts t.0) (all_of (map term_parts (map (λ t. t.0) ts))) rest) ∙
    t.1.calm s g (all_of (map term_parts (map (λ t. t.0) ts)) ++ rest) ∙ terms_calm ts s g rest

level_calm : (x : Expr-F Expr Term) → ((s : Setup) (g : Going) (rest : Parts) → goes s g (expr_step (map-Expr _ _ _ _ expr_parts term_parts x) ++ rest) ≡ goes s g rest) →
    Calm (roll-Expr x)
level_calm x same = record {
  calm = λ s g rest. ap (λ c. goes s g (c ++ rest)) (fold-roll-Expr Parts Parts expr_step term_step x) ∙ same s g rest;
}

parts_calm : (y : Expr-F ((e : Expr) × Calm e) ((t : Term) × CalmTerm t)) → Calm (roll-Expr (map-Expr _ _ _ _ (λ e. e.0) (λ t. t.0) y))
parts_calm (Expr-F.Number n) = level_calm (Expr-F.Number n) (λ s g rest. refl)
parts_calm (Expr-F.Truth b) = level_calm (Expr-F.Truth b) (λ s g rest. refl)
parts_calm (Expr-F.Variable x) = level_calm (Expr-F.Variable x) (λ s g rest. refl)
parts_calm (Expr-F.Flag k flag) = level_calm (Expr-F.Flag k flag) (λ s g rest. refl)
parts_calm (Expr-F.Negative a) = level_calm _ (λ s g rest.
    ap (goes s g) (append_assoc (expr_parts a.value.0) _ rest) ∙ a.value.1.calm s g (part.Negative ∷ rest))
parts_calm (Expr-F.Not a) = level_calm _ (λ s g rest.
    ap (goes s g) (append_assoc (expr_parts a.value.0) _ rest) ∙ a.value.1.calm s g (part.Not ∷ rest))
parts_calm (Expr-F.Chain first terms) = level_calm _ (λ s g rest.
    ap (goes s g) (append_assoc (expr_parts first.value.0) _ rest) ∙ first.value.1.calm s g _ ∙ terms_calm terms.items s g rest)

operand_calm : (y : Term-F ((e : Expr) × Calm e) ((t : Term) × CalmTerm t)) → CalmTerm (roll-Term (map-Term _ _ _ _ (λ e. e.0) (λ t. t.0) y))
operand_calm y = record {
  calm = λ s g rest.
      ap (λ c. goes s g (c ++ rest)) (fold-roll-Term Parts Parts expr_step term_step (map-Term _ _ _ _ (λ e. e.0) (λ t. t.0) y)) ∙
      (ap (goes s g) (append_assoc (expr_parts y.operand.0) _ rest) ∙ y.operand.1.calm s g (part.Join y.operator ∷ rest));
}

expr_calm : (e : Expr) → Calm e
expr_calm = ind-Expr Calm CalmTerm
    (λ x y is. subst (λ z. Calm (roll-Expr z)) is (parts_calm y))
    (λ x y is. subst (λ z. CalmTerm (roll-Term z)) is (operand_calm y))

-- ---- calls

only_then : (b : Bool) (g h : Going) (k : Going → Option Going) → option_and_then k (only b g) ≡ Some h → (b ≡ true) × (k g ≡ Some h)
only_then true g h k is = (refl, is)
only_then false g h k is = absurd (cc)

-- what is given, one after another
given_fit : (s : Setup) (b : BlockDef) (tasks : ℕ) (gs : List Given) (rest : Parts) (h : Going) →
    goes s (record { tasks = tasks; block = Some b }) (all_of (map given_parts gs) ++ rest) ≡ Some h →
    IsTrue (list_all (is_given s b) gs) × (goes s (record { tasks = tasks; block = Some b }) rest ≡ Some h)
given_fit s b tasks [] rest h is = (refl, is)
given_fit s b tasks (given.Number key e ∷ gs) rest h is =
    let g : Going = record { tasks = tasks; block = Some b } in
    let more = all_of (map given_parts gs) in
    let flat : goes s g (((expr_parts e ++ part.Given key ∷ []) ++ more) ++ rest) ≡ goes s g (part.Given key ∷ (more ++ rest)) =
    ap (goes s g) (append_assoc (expr_parts e ++ part.Given key ∷ []) more rest ∙ append_assoc (expr_parts e) (part.Given key ∷ []) (more ++ rest)) ∙
    (expr_calm e).calm s g (part.Given key ∷ (more ++ rest)) in
    let one = only_then (takes_key s (Some b) key) g h (λ y. goes s y (more ++ rest)) (sym flat ∙ is) in
    let others = given_fit s b tasks gs rest h one.1 in
    (and_from _ _ one.0 others.0, others.1)
given_fit s b tasks (given.Mode mode ∷ gs) rest h is =
    let g : Going = record { tasks = tasks; block = Some b } in
    let more = all_of (map given_parts gs) in
    let one = only_then (takes_mode (Some b)) g h (λ y. goes s y (more ++ rest)) is in
    let others = given_fit s b tasks gs rest h one.1 in
    (and_from _ _ one.0 others.0, others.1)
given_fit s b tasks (given.Master axis ∷ gs) rest h is =
    let g : Going = record { tasks = tasks; block = Some b } in
    let more = all_of (map given_parts gs) in
    let one = only_then (takes_master s (Some b) axis) g h (λ y. goes s y (more ++ rest)) is in
    let others = given_fit s b tasks gs rest h one.1 in
    (and_from _ _ one.0 others.0, others.1)

-- what is left after statements of a task
record Left (s : Setup) (n : ℕ) (rest : Parts) (h : Going) : Type 0 where
  going : Going
  tasks : going.tasks ≡ n + 1
  led : goes s going rest ≡ Some h

call_fit : (s : Setup) (n : ℕ) (g h : Going) (o : Option BlockDef) (gs : List Given) (rest : Parts) → g.tasks ≡ n + 1 →
    option_and_then (λ y. goes s y ((all_of (map given_parts gs) ++ part.CallEnd ∷ []) ++ rest)) (only (is_own g.tasks o) (record { tasks = g.tasks; block = o })) ≡ Some h →
    IsTrue (is_call_by s n o gs) × Left s n rest h
call_fit s n g h None gs rest at is = absurd (cc)
call_fit s n g h (Some b) gs rest at is =
    let one = only_then (is_own g.tasks (Some b)) (record { tasks = g.tasks; block = Some b }) h (λ y. goes s y ((all_of (map given_parts gs) ++ part.CallEnd ∷ []) ++ rest)) is in
    let flat : goes s (record { tasks = g.tasks; block = Some b }) (all_of (map given_parts gs) ++ (part.CallEnd ∷ rest)) ≡ Some h =
    ap (goes s (record { tasks = g.tasks; block = Some b })) (sym (append_assoc (all_of (map given_parts gs)) (part.CallEnd ∷ []) rest)) ∙ one.1 in
    let all = given_fit s b g.tasks gs (part.CallEnd ∷ rest) h flat in
    let last : g.tasks - 1 ≡ n = omega (arith, at) in (
      and_from _ _ (ap (λ k. b.task == k) (sym last) ∙ one.0) all.0,
      record { going = record { tasks = g.tasks; block = Some b }; tasks = at; led = all.1 },
    )

-- ---- statements

-- a statement fits where its parts do, and a branch
record StmtFits (s : Setup) (n : ℕ) (t : Stmt) : Type 0 where
  fit : (g h : Going) (rest : Parts) → g.tasks ≡ n + 1 → goes s g (stmt_parts t ++ rest) ≡ Some h → IsTrue (fits s n t) × Left s n rest h

record BranchFits (s : Setup) (n : ℕ) (b : Branch) : Type 0 where
  fit : (g h : Going) (rest : Parts) → g.tasks ≡ n + 1 → goes s g (branch_parts b ++ rest) ≡ Some h → IsTrue (branch_fits s n b) × Left s n rest h

all_fit : (s : Setup) (n : ℕ) (ts : List ((t : Stmt) × StmtFits s n t)) (g h : Going) (rest : Parts) → g.tasks ≡ n + 1 →
    goes s g (all_of (map stmt_parts (map (λ t. t.0) ts)) ++ rest) ≡ Some h → IsTrue (all_true (map (fits s n) (map (λ t. t.0) ts))) × Left s n rest h
all_fit s n [] g h rest at is = (refl, record { going = g; tasks = at; led = is })
all_fit s n (t ∷ ts) g h rest at is =
    let more = all_of (map stmt_parts (map (λ t. t.0) ts)) in
    let one = t.1.fit g h (more ++ rest) at (sym (ap (goes s g) (append_assoc (stmt_parts t.0) more rest)) ∙ is) in
    let others = all_fit s n ts one.1.going h rest one.1.tasks one.1.led in
    (and_from _ _ one.0 others.0, others.1)

branches_fit : (s : Setup) (n : ℕ) (bs : List ((b : Branch) × BranchFits s n b)) (g h : Going) (rest : Parts) → g.tasks ≡ n + 1 →
    goes s g (all_of (map branch_parts (map (λ b. b.0) bs)) ++ rest) ≡ Some h → IsTrue (all_true (map (branch_fits s n) (map (λ b. b.0) bs))) × Left s n rest h
branches_fit s n [] g h rest at is = (refl, record { going = g; tasks = at; led = is })
branches_fit s n (b ∷ bs) g h rest at is =
    let more = all_of (map branch_parts (map (λ b. b.0) bs)) in
    let one = b.1.fit g h (more ++ rest) at (sym (ap (goes s g) (append_assoc (branch_parts b.0) more rest)) ∙ is) in
    let others = branches_fit s n bs one.1.going h rest one.1.tasks one.1.led in
    (and_from _ _ one.0 others.0, others.1)

-- parts around two lists of others, flat
flat_two : (first begin a between b end rest : Parts) →
    (first ++ (begin ++ (a ++ (between ++ (b ++ end))))) ++ rest ≡ first ++ (begin ++ (a ++ (between ++ (b ++ (end ++ rest)))))
flat_two first begin a between b end rest =
    append_assoc first (begin ++ (a ++ (between ++ (b ++ end)))) rest ∙
    ap (λ l. first ++ l) (append_assoc begin (a ++ (between ++ (b ++ end))) rest ∙
    ap (λ l. begin ++ l) (append_assoc a (between ++ (b ++ end)) rest ∙
    ap (λ l. a ++ l) (append_assoc between (b ++ end) rest ∙ ap (λ l. between ++ l) (append_assoc b end rest))))

parts_fit : (s : Setup) (n : ℕ) (y : Stmt-F ((t : Stmt) × StmtFits s n t) ((b : Branch) × BranchFits s n b)) (g h : Going) (rest : Parts) → g.tasks ≡ n + 1 →
    goes s g (stmt_step (map-Stmt _ _ _ _ stmt_parts branch_parts (map-Stmt _ _ _ _ (λ t. t.0) (λ b. b.0) y)) ++ rest) ≡ Some h →
    IsTrue (fits_step s n (map-Stmt _ _ _ _ (fits s n) (branch_fits s n) (map-Stmt _ _ _ _ (λ t. t.0) (λ b. b.0) y))) × Left s n rest h
parts_fit s n (Stmt-F.Set x e) g h rest at is =
    let flat = ap (goes s g) (append_assoc (expr_parts e) (part.Set x ∷ []) rest) ∙ (expr_calm e).calm s g (part.Set x ∷ rest) in
    (refl, record { going = g; tasks = at; led = sym flat ∙ is })
parts_fit s n (Stmt-F.Call k e gs) g h rest at is =
    let all = all_of (map given_parts gs.items) ++ part.CallEnd ∷ [] in
    let flat = ap (goes s g) (append_assoc (expr_parts e) (part.Execute k ∷ all) rest) ∙ (expr_calm e).calm s g (part.Execute k ∷ (all ++ rest)) in
    call_fit s n g h (slice_get s.blocks k) gs.items rest at (sym flat ∙ is)
parts_fit s n (Stmt-F.If e then otherwise) g h rest at is =
    let a = all_of (map stmt_parts (map (λ t. t.0) then.items)) in
    let b = all_of (map stmt_parts (map (λ t. t.0) otherwise.items)) in
    let flat = ap (goes s g) (flat_two (expr_parts e) (part.If ∷ []) a (part.Else ∷ []) b (part.EndIf ∷ []) rest) ∙
    (expr_calm e).calm s g (part.If ∷ (a ++ (part.Else ∷ (b ++ (part.EndIf ∷ rest))))) in
    let one = all_fit s n then.items g h (part.Else ∷ (b ++ (part.EndIf ∷ rest))) at (sym flat ∙ is) in
    let two = all_fit s n otherwise.items one.1.going h (part.EndIf ∷ rest) one.1.tasks one.1.led in
    (and_from _ _ one.0 two.0, record { going = two.1.going; tasks = two.1.tasks; led = two.1.led })
parts_fit s n (Stmt-F.Case e branches otherwise) g h rest at is =
    let a = all_of (map branch_parts (map (λ t. t.0) branches.items)) in
    let b = all_of (map stmt_parts (map (λ t. t.0) otherwise.items)) in
    let flat = ap (goes s g) (flat_two (expr_parts e) (part.Case ∷ []) a (part.Else ∷ []) b (part.EndCase ∷ []) rest) ∙
    (expr_calm e).calm s g (part.Case ∷ (a ++ (part.Else ∷ (b ++ (part.EndCase ∷ rest))))) in
    let one = branches_fit s n branches.items g h (part.Else ∷ (b ++ (part.EndCase ∷ rest))) at (sym flat ∙ is) in
    let two = all_fit s n otherwise.items one.1.going h (part.EndCase ∷ rest) one.1.tasks one.1.led in
    (and_from _ _ one.0 two.0, record { going = two.1.going; tasks = two.1.tasks; led = two.1.led })

stmt_fits : (s : Setup) (n : ℕ) (t : Stmt) → StmtFits s n t
stmt_fits s n = ind-Stmt (StmtFits s n) (BranchFits s n)
    (λ x y is. subst (λ z. StmtFits s n (roll-Stmt z)) is (record {
      fit = λ g h rest at led.
          let inner = map-Stmt _ _ _ _ (λ t. t.0) (λ b. b.0) y in
          let one = parts_fit s n y g h rest at (sym (ap (λ l. goes s g (l ++ rest)) (fold-roll-Stmt Parts Parts stmt_step branch_step inner)) ∙ led) in
          (subst IsTrue (sym (fold-roll-Stmt Bool Bool (fits_step s n) branch_fits_step inner)) one.0, one.1);
    }))
    (λ x y is. subst (λ z. BranchFits s n (roll-Branch z)) is (record {
      fit = λ g h rest at led.
          let inner = map-Branch _ _ _ _ (λ t. t.0) (λ b. b.0) y in
          let one = all_fit s n y.body.items g h rest at (sym (ap (λ l. goes s g (l ++ rest)) (fold-roll-Branch Parts Parts stmt_step branch_step inner)) ∙ led) in
          (subst IsTrue (sym (fold-roll-Branch Bool Bool (fits_step s n) branch_fits_step inner)) one.0, one.1);
    }))

body_fits : (s : Setup) (n : ℕ) (ts : List Stmt) (g h : Going) (rest : Parts) → g.tasks ≡ n + 1 → goes s g (body_parts ts ++ rest) ≡ Some h →
    IsTrue (list_all (fits s n) ts) × Left s n rest h
body_fits s n [] g h rest at is = (refl, record { going = g; tasks = at; led = is })
body_fits s n (t ∷ ts) g h rest at is =
    let one = (stmt_fits s n t).fit g h (body_parts ts ++ rest) at (sym (ap (goes s g) (append_assoc (stmt_parts t) (body_parts ts) rest)) ∙ is) in
    let others = body_fits s n ts one.1.going h rest one.1.tasks one.1.led in
    (and_from _ _ one.0 others.0, others.1)

-- ---- tasks

declared_calm : (s : Setup) (g : Going) (vs : List Variable) (rest : Parts) → goes s g (declared_parts vs ++ rest) ≡ goes s g rest
declared_calm s g [] rest = refl
declared_calm s g (v ∷ vs) rest = declared_calm s g vs rest

tasks_fit : (s : Setup) (n : ℕ) (ts : List Task) (g h : Going) → g.tasks ≡ n → goes s g (flat_map task_parts ts) ≡ Some h →
    AreFitting s n ts × (h.tasks ≡ n + length ts)
tasks_fit s n [] g h at is =
    let same : g ≡ h = cc in
    let tasks : h.tasks ≡ n = ap (λ (x : Going). x.tasks) (sym same) ∙ at in
    (tt, omega (arith, tasks))
tasks_fit s n (t ∷ ts) g h at is =
    let d = declared_parts t.variables.items in
    let b = body_parts t.body.items in
    let more = flat_map task_parts ts in
    let f : Going = record { tasks = suc g.tasks; block = g.block } in
    let flat : goes s g (task_parts t ++ more) ≡ goes s f (b ++ (part.TaskEnd ∷ more)) =
    ap (goes s f) (append_assoc d (part.Body (length t.blocks.items) ∷ (b ++ part.TaskEnd ∷ [])) more) ∙
    declared_calm s f t.variables.items (part.Body (length t.blocks.items) ∷ ((b ++ part.TaskEnd ∷ []) ++ more)) ∙
    ap (goes s f) (append_assoc b (part.TaskEnd ∷ []) more) in
    let first : f.tasks ≡ n + 1 = omega (arith, at) in
    let one = body_fits s n t.body.items f h (part.TaskEnd ∷ more) first (sym flat ∙ is) in
    let others = tasks_fit s (n + 1) ts one.1.going h one.1.tasks one.1.led in
    ((one.0, others.0), omega (arith, others.1))

pub is_program : (s : Setup) (ts : List Task) (parts : Parts) (h : Going) → flat_map task_parts ts ≡ parts → lead (going_after s) begun parts ≡ Some h →
    h.tasks ≡ length s.tasks → IsProgramOf s ts
is_program s ts parts h are led tasks =
    let all = tasks_fit s 0 ts begun h refl (ap (goes s begun) are ∙ led) in
    record { each = omega (arith, all.1, tasks); calls = all.0 }
