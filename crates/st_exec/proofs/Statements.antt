-- The code of a statement runs as the scan of the statement goes.
-- for: next, open, compile and others
use Rattle.std.proofs.Common.{◌≡◌, ℕ, ◌+◌, ℤ, Bool, true, false, if◌then◌else◌, List, [], ◌∷◌, ◌++◌, length, map, ap, sym, refl, subst, ◌∙◌, append_assoc}
use Rattle.std.specs.Ordering.{int_eq}
use Rattle.plc_types.specs.Inputs.{inputs_off}
use Rattle.plc_types.specs.declared.inputs.Inputs.{Inputs}
use Rattle.st_tree.specs.declared.call.Given.{Given}
use Rattle.st_tree.specs.declared.call.Given.TheVariants.{Number, Mode, Master}
use Rattle.st_tree.specs.declared.expression.Expr.{Expr}
use Rattle.st_tree.specs.declared.statement.Branch.{Branch}
use Rattle.st_tree.specs.declared.statement.Stmt.{Stmt}
use Rattle.st_tree.specs.declared.statement.Stmt.TheOpen.{Stmt-F, Branch-F}
use Rattle.st_tree.specs.declared.statement.Stmt.TheViews.{roll-Stmt, roll-Branch}
use Rattle.st_tree.specs.declared.statement.Stmt.TheFolds.{ind-Stmt, fold-Branch, fold-roll-Stmt, fold-roll-Branch, map-Stmt, map-Branch}
use Rattle.st_exec.specs.Code.{Code, all_of, branch_code, branch_code_step, branches_code, expr_code, given_code, sides_code, stmt_code, stmt_code_step}
use Rattle.st_exec.specs.Machine.{Goes, led_on, run}
use Rattle.st_exec.specs.Scan.{Course, Over, Stand, asked, begun, branch_step, call_of, chosen, in_order, scan, scan_step, then_do, with_all, with_given}
use Rattle.st_exec.specs.Values.{is_true, value_of}
use Rattle.st_exec.specs.declared.instruction.Act.TheVariants.{Pass, Take}
use Rattle.st_exec.specs.declared.instruction.Use.TheVariants.{Begin, Give, Store}
use Rattle.st_exec.specs.declared.instruction.Instruction.TheVariants.{Ask, Do}
use Rattle.st_exec.proofs.Passing.{asked_then, jumped, passed_one, same_choice, then_choice, then_same, then_twice}
use Rattle.st_exec.proofs.Expressions.{expr_runs}

-- the rest of a run, between two statements
abbrev pub goes_on : ℕ → Code → Stand → Course
goes_on us rest s = run us rest 0 [] inputs_off s

-- a code runs as a scan goes
pub record Follows (us : ℕ) (code : Code) (scan : Stand → Course) : Type 0 where
  pub runs : (rest : Code) (s : Stand) → goes_on us (code ++ rest) s ≡ then_do (scan s) (goes_on us rest)

-- the scan of a branch, with its value
abbrev pub branch_scan : ℕ → Branch → ℤ × (Stand → Course)
branch_scan us = fold-Branch (Stand → Course) (ℤ × (Stand → Course)) (scan_step us) branch_step

-- the code of a statement runs as its scan goes
pub record IsScanned (us : ℕ) (t : Stmt) : Type 0 where
  pub follows : Follows us (stmt_code t) (scan us t)

-- the code of a branch does, and is for the same value
pub record IsBranch (us : ℕ) (b : Branch) : Type 0 where
  pub value : (branch_code b).0 ≡ (branch_scan us b).0
  pub follows : Follows us (branch_code b).1 (branch_scan us b).1

-- ---- calls

-- the code of what a key gives
given_runs : (us : ℕ) (g : Given) (rest : Code) (i : Inputs) (s : Stand) →
    run us (given_code g ++ rest) 0 [] i s ≡ run us rest 0 [] (with_given us s.vars s.last g i) s
given_runs us (Number key e) rest i s =
    ap (λ l. run us l 0 [] i s) (append_assoc (expr_code e) _ rest) ∙
    (expr_runs us e).runs (Do (Take (Give key)) ∷ rest) [] i s
given_runs us (Mode mode) rest i s = refl
given_runs us (Master axis) rest i s = refl

-- the codes of what the keys give
all_given_run : (us : ℕ) (gs : List Given) (rest : Code) (i : Inputs) (s : Stand) →
    run us (all_of (map given_code gs) ++ rest) 0 [] i s ≡
    run us rest 0 [] (with_all us s.vars s.last gs i) s
all_given_run us [] rest i s = refl
all_given_run us (g ∷ gs) rest i s =
    ap (λ l. run us l 0 [] i s) (append_assoc (given_code g) _ rest) ∙
    (given_runs us g _ i s ∙
    all_given_run us gs rest (with_given us s.vars s.last g i) s)

-- the code of a call
call_runs : (us k : ℕ) (e : Expr) (gs : List Given) (rest : Code) (s : Stand) →
    goes_on us ((expr_code e ++ (Do (Take Begin) ∷ all_of (map given_code gs) ++ Ask k ∷ [])) ++ rest) s ≡
    then_do (asked (call_of us k e gs s) s s.left Over) (goes_on us rest)
call_runs us k e gs rest s =
    ap (λ l. goes_on us l s) (append_assoc (expr_code e) _ rest) ∙
    ((expr_runs us e).runs _ [] inputs_off s ∙
    (ap (λ l. run us l 0 [] (begun (value_of e s.vars s.last)) s)
    (append_assoc (all_of (map given_code gs)) (Ask k ∷ []) rest) ∙
    (all_given_run us gs (Ask k ∷ rest) (begun (value_of e s.vars s.last)) s ∙
    sym (asked_then (call_of us k e gs s) s s.left (goes_on us rest)))))

-- ---- choices

-- a truth on the stack chooses a side
side_taken : (us : ℕ) (b : Bool) (held otherwise rest : Code) (s : Stand) →
    run us (held ++ (Do (Pass (length otherwise)) ∷ otherwise ++ rest))
    (if b then 0 else length held + 1) [] inputs_off s ≡
    (if b then goes_on us (held ++ (Do (Pass (length otherwise)) ∷ otherwise ++ rest)) s
    else goes_on us (otherwise ++ rest) s)
side_taken us true held otherwise rest s = refl
side_taken us false held otherwise rest s = passed_one us held _ (otherwise ++ rest) [] inputs_off s

-- the code of a side, and the jump after it
side_runs : (us : ℕ) (held otherwise rest : Code) (scanned : Stand → Course) (s : Stand) →
    Follows us held scanned →
    goes_on us (held ++ (Do (Pass (length otherwise)) ∷ otherwise ++ rest)) s ≡
    then_do (scanned s) (goes_on us rest)
side_runs us held otherwise rest scanned s follows =
    follows.runs _ s ∙
    then_same (scanned s) _ _ (λ t. jumped us otherwise rest [] inputs_off t)

-- the codes of both sides
sides_run : (us : ℕ) (v : ℤ) (held otherwise rest : Code) (first second : Stand → Course)
    (s : Stand) → Follows us held first → Follows us otherwise second →
    run us (sides_code held otherwise ++ rest) 0 (v ∷ []) inputs_off s ≡
    then_do (if is_true v then first s else second s) (goes_on us rest)
sides_run us v held otherwise rest first second s one other =
    ap (λ l. run us l (if is_true v then 0 else length held + 1) [] inputs_off s)
    (append_assoc held (Do (Pass (length otherwise)) ∷ otherwise) rest) ∙
    (side_taken us (is_true v) held otherwise rest s ∙
    (same_choice (is_true v) _ _ _ _ (side_runs us held otherwise rest first s one)
    (other.runs rest s) ∙
    sym (then_choice (is_true v) (first s) (second s) (goes_on us rest))))

-- a value on the stack chooses a branch, or those after it
branch_taken : (us : ℕ) (b : Bool) (v : ℤ) (body behind rest : Code) (s : Stand) →
    led_on (if b then Goes 0 [] inputs_off s.vars else Goes (length body + 1) (v ∷ []) inputs_off s.vars)
    s (run us (body ++ (Do (Pass (length behind)) ∷ behind ++ rest))) ≡
    (if b then goes_on us (body ++ (Do (Pass (length behind)) ∷ behind ++ rest)) s
    else run us (behind ++ rest) 0 (v ∷ []) inputs_off s)
branch_taken us true v body behind rest s = refl
branch_taken us false v body behind rest s =
    passed_one us body _ (behind ++ rest) (v ∷ []) inputs_off s

-- the codes of the branches
branches_run : (us : ℕ) (bs : List ((b : Branch) × IsBranch us b)) (v : ℤ) (otherwise rest : Code)
    (scanned : Stand → Course) (s : Stand) → Follows us otherwise scanned →
    run us (branches_code (map branch_code (map (λ b. b.0) bs)) otherwise ++ rest) 0 (v ∷ [])
    inputs_off s ≡
    then_do (chosen (map (branch_scan us) (map (λ b. b.0) bs)) scanned v s) (goes_on us rest)
branches_run us [] v otherwise rest scanned s other = other.runs rest s
branches_run us (b ∷ bs) v otherwise rest scanned s other =
    let body : Code = (branch_code b.0).1 in
    let behind : Code = branches_code (map branch_code (map (λ b. b.0) bs)) otherwise in
    let t : Bool = int_eq v (branch_code b.0).0 in
    let first : Course = (branch_scan us b.0).1 s in
    let later : Course = chosen (map (branch_scan us) (map (λ b. b.0) bs)) scanned v s in
    ap (λ l. led_on (if t then Goes 0 [] inputs_off s.vars
    else Goes (length body + 1) (v ∷ []) inputs_off s.vars) s (run us l))
    (append_assoc body (Do (Pass (length behind)) ∷ behind) rest) ∙
    (branch_taken us t v body behind rest s ∙
    (same_choice t _ _ _ _
    (side_runs us body behind rest (branch_scan us b.0).1 s b.1.follows)
    (branches_run us bs v otherwise rest scanned s other) ∙
    (sym (then_choice t first later (goes_on us rest)) ∙
    ap (λ (z : ℤ). then_do (if int_eq v z then first else later) (goes_on us rest)) b.1.value)))

-- ---- statements

-- the codes of statements, one after another
pub all_run : (us : ℕ) (ts : List ((t : Stmt) × IsScanned us t)) →
    Follows us (all_of (map stmt_code (map (λ t. t.0) ts))) (in_order (map (scan us) (map (λ t. t.0) ts)))
all_run us [] = record { runs = λ rest s. refl }
all_run us (t ∷ ts) = record {
  runs = λ rest s.
      ap (λ l. goes_on us l s) (append_assoc (stmt_code t.0) _ rest) ∙
      (t.1.follows.runs _ s ∙
      (then_same (scan us t.0 s) _ _ (λ u. (all_run us ts).runs rest u) ∙
      sym (then_twice (scan us t.0 s) _ _)));
}

-- one level follows its scan where what its parts give does
level_follows : (us : ℕ) (x : Stmt-F Stmt Branch) →
    Follows us (stmt_code_step (map-Stmt _ _ _ _ stmt_code branch_code x))
    (scan_step us (map-Stmt _ _ _ _ (scan us) (branch_scan us) x)) →
    IsScanned us (roll-Stmt x)
level_follows us x same = record {
  follows = record {
    runs = λ rest s.
        ap (λ c. goes_on us (c ++ rest) s)
        (fold-roll-Stmt Code (ℤ × Code) stmt_code_step branch_code_step x) ∙
        (same.runs rest s ∙
        sym (ap (λ (f : Stand → Course). then_do (f s) (goes_on us rest))
        (fold-roll-Stmt (Stand → Course) (ℤ × (Stand → Course)) (scan_step us) branch_step x)));
  };
}

-- a level whose parts follow their scans
parts_follow : (us : ℕ) (y : Stmt-F ((t : Stmt) × IsScanned us t) ((b : Branch) × IsBranch us b)) →
    IsScanned us (roll-Stmt (map-Stmt _ _ _ _ (λ t. t.0) (λ b. b.0) y))
parts_follow us (Stmt-F.Set x e) = level_follows us (Stmt-F.Set x e) (record {
  runs = λ rest s.
      ap (λ l. goes_on us l s) (append_assoc (expr_code e) _ rest) ∙
      (expr_runs us e).runs (Do (Take (Store x)) ∷ rest) [] inputs_off s;
})
parts_follow us (Stmt-F.Call k e given) = level_follows us (Stmt-F.Call k e given)
    (record { runs = λ rest s. call_runs us k e given.items rest s })
parts_follow us (Stmt-F.If e held otherwise) = level_follows us _ (record {
  runs = λ rest s.
      ap (λ l. goes_on us l s) (append_assoc (expr_code e) _ rest) ∙
      ((expr_runs us e).runs _ [] inputs_off s ∙
      sides_run us (value_of e s.vars s.last) _ _ rest _ _ s (all_run us held.items)
      (all_run us otherwise.items));
})
parts_follow us (Stmt-F.Case e branches otherwise) = level_follows us _ (record {
  runs = λ rest s.
      ap (λ l. goes_on us l s) (append_assoc (expr_code e) _ rest) ∙
      ((expr_runs us e).runs _ [] inputs_off s ∙
      branches_run us branches.items (value_of e s.vars s.last) _ rest _ s
      (all_run us otherwise.items));
})

-- a branch whose statements follow their scans
branch_follows : (us : ℕ)
    (y : Branch-F ((t : Stmt) × IsScanned us t) ((b : Branch) × IsBranch us b)) →
    IsBranch us (roll-Branch (map-Branch _ _ _ _ (λ t. t.0) (λ b. b.0) y))
branch_follows us y = record {
  value = ap (λ (p : ℤ × Code). p.0)
      (fold-roll-Branch Code (ℤ × Code) stmt_code_step branch_code_step
      (map-Branch _ _ _ _ (λ t. t.0) (λ b. b.0) y)) ∙
      sym (ap (λ (p : ℤ × (Stand → Course)). p.0)
      (fold-roll-Branch (Stand → Course) (ℤ × (Stand → Course)) (scan_step us) branch_step
      (map-Branch _ _ _ _ (λ t. t.0) (λ b. b.0) y)));
  follows = record {
    runs = λ rest s.
        ap (λ (p : ℤ × Code). goes_on us (p.1 ++ rest) s)
        (fold-roll-Branch Code (ℤ × Code) stmt_code_step branch_code_step
        (map-Branch _ _ _ _ (λ t. t.0) (λ b. b.0) y)) ∙
        ((all_run us y.body.items).runs rest s ∙
        sym (ap (λ (p : ℤ × (Stand → Course)). then_do (p.1 s) (goes_on us rest))
        (fold-roll-Branch (Stand → Course) (ℤ × (Stand → Course)) (scan_step us) branch_step
        (map-Branch _ _ _ _ (λ t. t.0) (λ b. b.0) y))));
  };
}

-- the code of a statement runs as its scan goes
pub stmt_follows : (us : ℕ) (t : Stmt) → IsScanned us t
stmt_follows us = ind-Stmt (IsScanned us) (IsBranch us)
    (λ x y is. subst (λ z. IsScanned us (roll-Stmt z)) is (parts_follow us y))
    (λ x y is. subst (λ z. IsBranch us (roll-Branch z)) is (branch_follows us y))
