-- The code of a task's statements runs as the scan goes, and no operand is missing in it.
-- for: next, open, compile
use Rattle.std.proofs.Common.{◌≡◌, ℕ, ℤ, List, [], ◌∷◌, map, ap, sym, refl, subst, ◌∙◌, append-nil}
use Rattle.plc_types.specs.Inputs.{inputs_off}
use Rattle.plc_types.specs.declared.outputs.Outputs.{Outputs}
use Rattle.st_tree.specs.declared.statement.Stmt.{Stmt}
use Rattle.st_exec.specs.Code.{all_of, body_code, stmt_code}
use Rattle.st_exec.specs.Machine.{run}
use Rattle.st_exec.specs.Scan.{Course, Over, Waits, Missing, at_first, in_order, scan, scan_of, then_do}
use Rattle.st_exec.proofs.Statements.{Follows, IsScanned, all_run, goes_on, stmt_follows}

-- the firsts of pairs with a proof
firsts : (us : ℕ) (ts : List Stmt) →
    map (λ (t : (t : Stmt) × IsScanned us t). t.0) (map (λ t. (t, stmt_follows us t)) ts) ≡ ts
firsts us [] = refl
firsts us (t ∷ ts) = ap (λ l. t ∷ l) (firsts us ts)

-- the codes of statements run as their scans go
in_order_follows : (us : ℕ) (ts : List Stmt) →
    Follows us (all_of (map stmt_code ts)) (in_order (map (scan us) ts))
in_order_follows us ts =
    subst (λ l. Follows us (all_of (map stmt_code l)) (in_order (map (scan us) l))) (firsts us ts)
    (all_run us (map (λ t. (t, stmt_follows us t)) ts))

-- nothing comes after the last statement
then_over : (us : ℕ) (c : Course) → then_do c (goes_on us []) ≡ c
then_over us (Over s) = refl
then_over us (Waits calls) = refl
then_over us Missing = refl

-- the code of a task's statements runs as the scan goes
pub body_runs : (us : ℕ) (body : List Stmt) (vars : List ℤ) (last replies : List Outputs) →
    run us (body_code body) 0 [] inputs_off (at_first vars last replies) ≡
    scan_of us body vars last replies
unfolding scan_of body_code
body_runs us body vars last replies =
    ap (λ l. goes_on us l (at_first vars last replies)) (sym (append-nil (body_code body))) ∙
    ((in_order_follows us body).runs [] (at_first vars last replies) ∙
    then_over us (in_order (map (scan us) body) (at_first vars last replies)))
