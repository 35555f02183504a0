-- No operand is missing in the scan of a tree.
-- for: compile, scans_have_their_operands
use Rattle.std.proofs.Common.{ℕ, ℤ, Bool, true, false, if◌then◌else◌, List, [], ◌∷◌, map, sym, subst}
use Rattle.std.specs.Ordering.{int_eq}
use Rattle.plc_types.specs.declared.outputs.Outputs.{Outputs}
use Rattle.st_tree.specs.declared.statement.Branch.{Branch}
use Rattle.st_tree.specs.declared.statement.Stmt.{Stmt}
use Rattle.st_tree.specs.declared.statement.Stmt.TheOpen.{Stmt-F}
use Rattle.st_tree.specs.declared.statement.Stmt.TheViews.{roll-Stmt, roll-Branch}
use Rattle.st_tree.specs.declared.statement.Stmt.TheFolds.{ind-Stmt, fold-roll-Stmt, fold-roll-Branch, map-Stmt, map-Branch}
use Rattle.st_exec.specs.Scan.{Asked, Course, HasAll, Over, Waits, Missing, Stand, asked, at_first, branch_step, call_of, chosen, in_order, scan, scan_of, scan_step, then_do}
use Rattle.st_exec.specs.Values.{is_true, value_of}
use Rattle.st_exec.proofs.Statements.{branch_scan}

-- a scan from any stand has all operands
abbrev pub IsWhole : (Stand → Course) → Type 0
IsWhole go = (s : Stand) → HasAll (go s)

-- a statement's scan, and a branch's
pub record ScansWhole (us : ℕ) (t : Stmt) : Type 0 where
  pub whole : IsWhole (scan us t)

pub record BranchesWhole (us : ℕ) (b : Branch) : Type 0 where
  pub whole : IsWhole (branch_scan us b).1

then_whole : (c : Course) (go : Stand → Course) → HasAll c → IsWhole go → HasAll (then_do c go)
then_whole (Over s) go all whole = whole s
then_whole (Waits calls) go all whole = tt
then_whole Missing go all whole = all

asked_whole : (call : Asked) (s : Stand) (left : List Outputs) → HasAll (asked call s left Over)
asked_whole call s [] = tt
asked_whole call s (reply ∷ left) = tt

choice_whole : (b : Bool) (c d : Course) → HasAll c → HasAll d → HasAll (if b then c else d)
choice_whole true c d one other = one
choice_whole false c d one other = other

all_whole : (us : ℕ) (ts : List ((t : Stmt) × ScansWhole us t)) →
    IsWhole (in_order (map (scan us) (map (λ t. t.0) ts)))
all_whole us [] s = tt
all_whole us (t ∷ ts) s = then_whole (scan us t.0 s) _ (t.1.whole s) (all_whole us ts)

branches_whole : (us : ℕ) (bs : List ((b : Branch) × BranchesWhole us b)) (otherwise : Stand → Course)
    (v : ℤ) → IsWhole otherwise →
    IsWhole (chosen (map (branch_scan us) (map (λ b. b.0) bs)) otherwise v)
branches_whole us [] otherwise v whole s = whole s
branches_whole us (b ∷ bs) otherwise v whole s =
    choice_whole (int_eq v (branch_scan us b.0).0) _ _ (b.1.whole s)
    (branches_whole us bs otherwise v whole s)

parts_whole : (us : ℕ) (y : Stmt-F ((t : Stmt) × ScansWhole us t) ((b : Branch) × BranchesWhole us b)) →
    IsWhole (scan_step us (map-Stmt _ _ _ _ (scan us) (branch_scan us)
    (map-Stmt _ _ _ _ (λ t. t.0) (λ b. b.0) y)))
parts_whole us (Stmt-F.Set x e) s = tt
parts_whole us (Stmt-F.Call k e given) s = asked_whole (call_of us k e given.items s) s s.left
parts_whole us (Stmt-F.If e held otherwise) s =
    choice_whole (is_true (value_of e s.vars s.last)) _ _ (all_whole us held.items s)
    (all_whole us otherwise.items s)
parts_whole us (Stmt-F.Case e branches otherwise) s =
    branches_whole us branches.items _ (value_of e s.vars s.last) (all_whole us otherwise.items) s

stmt_whole : (us : ℕ) (t : Stmt) → ScansWhole us t
stmt_whole us = ind-Stmt (ScansWhole us) (BranchesWhole us)
    (λ x y is. subst (λ z. ScansWhole us (roll-Stmt z)) is (record {
      whole =
          subst IsWhole (sym (fold-roll-Stmt (Stand → Course) (ℤ × (Stand → Course)) (scan_step us)
          branch_step (map-Stmt _ _ _ _ (λ t. t.0) (λ b. b.0) y))) (parts_whole us y);
    }))
    (λ x y is. subst (λ z. BranchesWhole us (roll-Branch z)) is (record {
      whole =
          subst (λ (p : ℤ × (Stand → Course)). IsWhole p.1) (sym (fold-roll-Branch (Stand → Course)
          (ℤ × (Stand → Course)) (scan_step us) branch_step (map-Branch _ _ _ _ (λ t. t.0) (λ b. b.0) y)))
          (all_whole us y.body.items);
    }))

in_order_whole : (us : ℕ) (ts : List Stmt) → IsWhole (in_order (map (scan us) ts))
in_order_whole us [] s = tt
in_order_whole us (t ∷ ts) s =
    then_whole (scan us t s) _ ((stmt_whole us t).whole s) (in_order_whole us ts)

-- the scan of a task's statements has all its operands
pub scan_whole : (us : ℕ) (body : List Stmt) (vars : List ℤ) (last replies : List Outputs) →
    HasAll (scan_of us body vars last replies)
unfolding scan_of
scan_whole us body vars last replies = in_order_whole us body (at_first vars last replies)
