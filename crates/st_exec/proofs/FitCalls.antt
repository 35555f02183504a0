-- The calls of a scan whose tree fits a machine are calls of the machine.
-- for: scans_call_the_machine
use Rattle.std.proofs.Common.{◌≡◌, ℕ, zero, suc, ◌+◌, ◌<◌, ◌≤◌, ℤ, Bool, true, false, if◌then◌else◌, Option, Some, None, List, [], ◌∷◌, ◌++◌, length, map, sym, refl, subst, arith}
use Rattle.std.specs.Prelude.{◌==◌, IsTrue, slice_get}
use Rattle.std.specs.List.{AllByRecursion, list_all}
use Rattle.std.specs.Ordering.{int_eq}
use Rattle.std.proofs.lemmas.Bool.{eqb-true}
use Rattle.plc_types.specs.declared.inputs.Inputs.{Inputs}
use Rattle.plc_types.specs.declared.outputs.Outputs.{Outputs}
use Rattle.machine_words.specs.Fit.{AreFit}
use Rattle.machine_words.specs.Units.{IsCycle}
use Rattle.motion_history.specs.Setup.{Setup}
use Rattle.motion_history.specs.declared.config.BlockDef.{BlockDef}
use Rattle.st_tree.specs.Fitting.{AreFitting, IsProgramOf, all_true, branch_fits_step, fits, fits_step, is_call_by, is_given}
use Rattle.st_tree.specs.declared.call.Given.{Given}
use Rattle.st_tree.specs.declared.expression.Expr.{Expr}
use Rattle.st_tree.specs.declared.program.Task.{Task}
use Rattle.st_tree.specs.declared.statement.Branch.{Branch}
use Rattle.st_tree.specs.declared.statement.Stmt.{Stmt}
use Rattle.st_tree.specs.declared.statement.Stmt.TheOpen.{Stmt-F}
use Rattle.st_tree.specs.declared.statement.Stmt.TheViews.{roll-Stmt, roll-Branch}
use Rattle.st_tree.specs.declared.statement.Stmt.TheFolds.{ind-Stmt, fold-Branch, fold-roll-Stmt, fold-roll-Branch, map-Stmt, map-Branch}
use Rattle.st_exec.specs.Laws.{AreCallsOf, IsCallOf}
use Rattle.st_exec.specs.Scan.{Asked, Course, Over, Waits, Missing, Stand, asked, at_first, branch_step, call_of, chosen, in_order, scan, scan_of, scan_step, then_do}
use Rattle.st_exec.specs.Values.{is_true, value_of}
use Rattle.st_exec.proofs.FitInputs.{all-fit, both_left, both_right, execute-fit}
use Rattle.st_exec.proofs.Statements.{branch_scan}

-- whether each call inside a branch fits the machine
abbrev branch_fits : Setup → ℕ → Branch → Bool
branch_fits s task = fold-Branch Bool Bool (fits_step s task) branch_fits_step

-- calls are calls of the machine
abbrev Made : Setup → ℕ → List Asked → Type 0
Made m task calls = AllByRecursion (IsCallOf m task) calls

-- a scan makes calls of the machine alone
record Calls (m : Setup) (task : ℕ) (go : Stand → Course) : Type 0 where
  calls : (s : Stand) → Made m task s.calls → AreCallsOf m task (go s)

-- a statement's scan does where it fits, and a branch's
record StmtCalls (m : Setup) (task us : ℕ) (t : Stmt) : Type 0 where
  fitting : IsTrue (fits m task t) → Calls m task (scan us t)

record BranchCalls (m : Setup) (task us : ℕ) (b : Branch) : Type 0 where
  fitting : IsTrue (branch_fits m task b) → Calls m task (branch_scan us b).1

-- ---- calls

made_more : (m : Setup) (task : ℕ) (calls : List Asked) (call : Asked) → Made m task calls →
    IsCallOf m task call → Made m task (calls ++ call ∷ [])
made_more m task [] call made is = (is, tt)
made_more m task (c ∷ calls) call made is = (made.0, made_more m task calls call made.1 is)

asked_calls : (m : Setup) (task : ℕ) (call : Asked) (s : Stand) (left : List Outputs) →
    Made m task s.calls → IsCallOf m task call → AreCallsOf m task (asked call s left Over)
asked_calls m task call s [] made is = made_more m task s.calls call made is
asked_calls m task call s (reply ∷ left) made is = made_more m task s.calls call made is

-- a block that is there has a number below their count
there_below : {A : Type 0} (xs : List A) (k : ℕ) (x : A) → slice_get xs k ≡ Some x → k < length xs
there_below [] k x h = absurd (cc)
there_below (y ∷ xs) zero x h = omega arith
there_below (y ∷ xs) (suc k) x h = let below = there_below xs k x h in omega (arith, below)

-- inputs that fit a block make a call of it
call_by : (m : Setup) (task k : ℕ) (b : BlockDef) (i : Inputs) → slice_get m.blocks k ≡ Some b →
    b.task ≡ task → AreFit m b i → IsCallOf m task (record { instance = k; inputs = i })
call_by m task k b i there own fit = record {
  is = record {
    there = there_below m.blocks k b there;
    inputs = λ c is. let same : b ≡ c = cc in (subst (λ d. AreFit m d i) same fit).inputs;
    master = fit.master;
  };
  own = λ c is. let same : b ≡ c = cc in subst (λ (d : BlockDef). d.task ≡ task) same own;
}

block_call : (m : Setup) (task us k : ℕ) (e : Expr) (gs : List Given) (s : Stand) (o : Option BlockDef) →
    IsCycle us → 1 ≤ length m.axes → slice_get m.blocks k ≡ o → IsTrue (is_call_by m task o gs) →
    IsCallOf m task (call_of us k e gs s)
block_call m task us k e gs s None cycle some there fits = absurd (cc)
block_call m task us k e gs s (Some b) cycle some there fits =
    call_by m task k b _ there (eqb-true b.task task (both_left (b.task == task) (list_all (is_given m b) gs) fits))
    (all-fit us m b s.vars s.last gs _ cycle
    (both_right (b.task == task) (list_all (is_given m b) gs) fits)
    (execute-fit m b (is_true (value_of e s.vars s.last)) some))

-- ---- one scan after another, and choices

then_calls : (m : Setup) (task : ℕ) (c : Course) (go : Stand → Course) → AreCallsOf m task c →
    Calls m task go → AreCallsOf m task (then_do c go)
then_calls m task (Over t) go made more = more.calls t made
then_calls m task (Waits calls) go made more = made
then_calls m task Missing go made more = tt

choice_calls : (m : Setup) (task : ℕ) (b : Bool) (c d : Course) → AreCallsOf m task c →
    AreCallsOf m task d → AreCallsOf m task (if b then c else d)
choice_calls m task true c d one other = one
choice_calls m task false c d one other = other

-- ---- statements

all_calls : (m : Setup) (task us : ℕ) (ts : List ((t : Stmt) × StmtCalls m task us t)) →
    IsTrue (all_true (map (fits m task) (map (λ t. t.0) ts))) →
    Calls m task (in_order (map (scan us) (map (λ t. t.0) ts)))
all_calls m task us [] fit = record { calls = λ s made. made }
all_calls m task us (t ∷ ts) fit = record {
  calls = λ s made. then_calls m task (scan us t.0 s) _
      ((t.1.fitting (both_left _ _ fit)).calls s made)
      (all_calls m task us ts (both_right _ _ fit));
}

branches_call : (m : Setup) (task us : ℕ) (bs : List ((b : Branch) × BranchCalls m task us b))
    (v : ℤ) (otherwise : Stand → Course) →
    IsTrue (all_true (map (branch_fits m task) (map (λ b. b.0) bs))) → Calls m task otherwise →
    Calls m task (chosen (map (branch_scan us) (map (λ b. b.0) bs)) otherwise v)
branches_call m task us [] v otherwise fit other = other
branches_call m task us (b ∷ bs) v otherwise fit other = record {
  calls = λ s made. choice_calls m task (int_eq v (branch_scan us b.0).0) _ _
      ((b.1.fitting (both_left _ _ fit)).calls s made)
      ((branches_call m task us bs v otherwise (both_right _ _ fit) other).calls s made);
}

parts_call : (m : Setup) (task us : ℕ) → IsCycle us → 1 ≤ length m.axes →
    (y : Stmt-F ((t : Stmt) × StmtCalls m task us t) ((b : Branch) × BranchCalls m task us b)) →
    IsTrue (fits_step m task (map-Stmt _ _ _ _ (fits m task) (branch_fits m task)
    (map-Stmt _ _ _ _ (λ t. t.0) (λ b. b.0) y))) →
    Calls m task (scan_step us (map-Stmt _ _ _ _ (scan us) (branch_scan us)
    (map-Stmt _ _ _ _ (λ t. t.0) (λ b. b.0) y)))
parts_call m task us cycle some (Stmt-F.Set x e) fit = record { calls = λ s made. made }
parts_call m task us cycle some (Stmt-F.Call k e given) fit = record {
  calls = λ s made. asked_calls m task (call_of us k e given.items s) s s.left made
      (block_call m task us k e given.items s (slice_get m.blocks k) cycle some refl fit);
}
parts_call m task us cycle some (Stmt-F.If e held otherwise) fit = record {
  calls = λ s made. choice_calls m task (is_true (value_of e s.vars s.last)) _ _
      ((all_calls m task us held.items (both_left _ _ fit)).calls s made)
      ((all_calls m task us otherwise.items (both_right _ _ fit)).calls s made);
}
parts_call m task us cycle some (Stmt-F.Case e branches otherwise) fit = record {
  calls = λ s made. (branches_call m task us branches.items (value_of e s.vars s.last) _
      (both_left _ _ fit) (all_calls m task us otherwise.items (both_right _ _ fit))).calls s made;
}

stmt_calls : (m : Setup) (task us : ℕ) → IsCycle us → 1 ≤ length m.axes → (t : Stmt) →
    StmtCalls m task us t
stmt_calls m task us cycle some = ind-Stmt (StmtCalls m task us) (BranchCalls m task us)
    (λ x y is. subst (λ z. StmtCalls m task us (roll-Stmt z)) is (record {
      fitting = λ fit.
          let inner = map-Stmt _ _ _ _ (λ t. t.0) (λ b. b.0) y in
          subst (Calls m task) (sym (fold-roll-Stmt (Stand → Course) (ℤ × (Stand → Course)) (scan_step us)
          branch_step inner)) (parts_call m task us cycle some y
          (subst IsTrue (fold-roll-Stmt Bool Bool (fits_step m task) branch_fits_step inner) fit));
    }))
    (λ x y is. subst (λ z. BranchCalls m task us (roll-Branch z)) is (record {
      fitting = λ fit.
          let inner = map-Branch _ _ _ _ (λ t. t.0) (λ b. b.0) y in
          subst (λ (p : ℤ × (Stand → Course)). Calls m task p.1) (sym (fold-roll-Branch (Stand → Course)
          (ℤ × (Stand → Course)) (scan_step us) branch_step inner))
          (all_calls m task us y.body.items
          (subst IsTrue (fold-roll-Branch Bool Bool (fits_step m task) branch_fits_step inner) fit));
    }))

-- ---- whole scans

body_calls : (m : Setup) (task us : ℕ) → IsCycle us → 1 ≤ length m.axes → (ts : List Stmt) →
    IsTrue (list_all (fits m task) ts) → Calls m task (in_order (map (scan us) ts))
body_calls m task us cycle some [] fit = record { calls = λ s made. made }
body_calls m task us cycle some (t ∷ ts) fit = record {
  calls = λ s made. then_calls m task (scan us t s) _
      (((stmt_calls m task us cycle some t).fitting (both_left _ _ fit)).calls s made)
      (body_calls m task us cycle some ts (both_right _ _ fit));
}

-- the task at a place fits
task_at : (m : Setup) (first n : ℕ) (tasks : List Task) (t : Task) → AreFitting m first tasks →
    slice_get tasks n ≡ Some t → IsTrue (list_all (fits m (first + n)) t.body.items)
task_at m first n [] t fit there = absurd (cc)
task_at m first zero (u ∷ tasks) t fit there =
    let same : u ≡ t = cc in
    let at : first + 0 ≡ first = omega arith in
    rw at (subst (λ (w : Task). IsTrue (list_all (fits m first) w.body.items)) same fit.0)
task_at m first (suc n) (u ∷ tasks) t fit there =
    let at : first + suc n ≡ first + 1 + n = omega arith in
    rw at (task_at m (first + 1) n tasks t fit.1 there)

pub scan_calls : (m : Setup) (tasks : List Task) (us n : ℕ) (t : Task) → IsCycle us →
    1 ≤ length m.axes → IsProgramOf m tasks → slice_get tasks n ≡ Some t →
    (vars : List ℤ) (last replies : List Outputs) →
    AreCallsOf m n (scan_of us t.body.items vars last replies)
unfolding scan_of
scan_calls m tasks us n t cycle some is there vars last replies =
    let at : 0 + n ≡ n = omega arith in
    let fit : IsTrue (list_all (fits m n) t.body.items) =
    subst (λ k. IsTrue (list_all (fits m k) t.body.items)) at (task_at m 0 n tasks t is.calls there) in
    (body_calls m n us cycle some t.body.items fit).calls (at_first vars last replies) tt
