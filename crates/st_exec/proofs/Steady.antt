-- Scans make their calls in order: more replies lead on from where fewer leave them.
-- for: scans_ask_in_order
use Rattle.std.proofs.Common.{◌≡◌, ℕ, ◌+◌, ℤ, Bool, true, false, if◌then◌else◌, List, [], ◌∷◌, ◌++◌, length, map, ap, sym, refl, subst, ◌∙◌, append-nil, append_assoc, arith}
use Rattle.std.proofs.lemmas.Grind.{common_steps}
use Rattle.std.specs.Ordering.{int_eq}
use Rattle.plc_types.specs.declared.outputs.Outputs.{Outputs}
use Rattle.st_tree.specs.declared.statement.Branch.{Branch}
use Rattle.st_tree.specs.declared.statement.Stmt.{Stmt}
use Rattle.st_tree.specs.declared.statement.Stmt.TheOpen.{Stmt-F, Branch-F}
use Rattle.st_tree.specs.declared.statement.Stmt.TheViews.{roll-Stmt, roll-Branch}
use Rattle.st_tree.specs.declared.statement.Stmt.TheFolds.{ind-Stmt, fold-roll-Stmt, fold-roll-Branch, map-Stmt, map-Branch}
use Rattle.st_exec.specs.Laws.{IsFirstOf, AsksInOrder, asks_of}
use Rattle.st_exec.specs.Scan.{Asked, Course, Over, Waits, Missing, Stand, asked, at_first, branch_step, call_of, chosen, in_order, scan, scan_of, scan_step, then_do}
use Rattle.st_exec.specs.Values.{is_true, value_of}
use Rattle.st_exec.proofs.Statements.{branch_scan}

-- the same stand, with more replies to come
abbrev pub with_more : List Outputs → Stand → Stand
with_more more s = record s { left = s.left ++ more }

-- the calls of a course are those made before it and others
abbrev pub Extends : Stand → Course → Type 0
Extends s (Over t) = IsFirstOf s.calls t.calls
Extends s (Waits calls) = IsFirstOf s.calls calls
Extends s Missing = ⊥

-- each call but the one that is waited for took one of this many replies, or is one of this many
-- calls
abbrev pub Counts : ℕ → Course → Type 0
Counts n (Over t) = length t.calls + length t.left ≡ n
Counts n (Waits calls) = length calls ≡ n + 1
Counts n Missing = ⊥

-- a course with more replies leads on
abbrev pub Grows : List Outputs → Course → Course → Type 0
Grows more (Over t) d = d ≡ Over (with_more more t)
Grows more (Waits calls) d = IsFirstOf calls (asks_of d)
Grows more Missing d = ⊥

-- scans that do all this
pub record IsSteady (go : Stand → Course) : Type 0 where
  pub extends : (s : Stand) → Extends s (go s)
  pub counts : (s : Stand) → Counts (length s.calls + length s.left) (go s)
  pub grows : (more : List Outputs) → (s : Stand) → Grows more (go s) (go (with_more more s))

pub record ScansSteadily (us : ℕ) (t : Stmt) : Type 0 where
  pub steady : IsSteady (scan us t)

pub record BranchesSteadily (us : ℕ) (b : Branch) : Type 0 where
  pub steady : IsSteady (branch_scan us b).1

-- ---- first calls

first_all : (calls : List Asked) → IsFirstOf calls calls
first_all calls = record { others = []; is = sym (append-nil calls) }

first_then : (a b c : List Asked) → IsFirstOf a b → IsFirstOf b c → IsFirstOf a c
first_then a b c one two = record {
  others = one.others ++ two.others;
  is = two.is ∙ (ap (λ l. l ++ two.others) one.is ∙ append_assoc a one.others two.others);
}

-- the calls of a course that goes on from a stand begin with those of the stand
asks_first : (s : Stand) (c : Course) → Extends s c → IsFirstOf s.calls (asks_of c)
asks_first s (Over t) e = e
asks_first s (Waits calls) e = e
asks_first s Missing e = absurd e

-- ---- one scan after another

extended : (s t : Stand) (c : Course) → IsFirstOf s.calls t.calls → Extends t c → Extends s c
extended s t (Over u) e f = first_then s.calls t.calls u.calls e f
extended s t (Waits calls) e f = first_then s.calls t.calls calls e f
extended s t Missing e f = f

then_extends : (s : Stand) (c : Course) (go : Stand → Course) → Extends s c → IsSteady go →
    Extends s (then_do c go)
then_extends s (Over t) go e steady = extended s t (go t) e (steady.extends t)
then_extends s (Waits calls) go e steady = e
then_extends s Missing go e steady = e

then_counts : (n : ℕ) (c : Course) (go : Stand → Course) → Counts n c → IsSteady go →
    Counts n (then_do c go)
then_counts n (Over t) go e steady = subst (λ m. Counts m (go t)) e (steady.counts t)
then_counts n (Waits calls) go e steady = e
then_counts n Missing go e steady = e

-- a course that begins with some calls does so where it goes on
still_first : (calls : List Asked) (d : Course) (go : Stand → Course) → IsSteady go →
    IsFirstOf calls (asks_of d) → IsFirstOf calls (asks_of (then_do d go))
still_first calls (Over u) go steady first =
    first_then calls u.calls (asks_of (go u)) first (asks_first u (go u) (steady.extends u))
still_first calls (Waits others) go steady first = first
still_first calls Missing go steady first = first

then_grows : (more : List Outputs) (c d : Course) (go : Stand → Course) → Grows more c d →
    IsSteady go → Grows more (then_do c go) (then_do d go)
then_grows more (Over t) d go e steady = rw e (steady.grows more t)
then_grows more (Waits calls) d go e steady = still_first calls d go steady e
then_grows more Missing d go e steady = e

steady_then : (first : Stand → Course) (go : Stand → Course) → IsSteady first → IsSteady go →
    IsSteady (λ s. then_do (first s) go)
steady_then first go one two = record {
  extends = λ s. then_extends s (first s) go (one.extends s) two;
  counts = λ s. then_counts (length s.calls + length s.left) (first s) go (one.counts s) two;
  grows = λ more s. then_grows more (first s) (first (with_more more s)) go (one.grows more s) two;
}

steady_over : IsSteady (λ s. Over s)
steady_over = record {
  extends = λ s. first_all s.calls;
  counts = λ s. refl;
  grows = λ more s. refl;
}

-- ---- choices

choice_extends : (s : Stand) (b : Bool) (c d : Course) → Extends s c → Extends s d →
    Extends s (if b then c else d)
choice_extends s true c d one other = one
choice_extends s false c d one other = other

choice_counts : (n : ℕ) (b : Bool) (c d : Course) → Counts n c → Counts n d →
    Counts n (if b then c else d)
choice_counts n true c d one other = one
choice_counts n false c d one other = other

choice_grows : (more : List Outputs) (b : Bool) (c d e f : Course) → Grows more c e → Grows more d f →
    Grows more (if b then c else d) (if b then e else f)
choice_grows more true c d e f one other = one
choice_grows more false c d e f one other = other

-- a choice by the variables and the last replies
steady_choice : (test : List ℤ → List Outputs → Bool) (first second : Stand → Course) →
    IsSteady first → IsSteady second →
    IsSteady (λ s. if test s.vars s.last then first s else second s)
steady_choice test first second one other = record {
  extends = λ s. choice_extends s (test s.vars s.last) _ _ (one.extends s) (other.extends s);
  counts = λ s. choice_counts (length s.calls + length s.left) (test s.vars s.last) _ _ (one.counts s) (other.counts s);
  grows = λ more s. choice_grows more (test s.vars s.last) _ _ _ _ (one.grows more s)
      (other.grows more s);
}

-- ---- statements

asked_extends : (call : Asked) (s : Stand) (left : List Outputs) → Extends s (asked call s left Over)
asked_extends call s [] = record { others = call ∷ []; is = refl }
asked_extends call s (reply ∷ left) = record { others = call ∷ []; is = refl }

asked_counts : (call : Asked) (s : Stand) (left : List Outputs) →
    Counts (length s.calls + length left) (asked call s left Over)
asked_counts call s [] = grind (arith, common_steps)
asked_counts call s (reply ∷ left) = grind (arith, common_steps)

asked_grows : (more : List Outputs) (call : Asked) (s : Stand) (left : List Outputs) →
    Grows more (asked call s left Over) (asked call s (left ++ more) Over)
asked_grows [] call s [] = first_all (s.calls ++ call ∷ [])
asked_grows (reply ∷ more) call s [] = first_all (s.calls ++ call ∷ [])
asked_grows more call s (reply ∷ left) = refl

all_steady : (us : ℕ) (ts : List ((t : Stmt) × ScansSteadily us t)) →
    IsSteady (in_order (map (scan us) (map (λ t. t.0) ts)))
all_steady us [] = steady_over
all_steady us (t ∷ ts) = steady_then (scan us t.0) _ t.1.steady (all_steady us ts)

branches_steady : (us : ℕ) (bs : List ((b : Branch) × BranchesSteadily us b))
    (v : List ℤ → List Outputs → ℤ) (otherwise : Stand → Course) → IsSteady otherwise →
    IsSteady (λ s. chosen (map (branch_scan us) (map (λ b. b.0) bs)) otherwise (v s.vars s.last) s)
branches_steady us [] v otherwise steady = steady
branches_steady us (b ∷ bs) v otherwise steady =
    steady_choice (λ vars last. int_eq (v vars last) (branch_scan us b.0).0) (branch_scan us b.0).1 _
    b.1.steady (branches_steady us bs v otherwise steady)

parts_steady : (us : ℕ) (y : Stmt-F ((t : Stmt) × ScansSteadily us t) ((b : Branch) × BranchesSteadily us b)) →
    IsSteady (scan_step us (map-Stmt _ _ _ _ (scan us) (branch_scan us)
    (map-Stmt _ _ _ _ (λ t. t.0) (λ b. b.0) y)))
parts_steady us (Stmt-F.Set x e) = record {
  extends = λ s. first_all s.calls;
  counts = λ s. refl;
  grows = λ more s. refl;
}
parts_steady us (Stmt-F.Call k e given) = record {
  extends = λ s. asked_extends (call_of us k e given.items s) s s.left;
  counts = λ s. asked_counts (call_of us k e given.items s) s s.left;
  grows = λ more s. asked_grows more (call_of us k e given.items s) s s.left;
}
parts_steady us (Stmt-F.If e held otherwise) =
    steady_choice (λ vars last. is_true (value_of e vars last)) _ _ (all_steady us held.items)
    (all_steady us otherwise.items)
parts_steady us (Stmt-F.Case e branches otherwise) =
    branches_steady us branches.items (λ vars last. value_of e vars last) _
    (all_steady us otherwise.items)

stmt_steady : (us : ℕ) (t : Stmt) → ScansSteadily us t
stmt_steady us = ind-Stmt (ScansSteadily us) (BranchesSteadily us)
    (λ x y is. subst (λ z. ScansSteadily us (roll-Stmt z)) is (record {
      steady =
          subst IsSteady (sym (fold-roll-Stmt (Stand → Course) (ℤ × (Stand → Course)) (scan_step us)
          branch_step (map-Stmt _ _ _ _ (λ t. t.0) (λ b. b.0) y))) (parts_steady us y);
    }))
    (λ x y is. subst (λ z. BranchesSteadily us (roll-Branch z)) is (record {
      steady =
          subst (λ (p : ℤ × (Stand → Course)). IsSteady p.1) (sym (fold-roll-Branch (Stand → Course)
          (ℤ × (Stand → Course)) (scan_step us) branch_step (map-Branch _ _ _ _ (λ t. t.0) (λ b. b.0) y)))
          (all_steady us y.body.items);
    }))

in_order_steady : (us : ℕ) (ts : List Stmt) → IsSteady (in_order (map (scan us) ts))
in_order_steady us [] = steady_over
in_order_steady us (t ∷ ts) = steady_then (scan us t) _ (stmt_steady us t).steady (in_order_steady us ts)

-- ---- whole scans

grown_first : (more : List Outputs) (c d : Course) → Grows more c d → IsFirstOf (asks_of c) (asks_of d)
grown_first more (Over t) d e = rw e (first_all t.calls)
grown_first more (Waits calls) d e = e
grown_first more Missing d e = absurd e

counted_of : (n : ℕ) (c : Course) (calls : List Asked) → Counts n c → c ≡ Waits calls →
    length calls ≡ n + 1
counted_of n (Over t) calls e is = absurd (cc)
counted_of n (Waits others) calls e is =
    let same : others ≡ calls = cc in
    ap (λ l. length l) (sym same) ∙ e
counted_of n Missing calls e is = absurd e

ended_of : (n : ℕ) (c : Course) (s : Stand) → Counts n c → c ≡ Over s →
    length s.calls + length s.left ≡ n
ended_of n (Over t) s e is =
    let same : t ≡ s = cc in
    ap (λ (u : Stand). length u.calls + length u.left) (sym same) ∙ e
ended_of n (Waits others) s e is = absurd (cc)
ended_of n Missing s e is = absurd e

-- the scans of a body make their calls in order
pub asks_in_order : (us : ℕ) (body : List Stmt) → AsksInOrder us body
unfolding scan_of
asks_in_order us body = record {
  first = λ vars last replies more. grown_first more _ _
      ((in_order_steady us body).grows more (at_first vars last replies));
  waits = λ vars last replies calls is.
      omega (
        arith,
        counted_of (0 + length replies) _ calls
            ((in_order_steady us body).counts (at_first vars last replies)) is,
      );
  over = λ vars last replies s is.
      omega (
        arith,
        ended_of (0 + length replies) _ s
            ((in_order_steady us body).counts (at_first vars last replies)) is,
      );
}
