-- One statement or branch more spells what was gone over after those before, and what follows is
-- what the builder looks for.
use Rattle.std.proofs.Common.{◌≡◌, ◌≤◌, ◌-◌, [], ◌∷◌, true, false, drop, length, sym, subst, ◌∙◌, refl, arith}
use Rattle.st_tree.specs.Parts.{branch_parts, stmt_parts}
use Rattle.st_tree.specs.Places.{Branch, Inside, Leads, Otherwise, Selected, Then}
use Rattle.st_tree.specs.declared.part.Part.TheVariants as part
use Rattle.st_build.proofs.Lists.{pushed_over}
use Rattle.st_build.proofs.Spelled.{case_spelled, if_spelled, set_spelled}
use Rattle.st_build.proofs.Ways.{case_else, case_end, case_otherwise, if_else, if_end, if_otherwise, on_passes, passes_on, passes_one, room_inside, room_selected}
use Rattle.st_build.proofs.statement.+statement.Goals as goal

pub body_at-statement_at-requires : goal.body_at-statement_at-requires
body_at-statement_at-requires t c = (
  omega (arith, c.decreases, c.loop-alloc.invariant.onward),
  (
    record { around = c.requires.around; leads = (c.loop-alloc.invariant.passes c.requires.around).leads c.requires.leads },
    sym c.begins.ensures ∙ c.loop-alloc-test.true,
  ),
)

pub body_at-loop-alloc-preserved : goal.body_at-loop-alloc-preserved
body_at-loop-alloc-preserved t c = record {
  spelled = pushed_over stmt_parts (drop c.args.at.now c.args.parts.now) c.loop-alloc.body.items c.push.new.list.items c.in_ok-statement.statement
      (drop c.loop-alloc.at c.args.parts.now) (drop c.statement_at.new.at c.args.parts.now)
      c.loop-alloc.invariant.spelled c.in_ok-statement.ensures.spelled c.in_ok-push.ensures;
  passes = λ around. passes_on (Inside 0 false around) (Inside 0 false around) (Inside 0 false around) _ _ _ (c.loop-alloc.invariant.passes around) (c.in_ok-statement.ensures.passes around);
  onward = omega (arith, c.loop-alloc.invariant.onward, c.in_ok-statement.ensures.onward);
}

pub branch_at-body_at-requires : goal.branch_at-body_at-requires
branch_at-body_at-requires t c =
    let room : 1 ≤ length c.args.parts.now - c.args.at.now =
    room_selected c.requires.selected.around c.args.at.now c.args.parts.now c.requires.selected.leads in (
      omega (arith, c.decreases, c.in-Branch.ensures.onward, room),
      record {
        around = Branch ∷ c.requires.selected.around;
        leads = subst (Leads (Selected c.requires.selected.around)) c.in-Branch.ensures.next c.requires.selected.leads;
      },
    )

pub branches_at-branch_at-requires : goal.branches_at-branch_at-requires
branches_at-branch_at-requires t c = (
  omega (arith, c.decreases, c.loop-alloc.invariant.onward),
  (
    record { around = c.requires.around; leads = (c.loop-alloc.invariant.passes c.requires.around).leads c.requires.leads },
    sym c.branches.ensures ∙ c.loop-alloc-test.true,
  ),
)

pub branches_at-loop-alloc-preserved : goal.branches_at-loop-alloc-preserved
branches_at-loop-alloc-preserved t c = record {
  spelled = pushed_over branch_parts (drop c.args.at.now c.args.parts.now) c.loop-alloc.found.items c.push.new.list.items c.in_ok-branch.branch
      (drop c.loop-alloc.at c.args.parts.now) (drop c.branch_at.new.at c.args.parts.now)
      c.loop-alloc.invariant.spelled c.in_ok-branch.ensures.spelled c.in_ok-push.ensures;
  passes = λ around. passes_on (Selected around) (Selected around) (Selected around) _ _ _ (c.loop-alloc.invariant.passes around) (c.in_ok-branch.ensures.passes around);
  onward = omega (arith, c.loop-alloc.invariant.onward, c.in_ok-branch.ensures.onward);
}

pub case_at-branches_at-requires : goal.case_at-branches_at-requires
case_at-branches_at-requires t c = (omega (arith, c.decreases), c.requires)

pub case_at-body_at-requires : goal.case_at-body_at-requires
case_at-body_at-requires t c =
    let a = c.requires.around in (
      omega (arith, c.decreases, c.in_ok-branches.ensures.onward, c.go_over.ensures.onward),
      record {
        around = Otherwise true ∷ a;
        leads = case_otherwise a _ _ _ [] [] c.requires.leads (c.in_ok-branches.ensures.passes a) c.in_ok-branches.ensures.ended c.go_over.ensures.rest;
      },
    )

pub case_at-returns-clause-spelled : goal.case_at-returns-clause-spelled
case_at-returns-clause-spelled t c =
    let a = c.requires.around in
    let first : drop c.branches_at.new.at c.args.parts.now ≡ part.Else ∷ drop c.go_over.new.at c.args.parts.now =
    case_else a _ _ _ [] [] c.requires.leads (c.in_ok-branches.ensures.passes a) c.in_ok-branches.ensures.ended c.go_over.ensures.rest in
    let last : drop c.body_at.new.at c.args.parts.now ≡ part.EndCase ∷ drop c.go_over-2.new.at c.args.parts.now =
    case_end a _ _ _ _ _ c.requires.leads (c.in_ok-branches.ensures.passes a) c.in_ok-branches.ensures.ended c.go_over.ensures.rest
    (c.in_ok-otherwise.ensures.passes (Otherwise true ∷ a)) c.in_ok-otherwise.ensures.ended c.go_over-2.ensures.rest in
    case_spelled c.args.selector c.in_ok-branches.branches c.in_ok-otherwise.otherwise _ _ _ _ _ c.in_ok-branches.ensures.spelled first c.in_ok-otherwise.ensures.spelled last

pub case_at-returns-clause-passes : goal.case_at-returns-clause-passes
case_at-returns-clause-passes t c = λ around.
    let a = c.requires.around in
    let first : drop c.branches_at.new.at c.args.parts.now ≡ part.Else ∷ drop c.go_over.new.at c.args.parts.now =
    case_else a _ _ _ [] [] c.requires.leads (c.in_ok-branches.ensures.passes a) c.in_ok-branches.ensures.ended c.go_over.ensures.rest in
    let last : drop c.body_at.new.at c.args.parts.now ≡ part.EndCase ∷ drop c.go_over-2.new.at c.args.parts.now =
    case_end a _ _ _ _ _ c.requires.leads (c.in_ok-branches.ensures.passes a) c.in_ok-branches.ensures.ended c.go_over.ensures.rest
    (c.in_ok-otherwise.ensures.passes (Otherwise true ∷ a)) c.in_ok-otherwise.ensures.ended c.go_over-2.ensures.rest in
    passes_on (Selected around) (Selected around) (Inside 0 false around) _ _ _ (c.in_ok-branches.ensures.passes around)
    (passes_on (Selected around) (Inside 0 false (Otherwise true ∷ around)) (Inside 0 false around) _ _ _
    (passes_one part.Else (Selected around) (Inside 0 false (Otherwise true ∷ around)) _ _ refl refl refl first)
    (passes_on (Inside 0 false (Otherwise true ∷ around)) (Inside 0 false (Otherwise true ∷ around)) (Inside 0 false around) _ _ _
    (c.in_ok-otherwise.ensures.passes (Otherwise true ∷ around))
    (passes_one part.EndCase (Inside 0 false (Otherwise true ∷ around)) (Inside 0 false around) _ _ refl refl refl last)))

pub if_at-body_at-requires : goal.if_at-body_at-requires
if_at-body_at-requires t c = (omega (arith, c.decreases), record { around = Then ∷ c.requires.around; leads = c.requires.leads })

pub if_at-body_at-requires-2 : goal.if_at-body_at-requires-2
if_at-body_at-requires-2 t c =
    let a = c.requires.around in (
      omega (arith, c.decreases, c.in_ok-then.ensures.onward, c.go_over.ensures.onward),
      record {
        around = Otherwise false ∷ a;
        leads = if_otherwise a _ _ _ [] [] c.requires.leads (c.in_ok-then.ensures.passes (Then ∷ a)) c.in_ok-then.ensures.ended c.go_over.ensures.rest;
      },
    )

pub if_at-returns-clause-spelled : goal.if_at-returns-clause-spelled
if_at-returns-clause-spelled t c =
    let a = c.requires.around in
    let first : drop c.body_at.new.at c.args.parts.now ≡ part.Else ∷ drop c.go_over.new.at c.args.parts.now =
    if_else a _ _ _ [] [] c.requires.leads (c.in_ok-then.ensures.passes (Then ∷ a)) c.in_ok-then.ensures.ended c.go_over.ensures.rest in
    let last : drop c.body_at-2.new.at c.args.parts.now ≡ part.EndIf ∷ drop c.go_over-2.new.at c.args.parts.now =
    if_end a _ _ _ _ _ c.requires.leads (c.in_ok-then.ensures.passes (Then ∷ a)) c.in_ok-then.ensures.ended c.go_over.ensures.rest
    (c.in_ok-otherwise.ensures.passes (Otherwise false ∷ a)) c.in_ok-otherwise.ensures.ended c.go_over-2.ensures.rest in
    if_spelled c.args.condition c.in_ok-then.then c.in_ok-otherwise.otherwise _ _ _ _ _ c.in_ok-then.ensures.spelled first c.in_ok-otherwise.ensures.spelled last

pub if_at-returns-clause-passes : goal.if_at-returns-clause-passes
if_at-returns-clause-passes t c = λ around.
    let a = c.requires.around in
    let first : drop c.body_at.new.at c.args.parts.now ≡ part.Else ∷ drop c.go_over.new.at c.args.parts.now =
    if_else a _ _ _ [] [] c.requires.leads (c.in_ok-then.ensures.passes (Then ∷ a)) c.in_ok-then.ensures.ended c.go_over.ensures.rest in
    let last : drop c.body_at-2.new.at c.args.parts.now ≡ part.EndIf ∷ drop c.go_over-2.new.at c.args.parts.now =
    if_end a _ _ _ _ _ c.requires.leads (c.in_ok-then.ensures.passes (Then ∷ a)) c.in_ok-then.ensures.ended c.go_over.ensures.rest
    (c.in_ok-otherwise.ensures.passes (Otherwise false ∷ a)) c.in_ok-otherwise.ensures.ended c.go_over-2.ensures.rest in
    passes_on (Inside 0 false (Then ∷ around)) (Inside 0 false (Then ∷ around)) (Inside 0 false around) _ _ _ (c.in_ok-then.ensures.passes (Then ∷ around))
    (passes_on (Inside 0 false (Then ∷ around)) (Inside 0 false (Otherwise false ∷ around)) (Inside 0 false around) _ _ _
    (passes_one part.Else (Inside 0 false (Then ∷ around)) (Inside 0 false (Otherwise false ∷ around)) _ _ refl refl refl first)
    (passes_on (Inside 0 false (Otherwise false ∷ around)) (Inside 0 false (Otherwise false ∷ around)) (Inside 0 false around) _ _ _
    (c.in_ok-otherwise.ensures.passes (Otherwise false ∷ around))
    (passes_one part.EndIf (Inside 0 false (Otherwise false ∷ around)) (Inside 0 false around) _ _ refl refl refl last)))

pub statement_at-if_at-requires : goal.statement_at-if_at-requires
statement_at-if_at-requires t c =
    let a = c.requires.inside.around in
    let room : 1 ≤ length c.args.parts.now - c.args.at.now = room_inside 0 false a c.args.at.now c.args.parts.now c.requires.inside.leads in (
      omega (arith, c.decreases, c.in_ok-value.ensures.onward, c.in-If.ensures.onward, room),
      record {
        around = a;
        leads = subst (Leads (Inside 1 false a)) c.in-If.ensures.next ((c.in_ok-value.ensures.passes false a).leads c.requires.inside.leads);
      },
    )

pub statement_at-case_at-requires : goal.statement_at-case_at-requires
statement_at-case_at-requires t c =
    let a = c.requires.inside.around in
    let room : 1 ≤ length c.args.parts.now - c.args.at.now = room_inside 0 false a c.args.at.now c.args.parts.now c.requires.inside.leads in (
      omega (arith, c.decreases, c.in_ok-value.ensures.onward, c.in-Case.ensures.onward, room),
      record {
        around = a;
        leads = subst (Leads (Inside 1 false a)) c.in-Case.ensures.next ((c.in_ok-value.ensures.passes false a).leads c.requires.inside.leads);
      },
    )

pub statement_at-returns-in-Set-clause-spelled : goal.statement_at-returns-in-Set-clause-spelled
statement_at-returns-in-Set-clause-spelled t c =
    let next : drop c.expr_at.new.at c.args.parts.now ≡ part.Set c.in-Set.variable ∷ drop c.next.new.at c.args.parts.now = c.in-Set.ensures.next in
    set_spelled c.in-Set.variable c.in_ok-value.value _ _ _ c.in_ok-value.ensures.spelled next

pub statement_at-returns-in-Execute-clause-passes : goal.statement_at-returns-in-Execute-clause-passes
statement_at-returns-in-Execute-clause-passes t c = λ around.
    on_passes c.call_at.result (Inside 0 false around) (Inside 0 true around) (Inside 0 false around) _ _ _
    (passes_on (Inside 0 false around) (Inside 1 false around) (Inside 0 true around) _ _ _ (c.in_ok-value.ensures.passes false around)
    (passes_one (part.Execute c.in-Execute.instance) (Inside 1 false around) (Inside 0 true around) _ _ refl refl refl c.in-Execute.ensures.next))
    (c.call_at.ensures.passes around)

pub statement_at-returns-in-If-clause-passes : goal.statement_at-returns-in-If-clause-passes
statement_at-returns-in-If-clause-passes t c = λ around.
    on_passes c.if_at.result (Inside 0 false around) (Inside 0 false (Then ∷ around)) (Inside 0 false around) _ _ _
    (passes_on (Inside 0 false around) (Inside 1 false around) (Inside 0 false (Then ∷ around)) _ _ _ (c.in_ok-value.ensures.passes false around)
    (passes_one part.If (Inside 1 false around) (Inside 0 false (Then ∷ around)) _ _ refl refl refl c.in-If.ensures.next))
    (c.if_at.ensures.passes around)

pub statement_at-returns-in-Case-clause-passes : goal.statement_at-returns-in-Case-clause-passes
statement_at-returns-in-Case-clause-passes t c = λ around.
    on_passes c.case_at.result (Inside 0 false around) (Selected around) (Inside 0 false around) _ _ _
    (passes_on (Inside 0 false around) (Inside 1 false around) (Selected around) _ _ _ (c.in_ok-value.ensures.passes false around)
    (passes_one part.Case (Inside 1 false around) (Selected around) _ _ refl refl refl c.in-Case.ensures.next))
    (c.case_at.ensures.passes around)
