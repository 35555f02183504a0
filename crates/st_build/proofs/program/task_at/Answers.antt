-- A task spells what was gone over.
use Rattle.std.proofs.Common.{◌≡◌, false, [], ◌∷◌, drop, length, subst}
use Rattle.st_tree.specs.Parts.{body_parts, declared_parts}
use Rattle.st_tree.specs.Places.{Declaring, Inside, Leads}
use Rattle.st_tree.specs.declared.part.Part.TheVariants as part
use Rattle.st_build.proofs.Tasks.{task_is}
use Rattle.st_build.proofs.Ways.{gone_over, task_end_follows, task_follows}
use Rattle.st_build.proofs.program.task_at.Goals as goal

pub returns-clause-parts : goal.returns-clause-parts
returns-clause-parts c =
    let first : drop c.args.at.now c.args.parts.now ≡ part.Task ∷ drop c.go_over.new.at c.args.parts.now =
    gone_over part.Task _ _ (task_follows _ c.requires.ahead.leads c.requires.some) c.go_over.ensures.rest in
    let inside : Leads (Inside 0 false []) (drop c.go_over_body-count.new.at c.args.parts.now) =
    subst (Leads Declaring) c.go_over_body-count.ensures.body c.in_ok-variables.ensures.ahead.leads in
    let last : drop c.body_at.new.at c.args.parts.now ≡ part.TaskEnd ∷ drop c.go_over-2.new.at c.args.parts.now =
    gone_over part.TaskEnd _ _ (task_end_follows _ ((c.in_ok-body.ensures.passes []).leads inside) c.in_ok-body.ensures.ended) c.go_over-2.ensures.rest in
    task_is (declared_parts c.in_ok-variables.variables.items) (body_parts c.in_ok-body.body.items) _ _ _ _ _ _
    c.go_over_body-count.result (length c.in_ok-blocks.blocks.items)
    first c.in_ok-variables.ensures.parts c.go_over_body-count.ensures.body c.in_ok-blocks.ensures.counted
    c.in_ok-body.ensures.spelled last
