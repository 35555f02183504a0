-- The code of a task is the one that contracts see.
use Rattle.std.proofs.Common.{◌≡◌, ◌<◌, length, ap, sym, ◌∙◌, slice_index_or, arith}
use Rattle.std.proofs.lemmas.Grind.{common_steps}
use Rattle.std.proofs.lemmas.List.{get_or-map}
use Rattle.st_exec.specs.Compiled.{Compiled, no_program, program_at, seen}
use Rattle.st_exec.proofs.code.StCode.task.Goals as goal

pub returns-clause-value : goal.returns-clause-value
unfolding program_at
returns-clause-value c =
    let there : c.args.task < length c.self.inside.tasks.items = grind (arith, common_steps) in
    let is : c.index.result.now ≡
    slice_index_or c.self.inside.tasks.items c.args.task c.index.result.now = c.index.ensures in
    ap seen is ∙
    (sym (get_or-map seen c.self.inside.tasks.items c.args.task c.index.result.now no_program there) ∙
    ap (λ (v : Compiled). slice_index_or v.tasks c.args.task no_program) c.self.view_is)
