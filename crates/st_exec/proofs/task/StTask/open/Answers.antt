-- A task that was opened begins a scan.
use Rattle.std.proofs.Common.{ap, refl, ◌≡◌, ◌∙◌, length, arith}
use Rattle.st_exec.specs.Compiled.{TaskProgram, program_at}
use Rattle.st_exec.proofs.Tasks.{begins_follows}
use Rattle.st_exec.proofs.task.StTask.open.Goals as goal

pub returns : goal.returns
returns c =
    let code_is : c.task-program.result.now.instructions.items ≡
    (program_at c.args.code.now c.args.task).code =
    ap (λ (p : TaskProgram). p.code) c.task-program.ensures.value in
    let len_is : c.len-room.result ≡ length (program_at c.args.code.now c.args.task).code =
    omega (
      arith,
      c.len-room.ensures,
      c.task-program.result.now.instructions.ok.0,
      ap (λ l. length l) code_is,
    ) in
    record {
      task = refl;
      vars = c.in_ok-vars.ensures ∙ (c.as_slice.ensures.value ∙
          ap (λ (p : TaskProgram). p.start) c.task-program.ensures.value);
      last = c.in_ok-last.ensures;
      got = c.in_ok-got.ensures.items;
      asked = refl;
      follows = begins_follows c.args.code.now _ (record {
        there = c.requires;
        place = refl;
        stack = c.in_ok-stack.ensures.items;
        inputs = refl;
        vars = c.in_ok-copied.ensures ∙ c.as_slice-2.ensures.value;
        last = c.in_ok-copied-2.ensures ∙ c.as_slice-3.ensures.value;
        got = c.in_ok-got.ensures.items;
        asked = refl;
        stack_room = omega (arith, len_is, c.in_ok-stack.ensures.room);
        got_room = omega (arith, len_is, c.in_ok-got.ensures.room);
      });
    }
