-- What a task gives is what the scan says, and it follows its code.
use Rattle.std.proofs.Common.{◌≡◌, Some, None, ap, subst, ◌∙◌}
use Rattle.st_exec.specs.Compiled.{TaskProgram, is_ended}
use Rattle.st_exec.specs.Following.{code_at, end_of_scan}
use Rattle.st_exec.specs.Standing.{Advances, StopsAt}
use Rattle.st_exec.proofs.Tasks.{may_run, reset_follows, says_call, says_end}
use Rattle.st_exec.proofs.task.StTask.next.Goals as goal

pub walk-stop-requires-clause-run : goal.walk-stop-requires-clause-run
walk-stop-requires-clause-run c =
    rw (
      c.cycle_us.ensures.value,
      c.as_slice.ensures.value,
      ap (λ (p : TaskProgram). p.code) c.task-program.ensures.value,
    )
    (may_run c.args.code.now c.args.self.now c.task-program.ensures.sound c.requires.follows)

pub returns-in-Some-clause-says : goal.returns-in-Some-clause-says
returns-in-Some-clause-says c = λ t tree_is.
    let code_is : c.as_slice.result.now ≡ code_at c.args.code.now c.args.self.now =
    c.as_slice.ensures.value ∙ ap (λ (p : TaskProgram). p.code) c.task-program.ensures.value in
    let advances : Advances c.args.code.now.us (code_at c.args.code.now c.args.self.now)
    c.args.self.now.place c.args.self.now.machine c.walk-stop.result.place c.walk-stop.new.machine =
    subst (λ us. Advances us (code_at c.args.code.now c.args.self.now) c.args.self.now.place
    c.args.self.now.machine c.walk-stop.result.place c.walk-stop.new.machine) c.cycle_us.ensures.value
    (subst (λ l. Advances c.cycle_us.result l c.args.self.now.place c.args.self.now.machine
    c.walk-stop.result.place c.walk-stop.new.machine) code_is c.walk-stop.ensures.advances) in
    let stops : StopsAt (code_at c.args.code.now c.args.self.now) c.walk-stop.result.place
    (Some c.in-Some.instance) =
    subst (λ a. StopsAt (code_at c.args.code.now c.args.self.now) c.walk-stop.result.place a) c.in-Some.is
    (subst (λ l. StopsAt l c.walk-stop.result.place c.walk-stop.result.asked) code_is
    c.walk-stop.ensures.stops) in
    says_call c.args.code.now c.args.self.now c.call.new.self c.walk-stop.new.machine
    c.walk-stop.result.place c.in-Some.instance c.call.result t c.requires.follows advances stops
    c.call.ensures.task c.call.ensures.call tree_is

pub returns-in-None-clause-says : goal.returns-in-None-clause-says
returns-in-None-clause-says c = λ t tree_is.
    let code_is : c.as_slice.result.now ≡ code_at c.args.code.now c.args.self.now =
    c.as_slice.ensures.value ∙ ap (λ (p : TaskProgram). p.code) c.task-program.ensures.value in
    let advances : Advances c.args.code.now.us (code_at c.args.code.now c.args.self.now)
    c.args.self.now.place c.args.self.now.machine c.walk-stop.result.place c.walk-stop.new.machine =
    subst (λ us. Advances us (code_at c.args.code.now c.args.self.now) c.args.self.now.place
    c.args.self.now.machine c.walk-stop.result.place c.walk-stop.new.machine) c.cycle_us.ensures.value
    (subst (λ l. Advances c.cycle_us.result l c.args.self.now.place c.args.self.now.machine
    c.walk-stop.result.place c.walk-stop.new.machine) code_is c.walk-stop.ensures.advances) in
    let past : StopsAt (code_at c.args.code.now c.args.self.now) c.walk-stop.result.place None =
    subst (λ a. StopsAt (code_at c.args.code.now c.args.self.now) c.walk-stop.result.place a) c.in-None.is
    (subst (λ l. StopsAt l c.walk-stop.result.place c.walk-stop.result.asked) code_is
    c.walk-stop.ensures.stops) in
    says_end c.args.code.now c.args.self.now c.end_scan.new.self c.walk-stop.new.machine
    c.walk-stop.result.place c.end_scan.result t c.requires.follows advances past
    c.end_scan.ensures.reset c.requires.answered
    (c.end_scan.ensures.end ∙
    ap (λ (p : TaskProgram). end_of_scan (is_ended p.finished c.walk-stop.new.machine.vars.items))
    c.task-program.ensures.value)
    tree_is

pub returns-in-None-clause-follows : goal.returns-in-None-clause-follows
returns-in-None-clause-follows c =
    let code_is : c.as_slice.result.now ≡ code_at c.args.code.now c.args.self.now =
    c.as_slice.ensures.value ∙ ap (λ (p : TaskProgram). p.code) c.task-program.ensures.value in
    reset_follows c.args.code.now c.args.self.now c.end_scan.new.self c.walk-stop.new.machine
    c.walk-stop.result.place c.requires.follows
    (subst (λ us. Advances us (code_at c.args.code.now c.args.self.now) c.args.self.now.place
    c.args.self.now.machine c.walk-stop.result.place c.walk-stop.new.machine) c.cycle_us.ensures.value
    (subst (λ l. Advances c.cycle_us.result l c.args.self.now.place c.args.self.now.machine
    c.walk-stop.result.place c.walk-stop.new.machine) code_is c.walk-stop.ensures.advances))
    c.end_scan.ensures.reset c.requires.answered
