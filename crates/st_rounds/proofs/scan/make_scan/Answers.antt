-- A scan goes on after each call, and is over or ends the run.
use Rattle.std.specs.Prelude.{[], false, true}
use Rattle.std.proofs.lemmas.Result.{err_from_is_err_and}
use Rattle.st_rounds.proofs.ScanEnds.{ends-full, ends-over, goes-over, over-between, stops}
use Rattle.st_rounds.proofs.ScanLaws.{goes-on, kernel-takes-call, less-room, scanning-begins}
use Rattle.st_rounds.proofs.scan.make_scan.Goals as goal

pub loop-instance-init : goal.loop-instance-init
loop-instance-init c =
    scanning-begins c.args.cell.now c.args.number c.args.kernel.now.kernel c.args.task.now
    c.requires.config c.requires.runs c.requires.task

pub make_call-requires-clause-call : goal.make_call-requires-clause-call
make_call-requires-clause-call c =
    kernel-takes-call c.args.cell.now c.args.number c.loop-instance.kernel.kernel c.loop-instance.task
    c.next.new.self c.in-Call.instance c.in-Call.inputs c.requires.ready
    c.loop-instance.invariant.config c.loop-instance.invariant.number
    c.loop-instance.invariant.follows c.in-Call.ensures.says

pub returns-in_err-reply-in-Call-clause-made : goal.returns-in_err-reply-in-Call-clause-made
returns-in_err-reply-in-Call-clause-made c = λ t there drives.
    let p = err_from_is_err_and c.from_residual.result c.from_residual.ensures.1 in
    rw (p.1, p.2) (stops c.args.cell.now c.args.number c.loop-instance.kernel.kernel
    c.make_call.new.kernel.kernel c.args.kernel.now.kernel c.loop-instance.task c.args.task.now
    c.in_err-reply-in-Call.field-0.0 c.loop-instance.invariant
    (record {
      instance = c.in-Call.instance;
      inputs = c.in-Call.inputs;
      asking = c.next.new.self;
      says = c.in-Call.ensures.says;
      made = c.in_err-reply-in-Call.ensures.made;
    }) t there drives)

pub loop-instance-smaller : goal.loop-instance-smaller
loop-instance-smaller c =
    less-room c.loop-instance.kernel.kernel c.make_call.new.kernel.kernel c.in-Call.instance c.in-Call.inputs
    c.make_call.ensures.config (c.in_ok-reply-in-Call.ensures.made [])

pub loop-instance-preserved : goal.loop-instance-preserved
loop-instance-preserved c =
    goes-on c.args.cell.now c.args.number c.loop-instance.kernel.kernel c.make_call.new.kernel.kernel
    c.args.kernel.now.kernel c.loop-instance.task c.answered.new.self c.args.task.now
    c.loop-instance.invariant
    (record {
      instance = c.in-Call.instance;
      inputs = c.in-Call.inputs;
      reply = c.in_ok-reply-in-Call.reply;
      asking = c.next.new.self;
      says = c.in-Call.ensures.says;
      config = c.make_call.ensures.config;
      runs = c.make_call.ensures.runs;
      made = c.in_ok-reply-in-Call.ensures.made;
      replied = c.in_ok-reply-in-Call.ensures.reply;
      answered = c.answered.ensures.answered;
      follows = c.answered.ensures.follows c.args.cell.now.code c.in-Call.ensures.follows;
    })

pub returns-in-ScanDone-clause-made : goal.returns-in-ScanDone-clause-made
returns-in-ScanDone-clause-made c =
    goes-over c.args.cell.now c.args.number c.loop-instance.kernel.kernel c.args.kernel.now.kernel
    c.loop-instance.task c.next.new.self c.args.task.now c.loop-instance.invariant
    c.in-ScanDone.ensures.says

pub returns-in-ScanDone-clause-task : goal.returns-in-ScanDone-clause-task
returns-in-ScanDone-clause-task c =
    over-between c.args.cell.now c.args.number c.loop-instance.task c.next.new.self false
    c.loop-instance.invariant.number c.loop-instance.invariant.follows c.in-ScanDone.ensures.says
    c.in-ScanDone.ensures.follows

pub returns-in_err-make_end-in-End-clause-made : goal.returns-in_err-make_end-in-End-clause-made
returns-in_err-make_end-in-End-clause-made c = λ t there drives.
    let p = err_from_is_err_and c.from_residual-in_err-make_end-in-End.result
    c.from_residual-in_err-make_end-in-End.ensures.1 in
    rw (p.1, p.2) (ends-full c.args.cell.now c.args.number c.loop-instance.kernel.kernel
    c.make_end.new.kernel.kernel c.args.kernel.now.kernel c.loop-instance.task c.next.new.self c.args.task.now
    c.in_err-make_end-in-End.field-0.0 c.loop-instance.invariant c.in-End.ensures.says
    c.in_err-make_end-in-End.ensures.made t there drives)

pub returns-in-End-clause-made : goal.returns-in-End-clause-made
returns-in-End-clause-made c =
    ends-over c.args.cell.now c.args.number c.loop-instance.kernel.kernel c.make_end.new.kernel.kernel
    c.args.kernel.now.kernel c.loop-instance.task c.next.new.self c.args.task.now
    c.loop-instance.invariant c.in-End.ensures.says c.in_ok-make_end-in-End.ensures.made

pub returns-in-End-clause-task : goal.returns-in-End-clause-task
returns-in-End-clause-task c =
    over-between c.args.cell.now c.args.number c.loop-instance.task c.next.new.self true
    c.loop-instance.invariant.number c.loop-instance.invariant.follows c.in-End.ensures.says
    c.in-End.ensures.follows
