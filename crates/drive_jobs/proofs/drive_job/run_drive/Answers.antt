-- One output more is answered.
use Rattle.std.proofs.Common.{rules, ◌∷◌, [], length, ap, arith, length-append}
use Rattle.setpoint_ring.specs.Sides.{DriveSide}
use Rattle.drive_jobs.proofs.AnswerLaws.{answered_more, answers_counted}
use Rattle.drive_jobs.proofs.drive_job.run_drive.Goals as goal

pub answer_one-requires-clause-number : goal.answer_one-requires-clause-number
answer_one-requires-clause-number g c =
    let t = c.in-Some-take.ensures.taken in
    let s = ap (λ (e : DriveSide). length e.sent) t in
    let k = ap (λ (e : DriveSide). length e.taken) t in
    let l = length-append c.loop.end.taken (c.in-Some-take.output.item ∷ []) in
    let n = c.in-Some-take.ensures.number in
    let f = answers_counted c.args.drive.now c.loop.drive c.loop.end c.loop.invariant.1 in
    omega arith

pub loop-preserved-in-Some-take : goal.loop-preserved-in-Some-take
loop-preserved-in-Some-take g c = (
  search rules,
  answered_more c.args.drive.now c.loop.drive c.answer_one.new.drive c.loop.end c.answer_one.new.end c.in-Some-take.output.item c.loop.invariant.1 (search rules) (search rules) (search rules),
)
