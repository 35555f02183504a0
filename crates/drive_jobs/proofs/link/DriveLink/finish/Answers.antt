-- The log of a drive that took all.
use Rattle.std.proofs.Common.{◌++◌, sym, ap, ◌∙◌}
use mathlib.Core.List.{IsPrefix}
use Rattle.setpoint_ring.specs.Sides.{DriveSide, KernelSide}
use Rattle.drive_jobs.specs.DriveLinkState.{DriveLinkState}
use Rattle.drive_jobs.proofs.AnswerLaws.{answered_once, kept_answered, log_of}
use Rattle.drive_jobs.proofs.link.DriveLink.finish.Goals as goal

-- it answered, at least at opening
pub finish-requires : goal.finish-requires
finish-requires c = record {
  answered = λ none.
      let sent = ap (λ (s : DriveSide). s.sent) c.beside.ensures.drive in
      answered_once c.args.self.now.job.drive c.args.end.drive c.args.end.end c.requires.done.answered (sym sent ∙ none);
}

-- it took all that the kernel sent, since it saw the end
pub returns : goal.returns
returns c =
    let sent = ap (λ (s : DriveSide). s.sent) c.beside.ensures.drive in
    let taken = ap (λ (s : DriveSide). s.taken) c.beside.ensures.drive in
    let all = taken ∙ c.beside.ensures.all c.requires.done.ended ∙ ap (λ (l : DriveLinkState). l.outs) c.self.view_is in
    let ins = ap (λ (k : KernelSide). k.taken) c.beside.ensures.kernel ∙ ap (λ (l : DriveLinkState). l.ins) c.self.view_is in
    let begins : IsPrefix c.args.self.now.ins c.beside.new.drive.sent =
    (c.beside.new.kernel.waiting, ap (λ xs. xs ++ c.beside.new.kernel.waiting) (sym ins) ∙ c.beside.ensures.beside.answers) in
    let answered = kept_answered c.args.self.now.job.drive c.args.end.drive c.args.end.end c.beside.new.drive c.requires.done.answered sent taken in
    record {
      log = log_of c.args.self.now.job.drive c.args.end.drive c.beside.new.drive c.args.self.now.outs c.args.self.now.ins c.finish.result answered all begins
          c.finish.ensures.took c.finish.ensures.taken c.finish.ensures.sent c.finish.ensures.last;
    }
