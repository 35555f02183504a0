-- A drive's answers, output by output.
-- for: work_drive
use Rattle.std.proofs.Common.{◌≡◌, suc, List, [], ◌∷◌, ◌++◌, length, Option, Some, None, refl, sym, ap, subst, ◌∙◌, arith}
use mathlib.Core.List.{IsPrefix}
use Rattle.std.specs.List.{last_or}
use Rattle.plc_types.specs.declared.drive.DriveIn.{DriveIn}
use Rattle.plc_types.specs.declared.drive.DriveOut.{DriveOut}
use Rattle.setpoint_ring.specs.declared.logs.DriveLog.{DriveLog}
use Rattle.drive_sim.specs.Runs.{answers_of, drive_after}
use Rattle.drive_sim.specs.Sim.{DriveSim}
use Rattle.drive_sim.specs.Steps.{answer_of, drive_stepped}
use Rattle.setpoint_ring.specs.Sides.{DriveSide}
use Rattle.drive_jobs.specs.Answered.{IsAnswered}
use Rattle.drive_jobs.specs.Log.{IsLogOf}

-- a drive after one output more
after_more : (s : DriveSim) (o : DriveOut) (os : List DriveOut) →
    drive_after s (os ++ o ∷ []) ≡ drive_stepped (drive_after s os) o
after_more s o [] = refl
after_more s o (x ∷ os) = after_more (drive_stepped s x) o os

-- its answers over one output more
answers_more : (s : DriveSim) (o : DriveOut) (os : List DriveOut) →
    answers_of s (os ++ o ∷ []) ≡
    answers_of s os ++ answer_of (drive_stepped (drive_after s os) o) ∷ []
answers_more s o [] = refl
answers_more s o (x ∷ os) =
    ap (λ zs. answer_of s ∷ zs) (answers_more (drive_stepped s x) o os)

-- one answer more than outputs
answers_length : (s : DriveSim) (os : List DriveOut) →
    length (answers_of s os) ≡ suc (length os)
answers_length s [] = refl
answers_length s (x ∷ os) = ap suc (answers_length (drive_stepped s x) os)

-- what was taken before one output more has been answered, and it too
pub answered_more : (o d d' : DriveSim) (e e' : DriveSide) (out : DriveOut) → IsAnswered o d e →
    e'.taken ≡ e.taken ++ out ∷ [] → d' ≡ drive_stepped d out →
    e'.sent ≡ e.sent ++ answer_of d' ∷ [] → IsAnswered o d' e'
answered_more o d d' e e' out f taken drive sent =
    let s : d' ≡ drive_stepped (drive_after o e.taken) out =
    drive ∙ ap (λ z. drive_stepped z out) f.drive_is in
    record {
      answers = sent ∙ (λ j. f.answers j ++ answer_of (s j) ∷ []) ∙
          sym (answers_more o out e.taken) ∙ ap (answers_of o) (sym taken);
      drive_is = s ∙ sym (after_more o out e.taken) ∙ ap (drive_after o) (sym taken);
    }

-- one answer more was sent than outputs were taken
pub answers_counted : (o d : DriveSim) (e : DriveSide) → IsAnswered o d e →
    length e.sent ≡ suc (length e.taken)
answers_counted o d e f = ap length f.answers ∙ answers_length o e.taken

-- something was sent
pub answered_once : (o d : DriveSim) (e : DriveSide) → IsAnswered o d e → e.sent ≡ [] → ⊥
answered_once o d e f none =
    let n = answers_counted o d e f in let z = ap length none in absurd (omega arith)

-- an end that sent and took the same has answered as much
pub kept_answered : (o d : DriveSim) (e e' : DriveSide) → IsAnswered o d e → e'.sent ≡ e.sent →
    e'.taken ≡ e.taken → IsAnswered o d e'
kept_answered o d e e' f sent taken = record {
  answers = sent ∙ f.answers ∙ ap (answers_of o) (sym taken);
  drive_is = f.drive_is ∙ ap (drive_after o) (sym taken);
}

-- the last answer is that after all outputs
last_answer : (o : DriveSim) (os : List DriveOut) (before : Option DriveIn) →
    last_or before (answers_of o os) ≡ Some (answer_of (drive_after o os))
last_answer o [] before = refl
last_answer o (x ∷ os) before = last_answer (drive_stepped o x) os (Some (answer_of o))

-- the log of a drive that took all that it was given
pub log_of : (o d : DriveSim) (e : DriveSide) (outs : List DriveOut) (ins : List DriveIn)
    (log : DriveLog) → IsAnswered o d e → e.taken ≡ outs → IsPrefix ins e.sent →
    log.took ≡ e.taken → log.taken ≡ length e.taken → log.sent ≡ length e.sent →
    last_or None e.sent ≡ Some log.last → IsLogOf o outs ins log
log_of o d e outs ins log f took begins took_is taken_is sent_is last_is =
    let n = answers_counted o d e f in
    let t = ap length took in
    let a : e.sent ≡ answers_of o outs = f.answers ∙ ap (answers_of o) took in
    let l : Some log.last ≡ Some (answer_of (drive_after o outs)) =
    sym last_is ∙ ap (last_or None) a ∙ last_answer o outs None in
    record {
      took = took_is ∙ took;
      taken = taken_is ∙ t;
      sent = omega arith;
      last = cc;
      answers = subst (IsPrefix ins) a begins;
    }
