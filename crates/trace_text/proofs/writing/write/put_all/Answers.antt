-- The parts of the trace one after the other.
use Rattle.std.specs.Prelude.{Err}
use Rattle.trace_text.specs.writing.Parts.{all_text}
use Rattle.trace_text.proofs.written.Writing.{Writes-then, Writes-stopped, trace-then}
use Rattle.trace_text.proofs.writing.write.put_all.Goals as goal

pub returns-in-Err : goal.returns-in-Err
unfolding all_text
returns-in-Err g c = Writes-stopped _ _ _ _ c.in-Err.fault (Writes-stopped _ _ _ _ c.in-Err.fault c.in-Err.ensures)

pub returns-in-Err-put_history : goal.returns-in-Err-put_history
unfolding all_text
returns-in-Err-put_history g c =
    Writes-stopped _ _ _ _ c.in-Err-put_history.fault
    (Writes-then _ _ _ _ _ (Err c.in-Err-put_history.fault) c.in-Ok.ensures.0 c.in-Ok.ensures.1 c.in-Err-put_history.ensures)

pub returns : goal.returns
unfolding all_text
returns g c =
    let a = c.in-Ok.ensures in
    let b = c.in-Ok-put_history.ensures in
    trace-then _ _ _ _ _ _ _ c.put_drives.result a b c.put_drives.ensures
