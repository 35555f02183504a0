-- A piece that was taken in part.
use Rattle.trace_text.proofs.written.Writing.{WritesPrefix-part}
use Rattle.trace_text.proofs.writing.write.put.Goals as goal

pub returns-in-Ok : goal.returns-in-Ok
returns-in-Ok g c = rw (c.in-Ok.is, ← c.as_slice.ensures.value) (c.in-Err-write_all.ensures.failed, WritesPrefix-part _ _ _ c.in-Err-write_all.ensures.part)
