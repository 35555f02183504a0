-- The trace segment was verified, its text is refused, or there was no memory for it.
use Rattle.std.proofs.Common.{refl}
use Rattle.segment_job.proofs.EndLaws.{early-ended, verified-ended, refused-ended, refused-why}
use Rattle.segment_job.proofs.trace_segments.check_trace_segment_text.Goals as goal

pub returns-in-Ok : goal.returns-in-Ok
returns-in-Ok g c =
    verified-ended _ _ _ _ _ _ c.in-Ok.ensures c.verify_trace_segment.ensures

pub returns-in-Err-Refused : goal.returns-in-Err-Refused
returns-in-Err-Refused g c =
    refused-ended _ _ _ _ _ _
    (refused-why _ _ _ c.in-Err-Refused.field-0-is c.in-Err-Refused.ensures)
    c.say_refused.ensures

pub returns-in-Err-OutOfMemory : goal.returns-in-Err-OutOfMemory
returns-in-Err-OutOfMemory g c =
    early-ended _ _ _ _ _ (record { status = refl; output = refl })
