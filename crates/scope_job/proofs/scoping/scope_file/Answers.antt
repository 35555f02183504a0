-- The text was read, or it was said why there is none.
use Rattle.std.proofs.Common.{ap, inl}
use Rattle.scope_job.proofs.FileLaws.{ended, text-ended}
use Rattle.scope_job.proofs.scoping.scope_file.Goals as goal

pub returns-in-Ok : goal.returns-in-Ok
returns-in-Ok g c =
    text-ended c.reports_say_what_is_asked.ensures _ _ _ _ _ _ _ _ _
    (ap (λ o. record { count = g.K.Sink.count o; told = g.K.Sink.told o }) c.in-Ok.ensures.silent)
    c.as_slice.ensures.value c.in-Ok.ensures.text c.scope_text.ensures

pub returns-in-Err : goal.returns-in-Err
returns-in-Err g c =
    ended c.reports_say_what_is_asked.ensures _ _ _ _ _ _ (inl (inl c.in-Err.ensures.none))
