-- The trace was written, or there was no memory for its last rows.
use Rattle.std.proofs.Common.{◌∙◌, ap, refl}
use Rattle.std.specs.Prelude.{map}
use Rattle.run_job.specs.Plans.{end_row}
use Rattle.run_job.proofs.RunLaws.{ended-so, wrote, wrote-none}
use Rattle.run_job.proofs.trace.write_run.Goals as goal

pub returns-in_default : goal.returns-in_default
returns-in_default g c =
    wrote-none _ _ _ _ _ _ _ _
    (ended-so _ _ _ c.ending_of.ensures.ok c.ending_of.ensures.over c.ending_of.ensures.full
    c.ending_of.ensures.entries)
    (record { status = refl; output = refl })

pub returns : goal.returns
returns g c =
    wrote _ _ _ _ _ _ _ _ _ _ _
    (ended-so _ _ _ c.ending_of.ensures.ok c.ending_of.ensures.over c.ending_of.ensures.full
    c.ending_of.ensures.entries)
    c.status_of-status.ensures
    (c.as_slice-taken.ensures.value ∙ c.in-Ok.ensures ∙ ap (map end_row) c.as_slice.ensures.value)
    c.write_rows-written.ensures c.trace_is_read_back.ensures c.status_by.ensures
