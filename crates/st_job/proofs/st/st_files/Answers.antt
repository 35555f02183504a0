-- The files give a machine and its program, which is run, or not.
use Rattle.std.proofs.Common.{ap, inl}
use Rattle.st_job.proofs.GivenLaws.{by-both}
use Rattle.st_job.proofs.HeadlineLaws.{ended}
use Rattle.st_job.proofs.st.st_files.Goals as goal

pub returns-in-Ok : goal.returns-in-Ok
returns-in-Ok g c =
    ended (record {
      step = c.rounds_are_in_step.ensures;
      scans = c.tasks_make_their_scans.ensures.made;
    })
    _ _ _ _ _ _ _
    (by-both _ _ _ _ _ _ _ _ c.in-Ok.cell
    (ap (λ o. record { count = g.K.Sink.count o; told = g.K.Sink.told o }) c.in-Ok.ensures.silent)
    c.in-Ok.ensures.controller c.run_cell.ensures.ends c.run_cell.ensures.traced)

pub returns-in-Err : goal.returns-in-Err
returns-in-Err g c =
    ended (record {
      step = c.rounds_are_in_step.ensures;
      scans = c.tasks_make_their_scans.ensures.made;
    })
    _ _ _ _ _ _ _
    (inl c.in-Err.ensures.none)
