-- A line was said, or not.
use Rattle.std.specs.Prelude.{Ok, Err, refl}
use Rattle.trace_text.specs.declared.writing.write.TraceFault.TheVariants as fault
use Rattle.job_ends.proofs.saying.say_all.Goals as goal

pub returns-in-Ok : goal.returns-in-Ok
returns-in-Ok g c =
    record {
      written = Ok tt;
      writes = (c.in-Ok.ensures.appended, c.in-Ok.ensures.kept);
      status =
          refl;
    }

pub returns-in-Err : goal.returns-in-Err
returns-in-Err g c = record {
  written = Err fault.WriteFault;
  writes = (
    c.in-Err.ensures.failed,
    c.parts_are_beginnings.ensures.part _ _ _
        c.in-Err.ensures.part,
  );
  status = refl;
}
