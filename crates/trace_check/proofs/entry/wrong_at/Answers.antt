-- The first record that differs.
use Rattle.std.specs.Prelude.{refl}
use Rattle.trace_check.proofs.Firsts.{stops-at}
use Rattle.trace_check.proofs.entry.wrong_at.Goals as goal

pub returns : goal.returns
returns c = λ e at is.
    stops-at c.differing.result c.args.place c.args.at _ _ _ _ _ (c.requires.before e at is)
    (rw (← c.version.ensures, ← c.config.ensures) c.in-Ok.ensures)
    (c.in-Ok-found_record.ensures e at is) refl c.differing.ensures
