-- The invariant holds at the end of the text.
use Rattle.std.proofs.Common.{sym, subst}
use Rattle.plc_program.specs.Programs.{AddsTasks}
use Rattle.plc_program.proofs.Kept.{on-ok, text-kept}
use Rattle.plc_program.proofs.reading.read_text.Goals as goal

pub program_of-requires : goal.program_of-requires
program_of-requires c = (
  c.args.machine,
  text-kept c.inputs_are_fit.ensures c.args.version c.args.cycle_us c.args.machine _ _ c.args.text.now
      c.requires.cycle c.requires.tasks c.opened-reader.ensures c.in-Ok.ensures.0,
)

pub returns-in-Ok-clause-adds : goal.returns-in-Ok-clause-adds
returns-in-Ok-clause-adds c =
    let k = text-kept c.inputs_are_fit.ensures c.args.version c.args.cycle_us c.args.machine _ _ c.args.text.now
    c.requires.cycle c.requires.tasks c.opened-reader.ensures c.in-Ok.ensures.0 in
    on-ok _ (subst (λ s. AddsTasks c.args.machine s) (sym c.program_of.ensures.machine) k.adds)
