-- A search among steps that rise.
use Rattle.std.proofs.Common.{◌<◌, arith, ap, sym, ◌∙◌}
use Rattle.std.proofs.lemmas.List.Sorted.{searched}
use Rattle.drive_sim.specs.Faults.{has_step}
use Rattle.drive_sim.proofs.FaultLemmas.{ordered, search-is, has_step-none}
use Rattle.drive_sim.proofs.steps.has_fault.Goals as goal

pub returns-in-Ok : goal.returns-in-Ok
returns-in-Ok c =
    let found = searched c.args.faults.now c.in-Ok.step c.binary_search.result c.binary_search.ensures.position (ordered 0 c.args.faults.now c.requires) in
    let is = search-is c.args.faults.now c.in-Ok.step c.binary_search.result found in
    let fits = c.in-Ok.ensures in
    c.is_ok.ensures.value ∙ is ∙ ap (λ n. has_step n c.args.faults.now) fits.1

pub returns-in-Err : goal.returns-in-Err
returns-in-Err c =
    let large : c.args.step < 4294967296 → ⊥ = c.in-Err.ensures in
    sym (has_step-none c.args.step c.args.faults.now (λ i below same. let fits = c.type_inv.faults i in large (omega (arith, fits))))
