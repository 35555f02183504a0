-- A table that is not made is refused by its points, by the number of tables, or for out of memory.
use Rattle.std.proofs.Common.{Err, ap}
use Rattle.motion_history.proofs.TableLemmas.{told-exact}
use Rattle.motion_history.proofs.tables.new_table.Goals as goal

pub returns-in-Err : goal.returns-in-Err
returns-in-Err c =
    let exact = told-exact c.points_have_one_fault.ensures.none c.args.tables c.args.points.now c.new.result c.in-Err.fault c.refusal_of.result
    (record { refused = c.new.ensures.refused; memory = c.new.ensures.out_of_memory_without_a_fault }) c.in-Err.is
    (record { points = c.refusal_of.ensures.points; memory = c.refusal_of.ensures.memory }) in
    record {
      ok = tt;
      table = tt;
      room = tt;
      faults = λ f n. ((λ h. (exact f n).0 (cc)), (λ i. ap Err ((exact f n).1 i)));
    }
