-- A record of empty fields is expected.
use Rattle.std.specs.Prelude.{◌≡◌, Some, refl, [], ◌∷◌}
use Rattle.std.proofs.Common.{arith, ◌+◌, ap, sym}
use Rattle.trace_check.specs.FoundRecords.{found_entry_records}
use Rattle.trace_check.proofs.Firsts.{stops-at}
use Rattle.trace_check.proofs.entry.no_room.Goals as goal

pub returns : goal.returns
returns c = λ e at is.
    let here : c.args.place ≡ c.args.place + 0 = omega arith in
    stops-at c.differing.result c.args.place 0 c.args.place ([] ∷ []) (found_entry_records c.args.trace.now.version c.args.trace.now.config e) _ _ refl (ap Some (sym c.in-Ok.ensures)) (c.in-Ok-found_record.ensures e at is) here c.differing.ensures
