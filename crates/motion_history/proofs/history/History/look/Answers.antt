-- The look gives the entry that is kept at the place.
use Rattle.std.specs.Prelude.{Some, None}
use Rattle.std.proofs.Common.{◌∙◌, ap, sym}
use Rattle.motion_history.specs.Entries.{cycle}
use Rattle.motion_history.specs.Kept.{store_of}
use Rattle.motion_history.specs.Rows.{rows_at}
use Rattle.motion_history.specs.Stored.{IsThere}
use Rattle.motion_history.specs.declared.entry.Stored.TheVariants as stored
use Rattle.motion_history.proofs.KeptLemmas.{IsFound, IsThere-found, entry-at, entry-found}
use Rattle.motion_history.proofs.history.History.look.Goals as goal

pub call_at-requires : goal.call_at-requires
call_at-requires c =
    let found : IsFound c.self.inside c.args.place (stored.Call c.in-Some-Call.place) =
    record {
      items = c.as_slice.result.now;
      same = c.as_slice.ensures.value;
      found = c.stored_at.result;
      at = c.stored_at.ensures;
      inner = c.in-Some-Call.field-0;
      some = c.in-Some-Call.is;
      is = c.in-Some-Call.field-0-is;
    } in
    rw c.as_slice-in-Some-Call.ensures.value (IsThere-found _ _ _ c.self.invariant.kept found)

there_cycle : (c : goal.After-as_slice-in-Some-Cycle) → IsThere (store_of c.self.inside) (stored.Cycle c.in-Some-Cycle.number)
there_cycle c =
    IsThere-found c.self.inside c.args.place (stored.Cycle c.in-Some-Cycle.number) c.self.invariant.kept
    (record {
      items = c.as_slice.result.now;
      same = c.as_slice.ensures.value;
      found = c.stored_at.result;
      at = c.stored_at.ensures;
      inner = c.in-Some-Cycle.field-0;
      some = c.in-Some-Cycle.is;
      is = c.in-Some-Cycle.field-0-is;
    })

there_next : (c : goal.After-as_slice-in-Some-Cycle-2) → IsThere (store_of c.self.inside) (stored.Cycle c.in-Some-Cycle.number)
there_next c =
    IsThere-found c.self.inside c.args.place (stored.Cycle c.in-Some-Cycle.number) c.self.invariant.kept
    (record {
      items = c.as_slice.result.now;
      same = c.as_slice.ensures.value;
      found = c.stored_at.result;
      at = c.stored_at.ensures;
      inner = c.in-Some-Cycle.field-0;
      some = c.in-Some-Cycle.is;
      is = c.in-Some-Cycle.field-0-is;
    })

pub rows_at-requires-clause-some : goal.rows_at-requires-clause-some
rows_at-requires-clause-some c = (there_cycle c).0

pub rows_at-requires-clause-there : goal.rows_at-requires-clause-there
rows_at-requires-clause-there c = rw c.as_slice-in-Some-Cycle.ensures.value (there_cycle c).1

pub rows_at-requires-in-Some-Cycle-clause-some : goal.rows_at-requires-in-Some-Cycle-clause-some
rows_at-requires-in-Some-Cycle-clause-some c = (there_next c).0

pub rows_at-requires-in-Some-Cycle-clause-there : goal.rows_at-requires-in-Some-Cycle-clause-there
rows_at-requires-in-Some-Cycle-clause-there c = rw c.as_slice-in-Some-Cycle-2.ensures.value (there_next c).2

pub returns-in-Some-Call : goal.returns-in-Some-Call
returns-in-Some-Call c =
    ap Some (rw c.as_slice-in-Some-Call.ensures.value at c.call_at.ensures) ∙
    entry-found c.self.inside _ c.args.place (stored.Call c.in-Some-Call.place) c.self.view_is
    (record {
      items = c.as_slice.result.now;
      same = c.as_slice.ensures.value;
      found = c.stored_at.result;
      at = c.stored_at.ensures;
      inner = c.in-Some-Call.field-0;
      some = c.in-Some-Call.is;
      is = c.in-Some-Call.field-0-is;
    })

pub returns-in-Some-Cycle : goal.returns-in-Some-Cycle
returns-in-Some-Cycle c =
    let axes = c.rows_at.ensures ∙ ap (rows_at c.self.inside.axes c.in-Some-Cycle.number) c.as_slice-in-Some-Cycle.ensures.value in
    let groups = c.rows_at-in-Some-Cycle.ensures ∙ ap (rows_at c.self.inside.groups c.in-Some-Cycle.number) c.as_slice-in-Some-Cycle-2.ensures.value in
    (λ i. Some (cycle c.in-Some-Cycle.number (axes i) (groups i))) ∙
    entry-found c.self.inside _ c.args.place (stored.Cycle c.in-Some-Cycle.number) c.self.view_is
    (record {
      items = c.as_slice.result.now;
      same = c.as_slice.ensures.value;
      found = c.stored_at.result;
      at = c.stored_at.ensures;
      inner = c.in-Some-Cycle.field-0;
      some = c.in-Some-Cycle.is;
      is = c.in-Some-Cycle.field-0-is;
    })

pub returns-in-Some-End : goal.returns-in-Some-End
returns-in-Some-End c =
    entry-found c.self.inside _ c.args.place (stored.End c.in-Some-End.task) c.self.view_is
    (record {
      items = c.as_slice.result.now;
      same = c.as_slice.ensures.value;
      found = c.stored_at.result;
      at = c.stored_at.ensures;
      inner = c.in-Some-End.field-0;
      some = c.in-Some-End.is;
      is = c.in-Some-End.field-0-is;
    })

pub returns-in-None : goal.returns-in-None
returns-in-None c =
    entry-at c.self.inside _ c.args.place _ None c.self.view_is c.as_slice.ensures.value (sym c.in-None.is ∙ c.stored_at.ensures)
