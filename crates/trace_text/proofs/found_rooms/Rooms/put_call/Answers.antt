-- A call stands at the end of the calls, or its inputs are those that stand nowhere.
use Rattle.std.proofs.Common.{ap, sym}
use Rattle.trace_text.specs.declared.found.FoundEntry.TheVariants as found
use Rattle.trace_text.proofs.found_rooms.Rooms.put_call.Goals as goal

pub returns-then-are_same_inputs-clause-kept : goal.returns-then-are_same_inputs-clause-kept
returns-then-are_same_inputs-clause-kept c = record {
  there = record {};
  is = ap (λ i. found.Call c.args.instance i c.args.reply) (sym (c.are_same_inputs.ensures.same c.if-are_same_inputs.true));
}
