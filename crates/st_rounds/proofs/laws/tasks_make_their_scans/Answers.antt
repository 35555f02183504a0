-- The entries of each task are those of its scans.
use Rattle.st_rounds.proofs.AllScans.{tasks-make}
use Rattle.st_rounds.proofs.EndedTasks.{tasks-end}
use Rattle.st_rounds.proofs.laws.tasks_make_their_scans.Goals as goal

pub returns-clause-made : goal.returns-clause-made
returns-clause-made c = tasks-make (λ us t. record {
  order = c.scans_ask_in_order.ensures us t.body.items;
  all = c.scans_have_their_operands.ensures us t.body.items;
})

pub returns-clause-ended : goal.returns-clause-ended
returns-clause-ended c = tasks-end c.cycles_add_up.ensures.more (λ us t. record {
  order = c.scans_ask_in_order.ensures us t.body.items;
  all = c.scans_have_their_operands.ensures us t.body.items;
})
