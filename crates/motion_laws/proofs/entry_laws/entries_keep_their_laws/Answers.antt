-- What each entry of a past keeps, by the laws of entries.
use Rattle.motion_laws.proofs.entries.Kept.{entries_kept}
use Rattle.motion_laws.proofs.entry_laws.entries_keep_their_laws.Goals as goal

pub returns : goal.returns
returns c = entries_kept (record {
  refusals = c.refusals_change_nothing.ensures.entries;
  numbers = c.refusals_change_nothing.ensures.numbers;
  shows = c.replies_show_commands.ensures.entries;
  replies = c.replies_tell_one_result.ensures.entries;
  states = c.states_change_by_their_events.ensures.entries;
  commands = c.commands_are_where_their_instances_show.ensures.entries;
  rows = c.rows_show_the_machine.ensures.entries;
  errors = c.rows_show_errors.ensures.errors;
  told = c.errors_are_told_as_shown.ensures.entries;
})
