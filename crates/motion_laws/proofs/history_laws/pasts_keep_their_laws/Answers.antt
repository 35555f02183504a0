-- The laws of pasts, together.
use Rattle.std.proofs.Common.{subst}
use Rattle.motion_kernel.specs.Histories.{IsPast, machine_after}
use Rattle.motion_laws.proofs.history_laws.pasts_keep_their_laws.Goals as goal

pub returns : goal.returns
unfolding machine_after
returns c s es setup whole past = record {
  limits = c.rows_keep_limits.ensures.limits s es setup whole past;
  safe = λ made more e.
      let so_far = c.axes_stay_stoppable.ensures.entries s made more (subst (IsPast s) e past) in
      record {
        axes = λ n l. c.axes_stay_stoppable.ensures.axes s made setup whole so_far n l;
        paths = λ j l p is. c.axes_stay_stoppable.ensures.paths s made setup whole so_far j p l is;
        waiting = λ list. c.at_most_eight_wait.ensures.lists s made setup whole so_far list;
      };
  entries = c.entries_keep_their_laws.ensures s es setup whole past;
  moves = c.moves_arrive_in_time.ensures.moves s es setup whole past;
  paths = c.paths_end_in_time.ensures.paths s es setup whole past;
  results = c.results_are_told.ensures.results s es setup whole past;
  origins = c.results_come_of_ends.ensures.results s es setup whole past;
  stay = c.results_stay_shown.ensures.results s es setup whole past;
  go = c.results_stay_shown.ensures.goes s es setup whole past;
  kinds = c.commands_end_by_their_kinds.ensures.kinds s es setup whole past;
  targets = c.done_moves_are_at_their_targets.ensures.targets s es setup whole past;
  rows = c.rows_show_that_moves_arrive.ensures.rows s es setup whole past;
  counts = c.rows_are_counted.ensures s es setup whole past;
  causes = c.errors_have_causes.ensures.causes s es setup whole past;
  refusals = c.refusals_are_the_first.ensures.first s es setup whole past;
  halts = c.rows_slow_under_halts.ensures.rows s es setup whole past;
  lines = c.rows_follow_lines.ensures.rows s es setup whole past;
  group_halts = c.rows_follow_lines.ensures.halts s es setup whole past;
  drives = c.targets_follow_setpoints.ensures.targets s es setup whole past;
  spells = c.spells_begin_at_drives.ensures.spells s es setup whole past;
  driven = c.spells_begin_at_drives.ensures.driven s es setup whole past;
}
