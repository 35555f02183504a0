-- rows_keep_limits: limits/Rows
-- axes_stay_stoppable: limits/Stoppable, over Histories
-- at_most_eight_wait: limits/Waiting, by the walk
-- refusals_change_nothing: entries/refusals/Calls
-- replies_tell_one_result: entries/replies/Histories
-- states_change_by_their_events: entries/events/Histories
-- commands_are_where_their_instances_show: owners/Shown, over owners/Kept and owners/Holders, by
-- the walk
-- rows_show_the_machine: entries/rows/Histories
-- rows_show_errors: entries/errors/Histories
-- entries_keep_their_laws: entries/Kept
-- moves_arrive_in_time: arrivals/Moves
-- paths_end_in_time: arrivals/PathsEnd
-- results_are_told: results/Reported
-- machines_can_stand: standing/Kept, over standing/Axes and Groups
pub mod walk
pub mod limits
pub mod Histories
pub mod owners
pub mod entries
pub mod causes
pub mod error_ids
pub mod arrivals
pub mod results
pub mod standing
