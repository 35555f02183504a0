-- A straight line leads its axes.
use Rattle.linear_path.proofs.LineIsPath.{line_begins, line_between, line_ends, line_keeps_limits, line_keeps_speed, line_limits_from, line_limits_in_range, line_limits_to}
use Rattle.linear_path.proofs.on_line.LinePathPath.leads_its_axes.Goals as goal

pub returns-clause-begins_at_the_start : goal.returns-clause-begins_at_the_start
returns-clause-begins_at_the_start c = λ line. line_begins line.count line.starts line.targets

pub returns-clause-ends_at_the_target : goal.returns-clause-ends_at_the_target
returns-clause-ends_at_the_target c = λ line. line_ends line.count line.starts line.targets

pub returns-clause-stays_between : goal.returns-clause-stays_between
returns-clause-stays_between c = λ line. line_between line.count line.starts line.targets

pub returns-clause-limits_in_range : goal.returns-clause-limits_in_range
returns-clause-limits_in_range c =
    λ line. line_limits_in_range line.count line.starts line.targets line.starts_in_range
    line.targets_in_range

pub returns-clause-limits_from : goal.returns-clause-limits_from
returns-clause-limits_from c = λ line. line_limits_from line.count line.starts line.targets

pub returns-clause-limits_to : goal.returns-clause-limits_to
returns-clause-limits_to c = λ line. line_limits_to line.count line.starts line.targets

pub returns-clause-keeps_the_axes_speed : goal.returns-clause-keeps_the_axes_speed
returns-clause-keeps_the_axes_speed c = λ line. line_keeps_speed line.count line.starts line.targets

pub returns-clause-keeps_the_axes_limits : goal.returns-clause-keeps_the_axes_limits
returns-clause-keeps_the_axes_limits c =
    λ line. line_keeps_limits line.count line.starts line.targets
