-- Lines lead to their targets.
use Rattle.group_core.proofs.TargetLaws.{at-places, command-toward, cycle-toward, detach-toward, done-on, ends-at-targets, off-toward, opens-toward, takes-way}
use Rattle.group_core.proofs.target_laws.lines_lead_to_their_targets.Goals as goal

pub returns : goal.returns
returns c = record { opened = opens-toward; command = command-toward; power_off = off-toward; detach = detach-toward; cycle = cycle-toward; takes = takes-way; places = at-places; done = done-on; ends = ends-at-targets }
