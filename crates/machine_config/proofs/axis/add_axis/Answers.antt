-- The machine has one axis more, and its drive.
use Rattle.machine_config.proofs.Kept.{axis-kept}
use Rattle.machine_config.proofs.axis.add_axis.Goals as goal

pub returns-in-Ok-push-clause-kept : goal.returns-in-Ok-push-clause-kept
returns-in-Ok-push-clause-kept c =
    axis-kept c.args.machine.now c.axis.new.self c.push.new.self _ c.in_ok-drive.drive c.requires c.in_ok-drive.ensures.drive c.in-Ok.ensures.ok c.in-Ok-push.ensures.ok
