-- Each step adds one more item.
use Rattle.machine_config.specs.Shown.{shown}
use Rattle.machine_config.proofs.ItemLaws.{item_at, stops, went}
use Rattle.machine_config.proofs.reading.add_items.Goals as goal

pub returns-in-Err-clause-takes : goal.returns-in-Err-clause-takes
returns-in-Err-clause-takes c =
    let cut = rw (← c.index-items-before.is) at (item_at c.args.items.now c.loop-before.before c.index-items-before.result c.loop-before-test.true) in
    rw c.told_at.ensures (stops c.loop-before.before c.loop-before.machine c.add_item.new.machine (shown c.args.items.now) _ _ c.in-Err.fault cut c.in-Err.ensures.takes c.loop-before.invariant.0)

pub loop-before-preserved : goal.loop-before-preserved
loop-before-preserved c =
    let cut = rw (← c.index-items-before.is) at (item_at c.args.items.now c.loop-before.before c.index-items-before.result c.loop-before-test.true) in
    (went c.loop-before.before c.loop-before.machine c.add_item.new.machine (shown c.args.items.now) _ _ cut c.in-Ok.ensures.takes c.loop-before.invariant.0, c.in-Ok.ensures.kept)
