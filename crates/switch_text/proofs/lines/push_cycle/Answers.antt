-- A switch more has gone on.
use Rattle.std.proofs.Common.{◌∙◌, ◌++◌, ap, get_or, slice_set}
use Rattle.std.specs.List.{flat_map}
use Rattle.std.specs.Option.{option_to_list}
use Rattle.std.proofs.lemmas.List.{take_all}
use Rattle.switch_text.specs.Watches.{edge_after, watch_after}
use Rattle.switch_text.specs.Lines.{edge_line}
use Rattle.switch_text.proofs.EdgeLaws.{given-more, item-over}
use Rattle.switch_text.proofs.lines.push_cycle.Goals as goal

pub loop-watch-preserved : goal.loop-watch-preserved
loop-watch-preserved c = record {
  watches = ap (λ x. slice_set c.loop-watch.watches c.loop-watch.watch-index x)
      c.go_on-edge.ensures.after
      ∙ item-over _ _ _ c.loop-watch.watch-index _ c.loop-watch-test.true
      c.loop-watch.invariant.watches;
  text = c.in_ok-push_some.ensures
      ∙ ap (λ e. c.loop-watch.text.items ++ flat_map edge_line (option_to_list e))
      c.go_on-edge.ensures.edge
      ∙ ap (λ t. t ++ flat_map edge_line (option_to_list
      (edge_after c.args.cycle c.args.rows.now
      (get_or c.loop-watch.watches c.loop-watch.watch-index c.watch-item.result)))) c.loop-watch.invariant.text
      ∙ given-more (λ w. flat_map edge_line (option_to_list
      (edge_after c.args.cycle c.args.rows.now w))) (watch_after c.args.rows.now)
      c.args.text.now.items c.args.watches.now c.loop-watch.watches c.loop-watch.watch-index
      c.watch-item.result c.loop-watch-test.true c.loop-watch.invariant.watches;
}

pub returns-clause-text : goal.returns-clause-text
returns-clause-text c =
    c.loop-watch.invariant.text
    ∙ ap (λ ws. c.args.text.now.items ++ flat_map (λ w. flat_map edge_line (option_to_list
    (edge_after c.args.cycle c.args.rows.now w))) ws)
    (take_all c.loop-watch.watch-index c.args.watches.now c.loop-watch-test.false)
