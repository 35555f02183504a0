-- The switches and the lines so far.
use Rattle.std.proofs.Common.{◌≡◌, ◌++◌, drop, map, take}
use Rattle.std.specs.List.{flat_map}
use Rattle.std.specs.Option.{option_to_list}
use Rattle.switch_text.specs.Watches.{edge_after, watch_after}
use Rattle.switch_text.specs.Lines.{edge_line}
use Rattle.switch_text.proofs.lines.push_cycle.Given as goal

abbrev pub invariant-loop-watch : goal.invariant-loop-watch
invariant-loop-watch l = record {
  watches : l.watches ≡ map (watch_after l.rows) (take l.watch-index l.fn.watches) ++ drop l.watch-index l.fn.watches;
  text : l.text.items ≡ l.fn.text.items ++ flat_map (λ w. flat_map edge_line (option_to_list (edge_after l.cycle l.rows w))) (take l.watch-index l.fn.watches);
}
