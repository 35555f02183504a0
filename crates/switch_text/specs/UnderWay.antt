-- Switches under way in a trace. This project's profile.
use Rattle.std.specs.Prelude.{◌≡◌, ℕ, List, map, take, length}
use Rattle.std.specs.List.{flat_map}
use Rattle.switch_text.specs.Edges.{edges_to}
use Rattle.switch_text.specs.Watches.{watch_at}
use Rattle.switch_text.specs.declared.switch.Switch.{Switch}
use Rattle.motion_history.specs.Entries.{Entry}
use Rattle.switch_text.specs.Lines.{cycles_in, edge_line}
use Rattle.switch_text.specs.declared.writing.EdgeLog.{EdgeLog}

-- how many cycles stand before a place
abbrev pub cycles_before : List Entry → ℕ → ℕ
cycles_before es place = length (cycles_in (take place es))

-- switches stand after the cycles before a place, and the lines of their edges there are reported
pub record IsBehind (ss : List Switch) (es : List Entry) (place : ℕ) (log : EdgeLog) : Type 0 where
  pub cycles : log.cycles ≡ cycles_before es place
  pub watches : log.watches.items ≡ map (watch_at (cycles_in es) (cycles_before es place)) ss
  pub text : log.text.items ≡
      flat_map edge_line (edges_to ss (cycles_in es) (cycles_before es place))
