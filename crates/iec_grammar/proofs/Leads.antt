-- Tokens that have a reading lead a reader to it.
-- for: read_tree, faults_are_final
use Rattle.std.proofs.Common.{◌≡◌, ◌∙◌, List, [], ◌∷◌, ◌++◌, None, refl, ap, append_assoc}
use Rattle.std.specs.Prelude.{Ok}
use Rattle.iec_grammar.specs.Counts.{counted}
use Rattle.iec_grammar.specs.Reading.{Stand, advanced, led_by, run, step, taken_if}
use Rattle.iec_grammar.specs.Readings.{IsRead, at, node}
use Rattle.iec_grammar.specs.Readings as read
use Rattle.iec_grammar.specs.declared.counts.Counts.{Counts}
use Rattle.iec_grammar.specs.declared.item.Item.{Item}
use Rattle.iec_tokens.specs.declared.token.Placed.{Placed}
use Rattle.iec_tree.specs.declared.node.Node.{Node}

-- where tokens lead a reader that expects these items
abbrev pub from : List Item → Stand → List Placed → Stand
from items s [] = s
from items s (p ∷ tokens) = run (advanced p items s) tokens

-- a reader that has not stopped goes on from what it expects
pub goes_on : (s : Stand) (tokens : List Placed) → s.refused ≡ None → run s tokens ≡ from s.expected s tokens
unfolding step
goes_on s [] h = refl
goes_on s (p ∷ tokens) h = rw h refl

-- a reader has not stopped, and has read these nodes more
pub record Reaches (s : Stand) (nodes : List Node) (end : Stand) : Type 0 where
  pub free : end.refused ≡ None
  pub more : end.nodes ≡ s.nodes ++ nodes

after_one : (s between end : Stand) (n : Node) (nodes : List Node) → between.nodes ≡ s.nodes ++ n ∷ [] → Reaches between nodes end → Reaches s (n ∷ nodes) end
after_one s between end n nodes one h = record {
  free = h.free;
  more = h.more ∙ ap (λ ns. ns ++ nodes) one ∙ append_assoc s.nodes (n ∷ []) nodes;
}

pub leads : {items : List Item} {c : Counts} {tokens : List Placed} {nodes : List Node} → IsRead items c tokens nodes →
    (s : Stand) → s.refused ≡ None → s.counts ≡ c → Reaches s nodes (from items s tokens)
leads read.ends s free same = record { free = free; more = refl }
leads (read.skips {item} {items} {more} {c} {t} {line} {tokens} {nodes} row h) s free same =
    let z : Stand = record s { expected = more ++ items } in
    let there : from (item ∷ items) s (at t line ∷ tokens) ≡ from (more ++ items) z tokens =
    (λ i. run (led_by (row i) (at t line) (record s { expected = items }) (advanced (at t line) items)) tokens) ∙ goes_on z tokens free in
    let r : Reaches z nodes (from (more ++ items) z tokens) = leads h z free same in
    record { free = rw there r.free; more = rw there r.more }
leads (read.takes_as {item} {items} {more} {c} {d} {t} {line} {tokens} {nodes} {p} row count h) s free same =
    let x : Stand = record s { expected = more ++ items } in
    let z : Stand = record x { counts = d; nodes = s.nodes ++ node p line ∷ [] } in
    let has : counted s.counts p line ≡ Ok d = rw same count in
    let there : from (item ∷ items) s (at t line ∷ tokens) ≡ from (more ++ items) z tokens =
    (λ i. run (led_by (row i) (at t line) (record s { expected = items }) (advanced (at t line) items)) tokens)
    ∙ (λ i. run (taken_if (has i) p line x) tokens) ∙ goes_on z tokens free in
    let r : Reaches z nodes (from (more ++ items) z tokens) = leads h z free refl in
    let all : Reaches s (node p line ∷ nodes) (from (more ++ items) z tokens) = after_one s z _ (node p line) nodes refl r in
    record { free = rw there all.free; more = rw there all.more }
leads (read.leaves {item} {items} {c} {t} {line} {tokens} {nodes} row h) s free same =
    let z : Stand = record s { expected = items } in
    let there : from (item ∷ items) s (at t line ∷ tokens) ≡ from items z (at t line ∷ tokens) =
    λ i. run (led_by (row i) (at t line) z (advanced (at t line) items)) tokens in
    let r : Reaches z nodes (from items z (at t line ∷ tokens)) = leads h z free same in
    record { free = rw there r.free; more = rw there r.more }
leads (read.ends_as {item} {items} {c} {t} {line} {tokens} {nodes} {p} row h) s free same =
    let x : Stand = record s { expected = items } in
    let z : Stand = record x { nodes = s.nodes ++ node p line ∷ [] } in
    let there : from (item ∷ items) s (at t line ∷ tokens) ≡ from items z (at t line ∷ tokens) =
    λ i. run (led_by (row i) (at t line) x (advanced (at t line) items)) tokens in
    let r : Reaches z nodes (from items z (at t line ∷ tokens)) = leads h z free same in
    let all : Reaches s (node p line ∷ nodes) (from items z (at t line ∷ tokens)) = after_one s z _ (node p line) nodes refl r in
    record { free = rw there all.free; more = rw there all.more }
