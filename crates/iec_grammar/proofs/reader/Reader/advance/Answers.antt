-- The item that ended leads on.
use Rattle.std.proofs.Common.{◌≡◌, ◌∙◌, rules}
use Rattle.iec_grammar.specs.Reading.{Stand, advanced}
use Rattle.iec_grammar.proofs.Runs.{passes_on}
use Rattle.iec_grammar.proofs.reader.Reader.advance.Goals as goal

pub loop-item-preserved : goal.loop-item-preserved
loop-item-preserved c =
    let p = c.args.placed.now in
    let s : Stand = record { expected = c.self.inside.expected; counts = c.self.inside.counts; nodes = c.self.inside.nodes.items; refused = c.self.inside.refused } in
    let same : s ≡ c.loop-item.self = c.self.view_is in
    passes_on p c.in-Some.item c.pop.new.self s _ _ c.in-Passes.part
    c.in-Some.ensures (first_of (search rules, cc)) c.in_ok-pass-in-Passes.ensures
    ((λ i. advanced p (same i).expected (same i)) ∙ c.loop-item.invariant)
