-- The reader has stopped, and the tokens that are left change nothing.
use Rattle.std.proofs.Common.{◌∙◌, sym}
use Rattle.iec_grammar.proofs.Runs.{stopped_early}
use Rattle.iec_grammar.proofs.reading.lead.Goals as goal

pub returns-then-is_stopped : goal.returns-then-is_stopped
returns-then-is_stopped c =
    stopped_early c.loop-placed.reader c.step.new.self _ c.in-Some.placed c.loop-placed.tokens
    (sym c.in-Some.ensures.first) c.in_ok-step.ensures (sym c.is_stopped.ensures ∙ c.if-is_stopped.true) c.loop-placed.invariant
