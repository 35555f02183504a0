-- The token leads where it led before the items that ended.
use Rattle.std.proofs.Common.{◌≡◌, length}
use Rattle.iec_grammar.specs.Reading.{advanced}
use Rattle.iec_grammar.proofs.reader.Reader.advance.Given as goal

abbrev pub invariant-loop-item : goal.invariant-loop-item
invariant-loop-item l = advanced l.placed l.self.expected l.self ≡ advanced l.placed l.fn.self.expected l.fn.self

abbrev pub decreases-loop-item : goal.decreases-loop-item
decreases-loop-item l = length l.self.expected
