-- The token leads where it led before the items that passed.
use Rattle.std.proofs.Common.{◌≡◌, false, length}
use Rattle.st_check.specs.Reading.{advanced}
use Rattle.st_check.proofs.reader.Reader.advance.Given as goal

abbrev pub invariant-loop-item : goal.invariant-loop-item
invariant-loop-item l = record {
  goes : l.self.stopped ≡ false;
  leads : advanced (record { token = l.token; line = l.line }) l.self.expected l.self.checked ≡ advanced (record { token = l.token; line = l.line }) l.fn.self.expected l.fn.self.checked;
}

abbrev pub decreases-loop-item : goal.decreases-loop-item
decreases-loop-item l = length l.self.expected
