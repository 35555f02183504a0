-- The last items so far lie on the pile.
use Rattle.std.proofs.Common.{◌≡◌, ◌++◌, ◌-◌, drop, length}
use Rattle.iec_grammar.proofs.reader.put_all.Given as goal

abbrev pub invariant-loop-put : goal.invariant-loop-put
invariant-loop-put l = l.pile ≡ drop (length l.items - l.put) l.items ++ l.fn.pile
