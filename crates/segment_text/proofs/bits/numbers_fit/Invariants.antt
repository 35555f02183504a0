-- The numbers so far have 64 bits.
use Rattle.std.proofs.Common.{take}
use Rattle.std.specs.List.{AllByRecursion}
use Rattle.segment_text.specs.Held.{IsWide}
use Rattle.segment_text.proofs.bits.numbers_fit.Given as goal

abbrev pub invariant-loop-number : goal.invariant-loop-number
invariant-loop-number l = AllByRecursion IsWide (take l.number-index l.numbers)
