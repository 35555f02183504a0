-- The numbers so far are put.
use Rattle.std.proofs.Common.{◌≡◌, ◌++◌, map, take}
use Rattle.std.specs.Fmt.{signed_decimal}
use Rattle.segment_text.specs.Texts.{fields_text}
use Rattle.segment_text.proofs.writing.field.push_numbers.Given as goal

abbrev pub invariant-loop-number : goal.invariant-loop-number
invariant-loop-number l = l.out.items ≡ l.fn.out.items ++ fields_text (map signed_decimal (take l.number-index l.numbers))
