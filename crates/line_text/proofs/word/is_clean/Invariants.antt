-- The bytes so far are those of a line.
use Rattle.std.proofs.Common.{◌≡◌, take}
use Rattle.std.specs.List.{list_all}
use Rattle.line_text.specs.Words.{is_line_byte}
use Rattle.line_text.proofs.word.is_clean.Given as goal

abbrev pub invariant-loop-byte : goal.invariant-loop-byte
invariant-loop-byte l = l.clean ≡ list_all is_line_byte (take l.byte-index l.line)
