-- The words so far, and those of what is left, are those of the line, whose bytes so far are clean
-- or not.
use Rattle.std.proofs.Common.{◌≡◌, length, take}
use Rattle.std.specs.List.{list_all}
use Rattle.line_text.specs.Texts.{texts}
use Rattle.line_text.specs.Words.{is_line_byte}
use Rattle.line_text.proofs.Parts.{IsSoFar}
use Rattle.line_text.proofs.word.read_words.Given as goal

abbrev pub invariant-loop-place : goal.invariant-loop-place
invariant-loop-place l = record {
  end : l.end ≡ length l.line;
  clean : l.clean ≡ list_all is_line_byte (take l.place l.line);
  words : IsSoFar l.line (texts l.words.items) l.start l.place;
}
