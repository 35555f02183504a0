-- The word begins with the key so far.
use Rattle.std.proofs.Common.{◌≡◌, take}
use Rattle.line_text.proofs.key.text_behind.Given as goal

abbrev pub invariant-loop-place : goal.invariant-loop-place
invariant-loop-place l = take l.place l.word ≡ take l.place l.key
