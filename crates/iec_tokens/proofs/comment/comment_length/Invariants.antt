-- The comment has not ended so far.
use Rattle.std.proofs.Common.{◌≡◌, ◌+◌, drop}
use Rattle.std.specs.Option.{option_map}
use Rattle.iec_tokens.specs.Comments.{comment_length, length_behind}
use Rattle.iec_tokens.proofs.comment.comment_length.Given as goal

abbrev pub invariant-loop-byte : goal.invariant-loop-byte
invariant-loop-byte l = record {
  count : l.count ≡ l.byte-index;
  length : comment_length l.bytes ≡ option_map (λ n. l.byte-index + n) (length_behind l.star (drop l.byte-index l.bytes));
}
