-- What is left of the text has the same tokens.
use Rattle.std.proofs.Common.{◌≡◌, ◌<◌, ◌+◌, ◌^◌, length}
use Rattle.iec_tokens.specs.Tokens.{tokens_from}
use Rattle.iec_tokens.proofs.tokens.find_token.Given as goal

abbrev pub decreases-loop-rest : goal.decreases-loop-rest
decreases-loop-rest l = length l.rest

abbrev pub invariant-loop-rest : goal.invariant-loop-rest
invariant-loop-rest l = record {
  fits : l.stand.line + length l.rest < 2 ^ 64;
  tokens : tokens_from l.stand 0 l.rest ≡ tokens_from l.fn.stand 0 l.text;
}
