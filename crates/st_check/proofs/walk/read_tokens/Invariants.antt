-- The tokens that are left lead where all led.
use Rattle.std.proofs.Common.{◌≡◌, ◌≤◌, ◌+◌, length}
use Rattle.st_check.specs.Reading.{run}
use Rattle.st_tokens.specs.Tokens.{last_line_from, tokens_from}
use Rattle.st_check.proofs.walk.read_tokens.Given as goal

abbrev pub invariant-loop-rest : goal.invariant-loop-rest
invariant-loop-rest l = record {
  near : l.place.line + length l.rest ≤ length l.text + 1;
  last : last_line_from l.place.line l.place.last l.rest ≡ last_line_from 1 1 l.text;
  tokens : run l.reader (tokens_from l.place.line l.place.behind l.rest) ≡ run l.fn.reader (tokens_from 1 0 l.text);
}

abbrev pub decreases-loop-rest : goal.decreases-loop-rest
decreases-loop-rest l = length l.rest
