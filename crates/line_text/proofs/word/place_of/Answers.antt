-- Where the first of these bytes stands.
use Rattle.std.proofs.Common.{◌==◌}
use Rattle.line_text.proofs.Places.{position-first}
use Rattle.line_text.proofs.word.place_of.Goals as goal

pub returns-clause-place : goal.returns-clause-place
returns-clause-place c = position-first (λ b. b == c.args.byte) c.args.bytes.now _ c.memchr.ensures
