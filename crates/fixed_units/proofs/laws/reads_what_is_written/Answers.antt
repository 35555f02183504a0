use Rattle.std.proofs.Common.{arith}
use Rattle.fixed_units.specs.Spelling.{units_text}
use Rattle.fixed_units.proofs.RoundTrip.{units_text-spells}
use Rattle.fixed_units.proofs.Spelled.{reading_of-spelled}
use Rattle.fixed_units.proofs.laws.reads_what_is_written.Goals as goal

pub returns : goal.returns
returns c = λ units small. reading_of-spelled (units_text units) units (units_text-spells units (omega arith)) small
