-- The fields of a call's inputs, without where they lie in memory. This project's profile.
use Rattle.std.specs.Prelude.{ℕ, List}
use Rattle.line_text.specs.Texts.{texts}
use Rattle.trace_text.specs.declared.reading.inputs.InputFields.{InputFields}

-- Execute, the positions, the velocity with the acceleration, the deceleration and the jerk, and
-- the buffer mode with what the axis follows
pub record InputTexts : Type 0 where
  pub execute : List ℕ
  pub positions : List ℕ
  pub rates : List (List ℕ)
  pub last : List (List ℕ)

-- the texts that the fields show
abbrev pub fields_of : InputFields → InputTexts
fields_of f = record {
  execute = f.execute.now;
  positions = f.positions.now;
  rates = texts f.rates.now;
  last = texts f.last.now;
}
