-- The fields of a row, without where they lie in memory. This project's profile.
use Rattle.std.specs.Prelude.{ℕ, List}
use Rattle.line_text.specs.Texts.{texts}
use Rattle.trace_text.specs.declared.reading.row.RowFields.{RowFields}

-- the fields of the axis, of what its drive answered, of what the axis shows, of what the drive was
-- given, and of the place that it reported
pub record RowTexts : Type 0 where
  pub name : List ℕ
  pub answer : List (List ℕ)
  pub shown : List (List ℕ)
  pub given : List (List ℕ)
  pub place : List ℕ

-- the texts that the fields show
abbrev pub fields_of : RowFields → RowTexts
fields_of f = record {
  name = f.name.now;
  answer = texts f.answer.now;
  shown = texts f.shown.now;
  given = texts f.given.now;
  place = f.place.now;
}
