-- The records of a text, and a reader of them. RFC 4180, as the crate `csv` defines it.
use Rattle.std.specs.Prelude.{◌≡◌, ℕ, suc, ◌≤◌, Bool, true, false, All, Option, Some, List, [], ◌∷◌, length}
use Rattle.std.specs.Borrow.{Bor}
use Rattle.std.specs.List.{flat_map}
use Rattle.csv.specs.Reading.{Ready, default_config, reader_config, reader_state, reader_trim, records, records_from, source_of, strip_bom}
use Rattle.csv.specs.Writing.{default_writer, row_text}
use Rattle.csv.specs.declared.parser.State.{State}
use Rattle.csv.specs.declared.reader.Reader.{Reader}
use Rattle.csv.specs.declared.reader.Trim.TheVariants as trimming

-- the records of a text; a byte order mark at its beginning is taken off
unfoldable pub records_of : List ℕ → List (List (List ℕ))
records_of text = records default_config (strip_bom text)

-- the records of what is left of a text, from a state of the reader
unfoldable pub rest_from : State → List ℕ → List (List (List ℕ))
rest_from state text = records_from default_config (suc (length text)) state text

-- what a slice has left to be read
abbrev pub slice_left : Bor (List ℕ) → Option (List ℕ)
slice_left slice = Some slice.now

-- a reader has these records left
pub record IsReading {R : Type 0} (remaining : R → Option (List ℕ)) (rdr : Reader R)
    (left : List (List (List ℕ))) : Type 0 where
  pub config : reader_config rdr ≡ default_config
  pub trim : reader_trim rdr ≡ trimming.None
  pub ready : Ready rdr
  pub text : List ℕ
  pub source : source_of remaining rdr ≡ Some text
  pub rest : left ≡ rest_from (reader_state rdr) text

-- the first of the records that are left was read, and the others are left; or there was none
abbrev pub TakesNext : {R : Type 0} → List (List (List ℕ)) → Bool → List (List ℕ) →
    (R → Option (List ℕ)) → Reader R → Type 0
TakesNext [] found fields remaining new = found ≡ false
TakesNext (first ∷ more) found fields remaining new =
    (found ≡ true) × (fields ≡ first) × IsReading remaining new more

-- the text of records, each written in the default form
unfoldable pub text_of : List (List (List ℕ)) → List ℕ
text_of rows = flat_map (row_text default_writer) rows

-- records of one field or more are those of their text, if it has no byte order mark
abbrev pub RecordsAreReadBack : Type 0
RecordsAreReadBack = (rows : List (List (List ℕ))) → All (λ row. 1 ≤ length row) rows →
    strip_bom (text_of rows) ≡ text_of rows → records_of (text_of rows) ≡ rows
