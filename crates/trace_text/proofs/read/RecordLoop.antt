-- Records that are taken one after another, as the loop does.
-- for: read_trace, read_within_room
use Rattle.std.specs.Prelude.{◌≡◌, refl, ℕ, ◌+◌, Bool, true, false, Ok, Err, List, [], ◌∷◌, length}
use Rattle.std.specs.Borrow.{Bor}
use Rattle.std.proofs.Common.{◌∙◌, sym, arith}
use Rattle.csv.specs.declared.reader.Reader.{Reader}
use Rattle.trace_columns.specs.Records.{IsReading, TakesNext, slice_left}
use Rattle.trace_text.specs.reading.Reading.{meaning, records_meaning}
use Rattle.trace_text.specs.reading.SoFar.{SoFar}

-- this many records are taken, and the others are left
pub record IsUnderWay (records : List (List (List ℕ))) (opening now : SoFar) (place : ℕ) (rdr : Reader (Bor (List ℕ))) : Type 0 where
  pub left : List (List (List ℕ))
  pub reading : IsReading slice_left rdr left
  pub same : records_meaning place now left ≡ records_meaning 0 opening records
  pub count : place + length left ≡ length records

-- what a read does, whatever is left
abbrev pub Reads : Reader (Bor (List ℕ)) → Bool → List (List ℕ) → Reader (Bor (List ℕ)) → Type 0
Reads old found fields new = (left : List (List (List ℕ))) → IsReading slice_left old left → TakesNext left found fields slice_left new

last-of : (records left : List (List (List ℕ))) (opening now : SoFar) (place : ℕ) (fields : List (List ℕ)) (new : Reader (Bor (List ℕ))) →
    TakesNext left false fields slice_left new → records_meaning place now left ≡ records_meaning 0 opening records → place + length left ≡ length records →
    (records_meaning 0 opening records ≡ Ok now) × (place ≡ length records)
last-of records [] opening now place fields new t same count = (sym same, omega (arith, count))
last-of records (first ∷ more) opening now place fields new t same count = absurd (cc t.0)

-- there was no further record
pub at-last : (records : List (List (List ℕ))) (opening now : SoFar) (place : ℕ) (rdr new : Reader (Bor (List ℕ))) (found : Bool) (fields : List (List ℕ)) →
    IsUnderWay records opening now place rdr → Reads rdr found fields new → found ≡ false →
    (records_meaning 0 opening records ≡ Ok now) × (place ≡ length records)
at-last records opening now place rdr new found fields u reads none =
    last-of records u.left opening now place fields new (rw none at (reads u.left u.reading)) u.same u.count

refused-of : (records left : List (List (List ℕ))) (opening now : SoFar) (place rule : ℕ) (fields : List (List ℕ)) (new : Reader (Bor (List ℕ))) →
    TakesNext left true fields slice_left new → records_meaning place now left ≡ records_meaning 0 opening records → meaning now fields ≡ Err rule →
    records_meaning 0 opening records ≡ Err (record { line = place + 1; rule = rule })
refused-of records [] opening now place rule fields new t same e = absurd (cc t)
refused-of records (first ∷ more) opening now place rule fields new t same e =
    let here : meaning now first ≡ Err rule = rw t.1 at e in
    sym same ∙ rw here refl

-- a record breaks a rule
pub refused-at : (records : List (List (List ℕ))) (opening now : SoFar) (place rule : ℕ) (rdr new : Reader (Bor (List ℕ))) (found : Bool) (fields : List (List ℕ)) →
    IsUnderWay records opening now place rdr → Reads rdr found fields new → found ≡ true → meaning now fields ≡ Err rule →
    records_meaning 0 opening records ≡ Err (record { line = place + 1; rule = rule })
refused-at records opening now place rule rdr new found fields u reads some e =
    refused-of records u.left opening now place rule fields new (rw some at (reads u.left u.reading)) u.same e

went-of : (records left : List (List (List ℕ))) (opening now later : SoFar) (place : ℕ) (fields : List (List ℕ)) (new : Reader (Bor (List ℕ))) →
    TakesNext left true fields slice_left new → records_meaning place now left ≡ records_meaning 0 opening records → place + length left ≡ length records → meaning now fields ≡ Ok later →
    IsUnderWay records opening later (place + 1) new
went-of records [] opening now later place fields new t same count e = absurd (cc t)
went-of records (first ∷ more) opening now later place fields new t same count e =
    let here : meaning now first ≡ Ok later = rw t.1 at e in
    let step : records_meaning place now (first ∷ more) ≡ records_meaning (place + 1) later more = rw here refl in
    record {
      left = more;
      reading = t.2;
      same = sym step ∙ same;
      count = omega (arith, count);
    }

-- one more record is taken
pub went-on : (records : List (List (List ℕ))) (opening now later : SoFar) (place : ℕ) (rdr new : Reader (Bor (List ℕ))) (found : Bool) (fields : List (List ℕ)) →
    IsUnderWay records opening now place rdr → Reads rdr found fields new → found ≡ true → meaning now fields ≡ Ok later →
    IsUnderWay records opening later (place + 1) new
went-on records opening now later place rdr new found fields u reads some e =
    went-of records u.left opening now later place fields new (rw some at (reads u.left u.reading)) u.same u.count e
