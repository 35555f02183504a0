-- Records that are read one after another.
-- for: replay_from
use Rattle.std.proofs.Common.{◌≡◌, ℕ, suc, ◌+◌, Bool, true, Option, Some, List, [], ◌∷◌, refl, ap, ◌∙◌, sym, arith}
use Rattle.std.specs.Prelude.{IfOk, Result, Ok, Err, slice_get}
use Rattle.std.specs.Borrow.{Bor}
use Rattle.csv.specs.declared.reader.Reader.{Reader}
use Rattle.trace_columns.specs.Records.{IsReading, TakesNext, slice_left}

-- this many of some records are read, and the others are left
pub record IsAhead (records : List (List (List ℕ))) (read : ℕ) (rdr : Reader (Bor (List ℕ))) : Type 0 where
  pub left : List (List (List ℕ))
  pub reading : IsReading slice_left rdr left
  pub same : (n : ℕ) → slice_get records (read + n) ≡ slice_get left n

-- what a read does, whatever is left
abbrev pub Reads : Reader (Bor (List ℕ)) → Bool → List (List ℕ) → Reader (Bor (List ℕ)) → Type 0
Reads old found fields new = (left : List (List (List ℕ))) → IsReading slice_left old left → TakesNext left found fields slice_left new

-- a record is read
pub record IsNext (records : List (List (List ℕ))) (read : ℕ) (fields : List (List ℕ)) (new : Reader (Bor (List ℕ))) : Type 0 where
  pub here : slice_get records read ≡ Some fields
  pub ahead : IsAhead records (read + 1) new

next-of : (records left : List (List (List ℕ))) (read : ℕ) (fields : List (List ℕ)) (new : Reader (Bor (List ℕ))) →
    TakesNext left true fields slice_left new → ((n : ℕ) → slice_get records (read + n) ≡ slice_get left n) → IsNext records read fields new
next-of records [] read fields new t same = absurd (cc t)
next-of records (first ∷ more) read fields new t same =
    let at : read + 0 ≡ read = omega arith in
    record {
      here = rw (← at) (same 0 ∙ ap Some (sym t.1));
      ahead = record {
        left = more;
        reading = t.2;
        same = λ n. let e : (read + 1) + n ≡ read + suc n = omega arith in rw e (same (suc n));
      };
    }

pub next : (records : List (List (List ℕ))) (read : ℕ) (old new : Reader (Bor (List ℕ))) (found : Bool) (fields : List (List ℕ)) →
    IsAhead records read old → Reads old found fields new → found ≡ true → IsNext records read fields new
next records read old new found fields a reads some = next-of records a.left read fields new (rw some at (reads a.left a.reading)) a.same

-- none is read at first
pub begins : (records : List (List (List ℕ))) (rdr : Reader (Bor (List ℕ))) → IsReading slice_left rdr records → IsAhead records 0 rdr
begins records rdr h = record {
  left = records;
  reading = h;
  same = λ n. let e : 0 + n ≡ n = omega arith in rw e refl;
}

-- an answer that is what stands there
pub ok-some : {X E : Type 0} (r : Result X E) (v : X) (o : Option X) → IfOk r (λ x. x ≡ v) → o ≡ Some v → IfOk r (λ x. o ≡ Some x)
ok-some (Ok x) v o h e = e ∙ ap Some (sym h)
ok-some (Err f) v o h e = tt

pub at-place : (records : List (List (List ℕ))) (i k : ℕ) (fields : List (List ℕ)) → i ≡ k → slice_get records i ≡ Some fields → slice_get records k ≡ Some fields
at-place records i k fields e h = rw (← e) h
