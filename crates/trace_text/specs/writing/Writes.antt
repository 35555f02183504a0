-- What a writer of a text did.
use Rattle.std.specs.Prelude.{◌≡◌, ℕ, Option, Result, Ok, Err, List, ◌++◌}
use Rattle.std.specs.Io.KnownBytes.{Appends}
use Rattle.std.proofs.Common.{Vec, Global}
use Rattle.motion_numbers.specs.declared.out_of_memory.OutOfMemory.{OutOfMemory}
use Rattle.outside.specs.Faults.{Rose}
use Rattle.trace_text.specs.declared.writing.write.TraceFault.{TraceFault}
use Rattle.trace_text.specs.declared.writing.write.TraceFault.TheVariants as fault

-- some first bytes of the text were appended, and the others not. This project's profile
pub record WritesPrefix (old new : Option (List ℕ)) (text : List ℕ) : Type 0 where
  pub written : List ℕ
  pub left : List ℕ
  pub whole : text ≡ written ++ left
  pub appended : Appends old new written

-- what an output gives: its count of faults, and its bytes
pub record Output : Type 0 where
  pub count : ℕ
  pub told : Option (List ℕ)

-- on Ok the text was appended and no fault counted; a write fault comes only where the count of
-- faults rose; where a text isn't written whole, its first bytes are. This project's profile
abbrev pub Writes : Output → Output → List ℕ → Result (Unit {0}) TraceFault → Type 0
Writes old new text (Ok u) = Appends old.told new.told text × (new.count ≡ old.count)
Writes old new text (Err fault.WriteFault) =
    Rose old.count new.count × WritesPrefix old.told new.told text
Writes old new text (Err fault.OutOfMemory) =
    (new.count ≡ old.count) × WritesPrefix old.told new.told text

-- the same of a piece for which there may have been no memory: nothing was written then
abbrev pub WritesPiece : Output → Output → Result (Vec ℕ Global) OutOfMemory →
    Result (Unit {0}) TraceFault → Type 0
WritesPiece old new (Ok v) r = Writes old new v.items r
WritesPiece old new (Err e) r = (r ≡ Err fault.OutOfMemory) × (new ≡ old)
