-- What is left of a text's records.
-- for: written_records_are_read_back
use Rattle.std.specs.Prelude.{◌≡◌, refl, ℕ, zero, suc, ◌<◌, ◌≤◌, Option, Some, None, All, List, [], ◌∷◌, length}
use Rattle.std.specs.List.{AllByRecursion, flat_map}
use Rattle.std.proofs.Common.{◌∙◌, sym, ap, arith, add-one, inl, inr}
use Rattle.std.proofs.lemmas.Bool.{cases_Bool}
use Rattle.std.proofs.lemmas.List.Elements.{recursion_from_All}
use Rattle.std.proofs.lemmas.Option.{same_Some}
use Rattle.csv.specs.Machine.{Read, next_record, step, is_end, fields_after, field_after}
use Rattle.csv.specs.Reading.{default_config, records_from, records_next, strip_bom}
use Rattle.csv.specs.Writing.{default_writer, row_text}
use Rattle.csv.specs.declared.parser.State.{State}
use Rattle.csv.specs.declared.parser.State.TheVariants as st
use Rattle.csv.proofs.RoundTrip.{read-write}
use Rattle.trace_columns.specs.Records.{records_of, rest_from, text_of}

-- what the end of the text leaves
end-leaves : (s : State) (fields : List (List ℕ)) (field : List ℕ) (p : Read) → next_record default_config s fields field [] ≡ Some p →
    (p.1 ≡ st.StartRecord) × (p.2 ≡ [])
unfolding next_record
end-leaves st.StartRecord fields field p e = absurd (cc e)
end-leaves st.AfterCr fields field p e = absurd (cc e)
end-leaves st.StartField fields field p e = let q = same_Some _ p e in (ap (λ (r : Read). r.1) (sym q), ap (λ (r : Read). r.2) (sym q))
end-leaves st.InField fields field p e = let q = same_Some _ p e in (ap (λ (r : Read). r.1) (sym q), ap (λ (r : Read). r.2) (sym q))
end-leaves st.InQuoted fields field p e = let q = same_Some _ p e in (ap (λ (r : Read). r.1) (sym q), ap (λ (r : Read). r.2) (sym q))
end-leaves st.AfterQuote fields field p e = let q = same_Some _ p e in (ap (λ (r : Read). r.1) (sym q), ap (λ (r : Read). r.2) (sym q))
end-leaves st.InEscape fields field p e = let q = same_Some _ p e in (ap (λ (r : Read). r.1) (sym q), ap (λ (r : Read). r.2) (sym q))
end-leaves st.InComment fields field p e = let q = same_Some _ p e in (ap (λ (r : Read). r.1) (sym q), ap (λ (r : Read). r.2) (sym q))

-- a record takes no more bytes than there are
next-within : (xs : List ℕ) (s : State) (fields : List (List ℕ)) (field : List ℕ) (p : Read) →
    next_record default_config s fields field xs ≡ Some p → length p.2 ≤ length xs
unfolding next_record
next-within [] s fields field p e = let q = (end-leaves s fields field p e).1 in rw q (omega arith)
next-within (c ∷ xs) s fields field p e = elim (cases_Bool (is_end (step default_config s c).1)) [
  | inl ends ↦
      let here : Some (fields_after (step default_config s c).1 fields field, (step default_config s c).0, xs) ≡ Some p = rw ends at e in
      let q : xs ≡ p.2 = ap (λ (r : Read). r.2) (same_Some _ p here) in
      rw (← q) (omega arith)
  | inr goes ↦
      let here : next_record default_config (step default_config s c).0 (fields_after (step default_config s c).1 fields field) (field_after (step default_config s c).1 c field) xs ≡ Some p = rw goes at e in
      let within : length p.2 ≤ length xs = next-within xs _ _ _ p here in
      omega arith
]

-- and one at least, where there is one
next-shorter : (s : State) (fields : List (List ℕ)) (field : List ℕ) (c : ℕ) (xs : List ℕ) (p : Read) →
    next_record default_config s fields field (c ∷ xs) ≡ Some p → length p.2 ≤ length xs
unfolding next_record
next-shorter s fields field c xs p e = elim (cases_Bool (is_end (step default_config s c).1)) [
  | inl ends ↦
      let here : Some (fields_after (step default_config s c).1 fields field, (step default_config s c).0, xs) ≡ Some p = rw ends at e in
      let q : xs ≡ p.2 = ap (λ (r : Read). r.2) (same_Some _ p here) in
      rw (← q) (omega arith)
  | inr goes ↦
      let here : next_record default_config (step default_config s c).0 (fields_after (step default_config s c).1 fields field) (field_after (step default_config s c).1 c field) xs ≡ Some p = rw goes at e in
      next-within xs _ _ _ p here
]

none-left : (n : ℕ) → records_from default_config n st.StartRecord [] ≡ []
unfolding records_from next_record
none-left zero = refl
none-left (suc n) = refl

-- after a record this many may be read as there are bytes, or more
behind-same : (n m : ℕ) (s : State) (xs : List ℕ) (p : Read) →
    ((t : State) (ys : List ℕ) → length ys < n → length ys < m → records_from default_config n t ys ≡ records_from default_config m t ys) →
    next_record default_config s [] [] xs ≡ Some p → length xs < suc n → length xs < suc m →
    records_from default_config n p.1 p.2 ≡ records_from default_config m p.1 p.2
behind-same n m s [] p ih e l k =
    let q = end-leaves s [] [] p e in
    rw (q.0, q.1) (none-left n ∙ sym (none-left m))
behind-same n m s (c ∷ xs) p ih e l k =
    let shorter : length p.2 ≤ length xs = next-shorter s [] [] c xs p e in
    ih p.1 p.2 (omega arith) (omega arith)

next-same : (n m : ℕ) (s : State) (xs : List ℕ) (o : Option Read) →
    ((t : State) (ys : List ℕ) → length ys < n → length ys < m → records_from default_config n t ys ≡ records_from default_config m t ys) →
    next_record default_config s [] [] xs ≡ o → length xs < suc n → length xs < suc m →
    records_next (records_from default_config n) o ≡ records_next (records_from default_config m) o
next-same n m s xs None ih e l k = refl
next-same n m s xs (Some p) ih e l k = ap (λ t. p.0 ∷ t) (behind-same n m s xs p ih e l k)

from-same : (n m : ℕ) (s : State) (xs : List ℕ) → length xs < n → length xs < m →
    records_from default_config n s xs ≡ records_from default_config m s xs
unfolding records_from
from-same zero m s xs l k = absurd (omega arith)
from-same (suc n) zero s xs l k = absurd (omega arith)
from-same (suc n) (suc m) s xs l k =
    next-same n m s xs (next_record default_config s [] [] xs) (λ t ys a b. from-same n m t ys a b) refl l k

-- no record is left
pub rest-none : (s : State) (xs : List ℕ) → next_record default_config s [] [] xs ≡ None → rest_from s xs ≡ []
unfolding rest_from records_from
rest-none s xs e = rw e refl

rest-behind : (s : State) (xs : List ℕ) (p : Read) → next_record default_config s [] [] xs ≡ Some p →
    records_from default_config (length xs) p.1 p.2 ≡ rest_from p.1 p.2
unfolding rest_from
rest-behind s [] p e = let q = end-leaves s [] [] p e in rw (q.0, q.1) (none-left 0 ∙ sym (none-left 1))
rest-behind s (c ∷ xs) p e =
    let shorter : length p.2 ≤ length xs = next-shorter s [] [] c xs p e in
    from-same (suc (length xs)) (suc (length p.2)) p.1 p.2 (omega arith) (omega arith)

-- a record, and those after it
pub rest-more : (s : State) (xs : List ℕ) (p : Read) → next_record default_config s [] [] xs ≡ Some p → rest_from s xs ≡ p.0 ∷ rest_from p.1 p.2
unfolding rest_from records_from
rest-more s xs p e = rw e (ap (λ t. p.0 ∷ t) (rest-behind s xs p e))

-- the records of a text are those that are left at its beginning
pub records-rest : (text : List ℕ) → records_of text ≡ rest_from st.StartRecord (strip_bom text)
unfolding records_of rest_from
records-rest text = rw add-one refl

nothing-left : rest_from st.StartRecord [] ≡ []
unfolding next_record
nothing-left = rest-none st.StartRecord [] refl

-- what the default writer wrote is read back
pub rest-written : (rows : List (List (List ℕ))) → AllByRecursion (λ r. 1 ≤ length r) rows →
    rest_from st.StartRecord (flat_map (row_text default_writer) rows) ≡ rows
rest-written [] a = nothing-left
rest-written ([] ∷ rows) a = absurd (omega arith)
rest-written ((x ∷ xs) ∷ rows) a =
    rest-more st.StartRecord _ (x ∷ xs, st.StartRecord, flat_map (row_text default_writer) rows) (read-write (x ∷ xs) (flat_map (row_text default_writer) rows)) ∙
    ap (λ t. (x ∷ xs) ∷ t) (rest-written rows a.1)

-- and are the records of its text
pub records-written : (rows : List (List (List ℕ))) → All (λ row. 1 ≤ length row) rows → strip_bom (text_of rows) ≡ text_of rows →
    records_of (text_of rows) ≡ rows
unfolding text_of
records-written rows some plain =
    records-rest (text_of rows) ∙ ap (rest_from st.StartRecord) plain ∙ rest-written rows (recursion_from_All (λ row. 1 ≤ length row) rows some)
