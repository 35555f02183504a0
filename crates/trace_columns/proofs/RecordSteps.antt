-- What a read of a record takes.
-- for: field, next_record
use Rattle.std.specs.Prelude.{◌≡◌, refl, ℕ, zero, suc, Bool, true, Option, Some, None, List, [], ◌∷◌, slice_index_or}
use Rattle.std.proofs.Common.{◌∙◌, sym, subst, inl}
use Rattle.csv.specs.Machine.{Read, next_record}
use Rattle.csv.specs.Records.{field_at}
use Rattle.csv.specs.Reading.{NextIs, ReadRecord, ReadsNext, default_config, pending_of, reader_config, reader_state, reader_trim, source_of, took_first}
use Rattle.csv.specs.declared.parser.State.{State}
use Rattle.csv.specs.declared.reader.Reader.{Reader}
use Rattle.csv.specs.declared.reader.Trim.TheVariants as trimming
use Rattle.trace_columns.specs.Records.{IsReading, TakesNext, rest_from}
use Rattle.trace_columns.proofs.RecordLaws.{rest-none, rest-more}

-- after a record nothing but what is left is read
source-after : {R : Type 0} (remaining : R → Option (List ℕ)) (new : Reader R) (ys : List ℕ) →
    new.bom_checked ≡ true → pending_of (remaining new.rdr) new ≡ Some ys → source_of remaining new ≡ Some ys
source-after remaining new ys b e = rw b e

takes-at : {R : Type 0} (remaining : R → Option (List ℕ)) (new : Reader R) (s : State) (text ys : List ℕ) (o : Option Read) (found : Bool) (fields : List (List ℕ)) (left : List (List (List ℕ))) →
    next_record default_config s [] [] text ≡ o → left ≡ rest_from s text → NextIs o found fields new.state ys →
    reader_config new ≡ default_config → reader_trim new ≡ trimming.None → took_first new ≡ true → source_of remaining new ≡ Some ys →
    TakesNext left found fields remaining new
takes-at {R} remaining new s text ys None found fields left e l n c t f source =
    let P : List (List (List ℕ)) → Type 0 = λ x. TakesNext x found fields remaining new in
    subst P (sym (l ∙ rest-none s text e)) n
takes-at {R} remaining new s text ys (Some p) found fields left e l n c t f source =
    let P : List (List (List ℕ)) → Type 0 = λ x. TakesNext x found fields remaining new in
    let more : IsReading remaining new (rest_from p.1 p.2) = record {
      config = c;
      trim = t;
      ready = inl f;
      text = ys;
      source = source;
      rest = λ i. rest_from (sym n.2 i) (sym n.3 i);
    } in
    subst P (sym (l ∙ rest-more s text p e)) (n.0, n.1, more)

reads-at : {R : Type 0} (remaining : R → Option (List ℕ)) (new : Reader R) (s : State) (text : List ℕ) (after : Option (List ℕ)) (found : Bool) (fields : List (List ℕ)) (left : List (List (List ℕ))) →
    ReadsNext default_config s (Some text) after found fields new.state → pending_of (remaining new.rdr) new ≡ after → new.bom_checked ≡ true → left ≡ rest_from s text →
    reader_config new ≡ default_config → reader_trim new ≡ trimming.None → took_first new ≡ true →
    TakesNext left found fields remaining new
reads-at remaining new s text None found fields left r e b l c t f = absurd r
reads-at remaining new s text (Some ys) found fields left r e b l c t f =
    takes-at remaining new s text ys (next_record default_config s [] [] text) found fields left refl l r c t f (source-after remaining new ys b e)

-- a read takes the first of the records that are left
pub reads-next : {R : Type 0} (remaining : R → Option (List ℕ)) (old new : Reader R) (found : Bool) (fields : List (List ℕ)) (left : List (List (List ℕ))) →
    IsReading remaining old left → ReadRecord remaining old new found fields → took_first new ≡ true → TakesNext left found fields remaining new
reads-next remaining old new found fields left is r f =
    reads-at remaining new (reader_state old) is.text (pending_of (remaining new.rdr) new) found fields left
    (rw (is.config, is.source) at r.0) refl r.1 is.rest (r.2 ∙ is.config) (r.3 ∙ is.trim) f

-- where no field is, the field is empty
pub field-none : (fields : List (List ℕ)) (i : ℕ) → field_at fields i ≡ None → slice_index_or fields i [] ≡ []
unfolding field_at
field-none [] zero e = refl
field-none [] (suc i) e = refl
field-none (f ∷ fs) zero e = absurd (cc e)
field-none (f ∷ fs) (suc i) e = field-none fs i e
