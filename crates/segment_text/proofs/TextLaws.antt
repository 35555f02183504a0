-- Fields one after the other, and lines.
-- for: header_text
use Rattle.std.specs.Prelude.{◌≡◌, refl, ℕ, List, [], ◌∷◌, ◌++◌, Result, Ok, Err, OnOk, map}
use Rattle.std.proofs.Common.{append_assoc, sym, ◌∙◌, ap}
use Rattle.std.proofs.lemmas.Grind.{flat_map-append}
use Rattle.std.proofs.lemmas.List.{append-nil}
use Rattle.segment_text.specs.Texts.{fields_text, line_of}

-- the text of fields and of others after them
pub fields-joined : (xs ys : List (List ℕ)) → fields_text (xs ++ ys) ≡ fields_text xs ++ fields_text ys
unfolding fields_text
fields-joined xs ys = flat_map-append (λ field. 44 ∷ field) xs ys

-- nothing is put of no fields
pub none_put : (o : List ℕ) → o ≡ o ++ fields_text []
unfolding fields_text
none_put o = sym (append-nil o)

-- fields are put after others
pub then_put : (o a new : List ℕ) (xs ys : List (List ℕ)) → a ≡ o ++ fields_text xs → new ≡ a ++ fields_text ys → new ≡ o ++ fields_text (xs ++ ys)
then_put o a new xs ys p q = rw (q, p, fields-joined xs ys) (append_assoc o (fields_text xs) (fields_text ys))

-- the same of the last fields, which may find no memory
pub last_put : {X E : Type 0} (r : Result X E) (o a new : List ℕ) (xs ys : List (List ℕ)) → a ≡ o ++ fields_text xs → OnOk r (new ≡ a ++ fields_text ys) → OnOk r (new ≡ o ++ fields_text (xs ++ ys))
last_put (Ok x) o a new xs ys p q = then_put o a new xs ys p q
last_put (Err e) o a new xs ys p q = tt

-- one more item, as it is seen
pub mapped_push : {X Y : Type 0} (f : X → Y) (xs : List X) (x : X) → map f (xs ++ x ∷ []) ≡ map f xs ++ f x ∷ []
mapped_push f [] x = refl
mapped_push f (y ∷ ys) x = ap (λ t. f y ∷ t) (mapped_push f ys x)

-- a line is put: its kind, its fields, and its end
pub line_put : (o a b new kind : List ℕ) (fields : List (List ℕ)) → a ≡ o ++ kind → b ≡ a ++ fields_text fields → new ≡ b ++ 10 ∷ [] → new ≡ o ++ line_of (kind ∷ fields)
unfolding line_of
line_put o a b new kind fields p q r =
    rw (r, q, p) (append_assoc (o ++ kind) (fields_text fields) (10 ∷ []) ∙ append_assoc o kind (fields_text fields ++ 10 ∷ []))
