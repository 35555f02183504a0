-- Records one after the other, as the lines of a header.
-- for: headers_are_read_back
use Rattle.std.specs.Prelude.{◌≡◌, refl, ℕ, zero, suc, ◌+◌, ◌≤◌, Some, None, Result, Ok, Err, OnOk, List, [], ◌∷◌, ◌++◌, length, map, take, slice_get}
use Rattle.std.proofs.Common.{◌∙◌, add-one, ap, append_assoc, arith, sym}
use Rattle.std.proofs.lemmas.Grind.{flat_map-append}
use Rattle.std.proofs.lemmas.List.{append-nil, map-append, take_all}
use Rattle.command_pool.specs.declared.wanted.Wanted.{Wanted}
use Rattle.segment_text.specs.Parts.{object_at, record_at}
use Rattle.segment_text.specs.TraceSegment.{lines_text, object_records}
use Rattle.segment_text.specs.Texts.{line_of}
use Rattle.segment_text.specs.WantedFields.{waiting_fields}
use Rattle.trace_text.specs.Trace.{numbered}

pub lines-joined : (xs ys : List (List (List ℕ))) → lines_text (xs ++ ys) ≡ lines_text xs ++ lines_text ys
unfolding lines_text
lines-joined xs ys = flat_map-append line_of xs ys

-- no lines are put
pub no_lines_put : (o : List ℕ) → o ≡ o ++ lines_text []
unfolding lines_text
no_lines_put o = sym (append-nil o)

-- the line of a record
pub one-line : (r : List (List ℕ)) → line_of r ≡ lines_text (r ∷ [])
unfolding lines_text
one-line r = sym (append-nil (line_of r))

-- a record is put, and others after it, which may find no memory
pub last_lines : {X E : Type 0} (r : Result X E) (o a new : List ℕ) (first : List (List ℕ)) (rs : List (List (List ℕ))) → a ≡ o ++ line_of first → OnOk r (new ≡ a ++ lines_text rs) →
    OnOk r (new ≡ o ++ lines_text (first ∷ rs))
unfolding lines_text
last_lines (Ok x) o a new first rs p q = rw (q, p) (append_assoc o (line_of first) (lines_text rs))
last_lines (Err e) o a new first rs p q = tt

-- records are put after others
pub lines_put : (o a new : List ℕ) (xs ys : List (List (List ℕ))) → a ≡ o ++ lines_text xs → new ≡ a ++ lines_text ys → new ≡ o ++ lines_text (xs ++ ys)
lines_put o a new xs ys p q = rw (q, p, lines-joined xs ys) (append_assoc o (lines_text xs) (lines_text ys))

-- the first items and the next
pub take-some : {X : Type 0} (xs : List X) (i : ℕ) (x : X) → slice_get xs i ≡ Some x → take (suc i) xs ≡ take i xs ++ x ∷ []
take-some [] i x e = absurd (cc e)
take-some (y ∷ ys) zero x e = let same : y ≡ x = cc e in ap (λ z. z ∷ []) same
take-some (y ∷ ys) (suc i) x e = ap (λ t. y ∷ t) (take-some ys i x e)

-- there are no more
pub take-none : {X : Type 0} (xs : List X) (i : ℕ) → slice_get xs i ≡ None → take i xs ≡ xs
take-none [] zero e = refl
take-none [] (suc i) e = refl
take-none (x ∷ xs) zero e = absurd (cc e)
take-none (x ∷ xs) (suc i) e = ap (λ t. x ∷ t) (take-none xs i e)

pub take-all : {X : Type 0} (xs : List X) (i : ℕ) → i ≡ length xs → take i xs ≡ xs
take-all [] zero e = refl
take-all [] (suc i) e = refl
take-all (x ∷ xs) zero e = absurd (omega arith)
take-all (x ∷ xs) (suc i) e = ap (λ t. x ∷ t) (take-all xs i (omega arith))

-- one more command of a list is put
pub waiting_put : (o a new : List ℕ) (queue : List Wanted) (i : ℕ) (w : Wanted) → slice_get queue i ≡ Some w →
    a ≡ o ++ lines_text (map waiting_fields (take i queue)) → new ≡ a ++ line_of (waiting_fields w) →
    new ≡ o ++ lines_text (map waiting_fields (take (i + 1) queue))
waiting_put o a new queue i w e p q =
    let next : take (i + 1) queue ≡ take i queue ++ w ∷ [] = rw add-one (take-some queue i w e) in
    rw (next, map-append waiting_fields (take i queue) (w ∷ []))
    (lines_put o a new (map waiting_fields (take i queue)) (waiting_fields w ∷ []) p (q ∙ ap (λ t. a ++ t) (one-line (waiting_fields w))))

-- all of them are put
pub all_put : (o a : List ℕ) (queue : List Wanted) (i : ℕ) → slice_get queue i ≡ None → a ≡ o ++ lines_text (map waiting_fields (take i queue)) →
    a ≡ o ++ lines_text (map waiting_fields queue)
all_put o a queue i e p = rw (take-none queue i e) at p

-- so are they where none is left
pub none_left : (o a : List ℕ) (queue : List Wanted) (i : ℕ) → length queue ≤ i → a ≡ o ++ lines_text (map waiting_fields (take i queue)) →
    a ≡ o ++ lines_text (map waiting_fields queue)
none_left o a queue i l p = rw (take_all i queue l) at p

objects-next : {X : Type 0} (f : ℕ → X → List (List ℕ)) (q : ℕ → List Wanted) (n : ℕ) (xs : List X) (i k : ℕ) → k ≡ n + i →
    object_records f q n (take (suc i) xs) ≡ object_records f q n (take i xs) ++ object_at f q k (slice_get xs i)
objects-next f q n [] zero k e = refl
objects-next f q n [] (suc i) k e = refl
objects-next f q n (x ∷ xs) zero k e =
    let same : n ≡ k = omega arith in
    rw (← same) (ap (λ t. f n x ∷ t) (append-nil (map waiting_fields (q n))))
objects-next f q n (x ∷ xs) (suc i) k e =
    ap (λ t. f n x ∷ t)
    (ap (λ t. map waiting_fields (q n) ++ t) (objects-next f q (suc n) xs i k (omega arith))
    ∙ sym (append_assoc (map waiting_fields (q n)) (object_records f q (suc n) (take i xs)) (object_at f q k (slice_get xs i))))

-- one more axis or group is put
pub objects_put : {X : Type 0} (f : ℕ → X → List (List ℕ)) (q : ℕ → List Wanted) (xs : List X) (i : ℕ) (o a new : List ℕ) →
    a ≡ o ++ lines_text (object_records f q 0 (take i xs)) → new ≡ a ++ lines_text (object_at f q i (slice_get xs i)) →
    new ≡ o ++ lines_text (object_records f q 0 (take (i + 1) xs))
objects_put f q xs i o a new p h =
    let next : object_records f q 0 (take (i + 1) xs) ≡ object_records f q 0 (take i xs) ++ object_at f q i (slice_get xs i) =
    rw add-one (objects-next f q 0 xs i i (omega arith)) in
    rw next (lines_put o a new (object_records f q 0 (take i xs)) (object_at f q i (slice_get xs i)) p h)

records-next : {X : Type 0} (f : ℕ → X → List (List ℕ)) (n : ℕ) (xs : List X) (i k : ℕ) → k ≡ n + i →
    numbered f n (take (suc i) xs) ≡ numbered f n (take i xs) ++ record_at f k (slice_get xs i)
records-next f n [] zero k e = refl
records-next f n [] (suc i) k e = refl
records-next f n (x ∷ xs) zero k e = let same : n ≡ k = omega arith in ap (λ m. f m x ∷ []) same
records-next f n (x ∷ xs) (suc i) k e = ap (λ t. f n x ∷ t) (records-next f (suc n) xs i k (omega arith))

-- one more record is put
pub records_put : {X : Type 0} (f : ℕ → X → List (List ℕ)) (xs : List X) (i : ℕ) (o a new : List ℕ) →
    a ≡ o ++ lines_text (numbered f 0 (take i xs)) → new ≡ a ++ lines_text (record_at f i (slice_get xs i)) →
    new ≡ o ++ lines_text (numbered f 0 (take (i + 1) xs))
records_put f xs i o a new p h =
    let next : numbered f 0 (take (i + 1) xs) ≡ numbered f 0 (take i xs) ++ record_at f i (slice_get xs i) =
    rw add-one (records-next f 0 xs i i (omega arith)) in
    rw next (lines_put o a new (numbered f 0 (take i xs)) (record_at f i (slice_get xs i)) p h)
