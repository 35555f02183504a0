-- Lists of a header's records that grow by one.
-- for: headers_are_read_back
use Rattle.std.specs.Prelude.{◌≡◌, refl, ℕ, zero, suc, ◌+◌, ◌≤◌, ◌<◌, Some, List, [], ◌∷◌, ◌++◌, length, map, replicate, slice_get, slice_set}
use Rattle.std.specs.List.{AllByRecursion, AllZip}
use Rattle.std.proofs.Common.{◌∙◌, ap, append_assoc, arith, subst, sym}
use Rattle.std.proofs.lemmas.List.{append-nil, map-append}
use Rattle.command_pool.specs.Waiting.{queue_of}
use Rattle.command_pool.specs.declared.wanted.Wanted.{Wanted}
use Rattle.segment_text.specs.TraceSegment.{object_records}
use Rattle.segment_text.specs.WantedFields.{waiting_fields}
use Rattle.trace_text.specs.Trace.{numbered}

-- ---- items of the first of some definitions

abbrev pub AllFirst : {D X : Type 0} → (D → X → Type 0) → List D → List X → Type 0
AllFirst R ds [] = Unit {0}
AllFirst R [] (x ∷ xs) = ⊥
AllFirst R (d ∷ ds) (x ∷ xs) = R d x × AllFirst R ds xs

pub first-more : {D X : Type 0} (R : D → X → Type 0) (ds : List D) (xs : List X) (d : D) (x : X) → AllFirst R ds xs → slice_get ds (length xs) ≡ Some d → R d x → AllFirst R ds (xs ++ x ∷ [])
first-more R [] [] d x h at r = absurd (cc at)
first-more R (e ∷ ds) [] d x h at r = let same : e ≡ d = cc at in (subst (λ y. R y x) (sym same) r, tt)
first-more R [] (y ∷ xs) d x h at r = absurd h
first-more R (e ∷ ds) (y ∷ xs) d x h at r = (h.0, first-more R ds xs d x h.1 at r)

-- where there is one for each definition
pub first-all : {D X : Type 0} (R : D → X → Type 0) (ds : List D) (xs : List X) → AllFirst R ds xs → length xs ≡ length ds → AllZip R ds xs
first-all R [] [] h e = tt
first-all R (d ∷ ds) [] h e = absurd (omega arith)
first-all R [] (x ∷ xs) h e = absurd h
first-all R (d ∷ ds) (x ∷ xs) h e = (h.0, first-all R ds xs h.1 (omega arith))

-- ---- records

-- one object more, for which nothing waits yet
pub objects-push : {X : Type 0} (f : ℕ → X → List (List ℕ)) (q : ℕ → List Wanted) (n : ℕ) (xs : List X) (x : X) (k : ℕ) → k ≡ n + length xs → q k ≡ [] →
    object_records f q n (xs ++ x ∷ []) ≡ object_records f q n xs ++ f k x ∷ []
objects-push f q n [] x k e empty = let same : n ≡ k = omega arith in rw (same, empty) refl
objects-push f q n (y ∷ ys) x k e empty =
    ap (λ t. f n y ∷ t)
    (ap (λ t. map waiting_fields (q n) ++ t) (objects-push f q (suc n) ys x k (omega arith) empty)
    ∙ sym (append_assoc (map waiting_fields (q n)) (object_records f q (suc n) ys) (f k x ∷ [])))

-- one instance more
pub numbered-push : {X : Type 0} (f : ℕ → X → List (List ℕ)) (n : ℕ) (xs : List X) (x : X) (k : ℕ) → k ≡ n + length xs →
    numbered f n (xs ++ x ∷ []) ≡ numbered f n xs ++ f k x ∷ []
numbered-push f n [] x k e = let same : n ≡ k = omega arith in ap (λ m. f m x ∷ []) same
numbered-push f n (y ∷ ys) x k e = ap (λ t. f n y ∷ t) (numbered-push f (suc n) ys x k (omega arith))

-- the same commands wait
pub objects-same : {X : Type 0} (f : ℕ → X → List (List ℕ)) (q r : ℕ → List Wanted) (n : ℕ) (xs : List X) → ((j : ℕ) → n ≤ j → j < n + length xs → r j ≡ q j) →
    object_records f r n xs ≡ object_records f q n xs
objects-same f q r n [] h = refl
objects-same f q r n (x ∷ xs) h =
    let here : r n ≡ q n = h n (omega arith) (omega arith) in
    let more : object_records f r (suc n) xs ≡ object_records f q (suc n) xs = objects-same f q r (suc n) xs (λ j a b. h j (omega arith) (omega arith)) in
    ap (λ t. f n x ∷ (map waiting_fields t ++ object_records f r (suc n) xs)) here
    ∙ ap (λ t. f n x ∷ (map waiting_fields (q n) ++ t)) more

-- one command more waits for the last
pub objects-grown : {X : Type 0} (f : ℕ → X → List (List ℕ)) (q r : ℕ → List Wanted) (n : ℕ) (x : X) (xs : List X) (w : Wanted) (k : ℕ) → k ≡ n + length xs →
    ((j : ℕ) → n ≤ j → j < k → r j ≡ q j) → r k ≡ q k ++ w ∷ [] → object_records f r n (x ∷ xs) ≡ object_records f q n (x ∷ xs) ++ waiting_fields w ∷ []
objects-grown f q r n x [] w k e h grown =
    let same : k ≡ n = omega arith in
    let here : r n ≡ q n ++ w ∷ [] = subst (λ i. r i ≡ q i ++ w ∷ []) same grown in
    ap (λ t. f n x ∷ t)
    (append-nil (map waiting_fields (r n)) ∙ ap (map waiting_fields) here ∙ map-append waiting_fields (q n) (w ∷ [])
    ∙ ap (λ t. t ++ waiting_fields w ∷ []) (sym (append-nil (map waiting_fields (q n)))))
objects-grown f q r n x (y ∷ ys) w k e h grown =
    let here : r n ≡ q n = h n (omega arith) (omega arith) in
    let more = objects-grown f q r (suc n) y ys w k (omega arith) (λ j a b. h j (omega arith) b) grown in
    ap (λ t. f n x ∷ (map waiting_fields t ++ object_records f r (suc n) (y ∷ ys))) here
    ∙ ap (λ t. f n x ∷ t)
    (ap (λ t. map waiting_fields (q n) ++ t) more
    ∙ sym (append_assoc (map waiting_fields (q n)) (object_records f q (suc n) (y ∷ ys)) (waiting_fields w ∷ [])))

-- ---- lists of commands

pub set-other : (lists : List (List Wanted)) (i j : ℕ) (v : List Wanted) → (j ≡ i → ⊥) → queue_of (slice_set lists i v) j ≡ queue_of lists j
set-other [] i j v h = refl
set-other (q ∷ qs) zero zero v h = absurd (h refl)
set-other (q ∷ qs) zero (suc j) v h = refl
set-other (q ∷ qs) (suc i) zero v h = refl
set-other (q ∷ qs) (suc i) (suc j) v h = set-other qs i j v (λ e. h (ap suc e))

pub set-here : (lists : List (List Wanted)) (i : ℕ) (v : List Wanted) → i < length lists → queue_of (slice_set lists i v) i ≡ v
set-here [] i v l = absurd (omega arith)
set-here (q ∷ qs) zero v l = refl
set-here (q ∷ qs) (suc i) v l = set-here qs i v (omega arith)

pub set-long : (lists : List (List Wanted)) (i : ℕ) (v : List Wanted) → length (slice_set lists i v) ≡ length lists
set-long [] i v = refl
set-long (q ∷ qs) zero v = refl
set-long (q ∷ qs) (suc i) v = ap suc (set-long qs i v)

pub set-each : (P : List Wanted → Type 0) (lists : List (List Wanted)) (i : ℕ) (v : List Wanted) → AllByRecursion P lists → P v → AllByRecursion P (slice_set lists i v)
set-each P [] i v h p = tt
set-each P (q ∷ qs) zero v h p = (p, h.1)
set-each P (q ∷ qs) (suc i) v h p = (h.0, set-each P qs i v h.1 p)

pub none-waits : (k i : ℕ) → queue_of (replicate k []) i ≡ []
none-waits zero i = refl
none-waits (suc k) zero = refl
none-waits (suc k) (suc i) = none-waits k i

pub each-empty : (P : List Wanted → Type 0) (k : ℕ) → P [] → AllByRecursion P (replicate k [])
each-empty P zero p = tt
each-empty P (suc k) p = (p, each-empty P k p)

pub copies-long : {X : Type 0} (x : X) (k : ℕ) → length (replicate k x) ≡ k
copies-long x zero = refl
copies-long x (suc k) = ap suc (copies-long x k)

-- ---- lists joined

pub joined-one : {X : Type 0} (a b c : List X) → b ≡ [] → c ≡ [] → a ++ (b ++ c) ≡ a
joined-one a b c e f = ap (λ t. a ++ (t ++ c)) e ∙ ap (λ t. a ++ t) f ∙ append-nil a

pub joined-two : {X : Type 0} (a b c : List X) → c ≡ [] → a ++ (b ++ c) ≡ a ++ b
joined-two a b c e = ap (λ t. a ++ t) (ap (λ t. b ++ t) e ∙ append-nil b)
