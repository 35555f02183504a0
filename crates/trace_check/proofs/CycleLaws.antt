-- Cycles that are found so.
-- for: check, check_from, replay and others
use Rattle.std.proofs.Common.{◌≡◌, ℕ, zero, suc, ◌+◌, ◌<◌, ◌≤◌, ℤ, Option, Some, List, [], ◌∷◌, ◌++◌, length, map, take, refl, sym, ◌∙◌, ap, subst, arith}
use Rattle.std.specs.Prelude.{slice_get}
use Rattle.std.specs.List.{AllByRecursion}
use Rattle.std.proofs.lemmas.List.{take-append-le, take_all}
use Rattle.plc_types.specs.declared.axis.AxisDef.{AxisDef}
use Rattle.plc_types.specs.declared.axis.AxisRow.{AxisRow}
use Rattle.plc_types.specs.declared.group.GroupRow.{GroupRow}
use Rattle.motion_history.specs.Entries.{cycle}
use Rattle.motion_history.specs.Setup.{Setup}
use Rattle.motion_history.specs.declared.refused.TraceVersion.{TraceVersion}
use Rattle.motion_history.specs.declared.refused.TraceVersion.TheVariants.{One, Two, Three}
use Rattle.trace_text.specs.Found.{CycleFound}
use Rattle.trace_text.specs.Records.{cycle_fields, grow_fields, reported_place, row_fields}
use Rattle.trace_text.specs.RowRanges.{found_place, found_row}
use Rattle.trace_text.specs.Trace.{entry_records, numbered}
use Rattle.trace_text.specs.TraceState.{TraceState, entry_of, place_at}
use Rattle.trace_text.specs.Writable.{found_entry, found_places, reported_places}
use Rattle.trace_text.specs.declared.found.FoundEntry.{FoundEntry}
use Rattle.trace_text.specs.declared.found.FoundEntry.TheVariants as found
use Rattle.trace_check.specs.FoundRecords.{found_entry_records, found_row_fields}
use Rattle.trace_check.specs.Rows.{IsFoundAt}
use Rattle.trace_text.specs.TraceKept.{places_with}
use Rattle.trace_check.proofs.Numbered.{length-numbered, take-behind, take-numbered, there}
use Rattle.trace_check.proofs.RowLaws.{row-same}

abbrev pub cycle_found : ℕ → List AxisRow → List GroupRow → List ℤ → CycleFound
cycle_found n rows grows places = record { number = n; axes = rows; groups = grows; places = places }

-- an entry is this cycle, with some places
pub record IsThisCycle (e : FoundEntry) (n : ℕ) (rows : List AxisRow) (grows : List GroupRow) : Type 0 where
  pub places : List ℤ
  pub is : e ≡ found.Cycle (cycle_found n rows grows places)

pub this-cycle : (e : FoundEntry) (n : ℕ) (rows : List AxisRow) (grows : List GroupRow) → cycle n rows grows ≡ entry_of e → IsThisCycle e n rows grows
this-cycle (found.Call k i o) n rows grows h = absurd (cc)
this-cycle (found.Cycle c) n rows grows h =
    let a : n ≡ c.number = cc in
    let b : rows ≡ c.axes = cc in
    let d : grows ≡ c.groups = cc in
    record { places = c.places; is = λ i. found.Cycle (cycle_found (sym a i) (sym b i) (sym d i) c.places) }
this-cycle (found.End task) n rows grows h = absurd (cc)

pub places-are : (t : TraceState) (entry : ℕ) (e : FoundEntry) (c : CycleFound) → slice_get t.found entry ≡ Some e → e ≡ found.Cycle c → (n : ℕ) → place_at t entry n ≡ slice_get c.places n
places-are t entry e c at is n = rw (at, is) refl

-- each item of a list is so
pub each-at : {X : Type 0} (P : X → Type 0) (xs : List X) (i : ℕ) (x : X) → AllByRecursion P xs → slice_get xs i ≡ Some x → P x
each-at P [] i x all h = absurd (cc)
each-at P (y ∷ xs) zero x all h = let e : y ≡ x = cc in subst P e all.0
each-at P (y ∷ xs) (suc i) x all h = each-at P xs i x all.1 h

rows-alike : (v : TraceVersion) (s : Setup) (xs rows : List AxisRow) (places : List ℤ) (k : ℕ) → ((j : ℕ) → j < k → IsFoundAt v s.axes xs rows (slice_get places) j) →
    length xs ≡ length rows → length rows ≡ length s.axes → k ≤ length rows →
    take k (numbered (row_fields v s) 0 xs) ≡ take k (numbered (found_row_fields s places) 0 rows)
rows-alike v s xs rows places k h long each few =
    take-numbered (row_fields v s) (found_row_fields s places) k 0 xs rows
    (λ j m x y l is p q.
    let same : m ≡ j = omega (arith, is) in
    let within : j < length s.axes = omega (arith, l, few, each) in
    let d = there s.axes j within in
    rw same (row-same v s j places d.0 x y d.1 (h j l d.0 x y d.1 p q)))
    long

-- ---- the first records of a cycle

pub before-row : (v : TraceVersion) (s : Setup) (n : ℕ) (xs rows : List AxisRow) (gs grows : List GroupRow) (places : List ℤ) (k m : ℕ) → m ≡ 1 + k →
    ((j : ℕ) → j < k → IsFoundAt v s.axes xs rows (slice_get places) j) → (0 < k → length xs ≡ length rows) → length rows ≡ length s.axes → k ≤ length rows →
    take m (entry_records v s (cycle n xs gs)) ≡ take m (found_entry_records v s (found.Cycle (cycle_found n rows grows places)))
unfolding entry_records found_entry_records
before-row v s n xs rows gs grows places zero m e h long each few = let one : m ≡ 1 = omega (arith, e) in rw one refl
before-row v s n xs rows gs grows places (suc k) m e h long each few =
    let same : m ≡ suc (suc k) = omega (arith, e) in
    let many : length xs ≡ length rows = long (omega arith) in
    let a = numbered (row_fields v s) 0 xs in
    let b = numbered (found_row_fields s places) 0 rows in
    let la : length a ≡ length xs = length-numbered (row_fields v s) 0 xs in
    let lb : length b ≡ length rows = length-numbered (found_row_fields s places) 0 rows in
    let alike : take (suc k) a ≡ take (suc k) b = rows-alike v s xs rows places (suc k) h many each few in
    let left : take (suc k) (a ++ numbered (grow_fields s) 0 gs) ≡ take (suc k) a = take-append-le (suc k) a (numbered (grow_fields s) 0 gs) (omega (arith, la, many, few)) in
    let right : take (suc k) (b ++ numbered (grow_fields s) 0 grows) ≡ take (suc k) b = take-append-le (suc k) b (numbered (grow_fields s) 0 grows) (omega (arith, lb, few)) in
    rw same (ap (λ t. cycle_fields n ∷ t) (left ∙ alike ∙ sym right))

take-of-numbered : (f : ℕ → GroupRow → List (List ℕ)) (k m : ℕ) (xs : List GroupRow) → take k (numbered f m xs) ≡ numbered f m (take k xs)
take-of-numbered f zero m xs = refl
take-of-numbered f (suc k) m [] = refl
take-of-numbered f (suc k) m (x ∷ xs) = ap (λ t. f m x ∷ t) (take-of-numbered f k (suc m) xs)

-- the records of rows that are found so are those found
pub all-alike : (v : TraceVersion) (s : Setup) (xs rows : List AxisRow) (places : List ℤ) → ((j : ℕ) → IsFoundAt v s.axes xs rows (slice_get places) j) →
    length xs ≡ length rows → length rows ≡ length s.axes → numbered (row_fields v s) 0 xs ≡ numbered (found_row_fields s places) 0 rows
all-alike v s xs rows places h long each =
    let a = numbered (row_fields v s) 0 xs in
    let b = numbered (found_row_fields s places) 0 rows in
    let la : length a ≡ length xs = length-numbered (row_fields v s) 0 xs in
    let lb : length b ≡ length rows = length-numbered (found_row_fields s places) 0 rows in
    sym (take_all (length rows) a (omega (arith, la, long))) ∙ rows-alike v s xs rows places (length rows) (λ j l. h j) long each (omega arith) ∙ take_all (length rows) b (omega (arith, lb))

pub before-grow : (v : TraceVersion) (s : Setup) (n : ℕ) (xs rows : List AxisRow) (gs grows : List GroupRow) (places : List ℤ) (k m : ℕ) → m ≡ 1 + length rows + k →
    ((j : ℕ) → IsFoundAt v s.axes xs rows (slice_get places) j) → length xs ≡ length rows → length rows ≡ length s.axes → take k gs ≡ take k grows →
    take m (entry_records v s (cycle n xs gs)) ≡ take m (found_entry_records v s (found.Cycle (cycle_found n rows grows places)))
unfolding entry_records found_entry_records
before-grow v s n xs rows gs grows places k m e h long each same =
    let at : m ≡ suc (length rows + k) = omega (arith, e) in
    let a = numbered (row_fields v s) 0 xs in
    let b = numbered (found_row_fields s places) 0 rows in
    let la : length a ≡ length xs = length-numbered (row_fields v s) 0 xs in
    let lb : length b ≡ length rows = length-numbered (found_row_fields s places) 0 rows in
    let alike : a ≡ b = all-alike v s xs rows places h long each in
    let left = take-behind a (numbered (grow_fields s) 0 gs) (length rows + k) k (omega (arith, la, long)) in
    let right = take-behind b (numbered (grow_fields s) 0 grows) (length rows + k) k (omega (arith, lb)) in
    let inner : a ++ take k (numbered (grow_fields s) 0 gs) ≡ b ++ take k (numbered (grow_fields s) 0 grows) =
    rw (alike, take-of-numbered (grow_fields s) k 0 gs, take-of-numbered (grow_fields s) k 0 grows, same) refl in
    rw at (ap (λ t. cycle_fields n ∷ t) (left ∙ inner ∙ sym right))

-- ---- the whole cycle

rows-found : (v : TraceVersion) (ds : List AxisDef) (xs rows : List AxisRow) (p : ℕ → Option ℤ) → ((j : ℕ) → IsFoundAt v ds xs rows p j) → length xs ≡ length rows → length rows ≡ length ds → map found_row xs ≡ rows
rows-found v [] [] [] p h a b = refl
rows-found v [] (x ∷ xs) [] p h a b = absurd (omega (arith, a))
rows-found v [] [] (r ∷ rows) p h a b = absurd (omega (arith, b))
rows-found v [] (x ∷ xs) (r ∷ rows) p h a b = absurd (omega (arith, b))
rows-found v (d ∷ ds) xs [] p h a b = absurd (omega (arith, b))
rows-found v (d ∷ ds) [] (r ∷ rows) p h a b = absurd (omega (arith, a))
rows-found v (d ∷ ds) (x ∷ xs) (r ∷ rows) p h a b =
    let here = h 0 d x r refl refl refl in
    let later : map found_row xs ≡ rows = rows-found v ds xs rows (λ j. p (suc j)) (λ j. h (suc j)) (omega (arith, a)) (omega (arith, b)) in
    rw (here.row, later) refl

-- a version that has places
abbrev HasPlaces : TraceVersion → Type 0
HasPlaces v = (d : AxisDef) (r : AxisRow) → found_place v d r ≡ Some (reported_place d r)

places-found : (v : TraceVersion) → HasPlaces v → (ds : List AxisDef) (xs rows : List AxisRow) (places : List ℤ) → ((j : ℕ) → IsFoundAt v ds xs rows (slice_get places) j) → length xs ≡ length rows → length rows ≡ length ds → length places ≡ length ds → reported_places ds xs ≡ places
places-found v has [] xs rows [] h a b c = refl
places-found v has [] xs rows (p ∷ ps) h a b c = absurd (omega (arith, c))
places-found v has (d ∷ ds) [] rows ps h a b c = absurd (omega (arith, a, b))
places-found v has (d ∷ ds) (x ∷ xs) [] ps h a b c = absurd (omega (arith, a))
places-found v has (d ∷ ds) (x ∷ xs) (r ∷ rows) [] h a b c = absurd (omega (arith, c))
places-found v has (d ∷ ds) (x ∷ xs) (r ∷ rows) (p ∷ ps) h a b c =
    let here = h 0 d x r refl refl refl in
    let is = sym (has d x) ∙ here.place in
    let later : reported_places ds xs ≡ ps = places-found v has ds xs rows ps (λ j. h (suc j)) (omega (arith, a)) (omega (arith, b)) (omega (arith, c)) in
    cc (is, later)

nothing : (ps : List ℤ) → length ps ≡ 0 → [] ≡ ps
nothing [] e = refl
nothing (p ∷ ps) e = absurd (omega (arith, e))

all-places : (v : TraceVersion) (s : Setup) (xs rows : List AxisRow) (places : List ℤ) → ((j : ℕ) → IsFoundAt v s.axes xs rows (slice_get places) j) → length xs ≡ length rows → length rows ≡ length s.axes →
    length places ≡ places_with v (length s.axes) → found_places v s.axes xs ≡ places
all-places One s xs rows places h a b c = nothing places c
all-places Two s xs rows places h a b c = places-found Two (λ d r. refl) s.axes xs rows places h a b c
all-places Three s xs rows places h a b c = places-found Three (λ d r. refl) s.axes xs rows places h a b c

-- a cycle whose rows are found so is found so
pub whole-cycle : (v : TraceVersion) (s : Setup) (n : ℕ) (xs rows : List AxisRow) (grows : List GroupRow) (places : List ℤ) → ((j : ℕ) → IsFoundAt v s.axes xs rows (slice_get places) j) → length xs ≡ length rows → length rows ≡ length s.axes →
    length places ≡ places_with v (length s.axes) → found.Cycle (cycle_found n rows grows places) ≡ found_entry v s (cycle n xs grows)
whole-cycle v s n xs rows grows places h a b c =
    let r : map found_row xs ≡ rows = rows-found v s.axes xs rows (slice_get places) h a b in
    let p : found_places v s.axes xs ≡ places = all-places v s xs rows places h a b c in
    λ i. found.Cycle (cycle_found n (sym r i) grows (sym p i))

-- the places in the trace are those of the cycle
pub found-now : (t : TraceState) (entry : ℕ) (e : FoundEntry) (y : CycleFound) → slice_get t.found entry ≡ Some e → e ≡ found.Cycle y →
    (v : TraceVersion) (axes : List AxisDef) (xs rows : List AxisRow) (j : ℕ) → IsFoundAt v axes xs rows (place_at t entry) j → IsFoundAt v axes xs rows (slice_get y.places) j
found-now t entry e y at is v axes xs rows j h = λ d r row p q s.
    let f = h d r row p q s in
    record { row = f.row; place = f.place ∙ places-are t entry e y at is j }
