-- A history that is kept in arrays grows at its end.
-- for: room_left
use Rattle.std.specs.Prelude.{◌≡◌, ℕ, ◌+◌, ◌-◌, ◌*◌, ◌<◌, ◌≤◌, zero, suc, List, [], ◌∷◌, ◌++◌, drop, length, take, refl, slice_get, Some}
use Rattle.std.specs.Option.{option_map}
use Rattle.std.specs.List.{AllByRecursion}
use Rattle.std.proofs.Common.{◌∙◌, ap, subst, arith}
use Rattle.std.proofs.Math.Nat.{mul-le-mul_right}
use Rattle.std.proofs.lemmas.List.{map-append, length-map, length-drop, drop-append-le, take-append-le, take_all}
use Rattle.std.proofs.lemmas.Option.{slice_get-map}
use Rattle.plc_types.specs.declared.axis.AxisRow.{AxisRow}
use Rattle.plc_types.specs.declared.group.GroupRow.{GroupRow}
use Rattle.motion_history.specs.declared.entry.CallMade.{CallMade}
use Rattle.motion_history.specs.declared.entry.Stored.{Stored}
use Rattle.motion_history.specs.declared.entry.Stored.TheVariants as stored
use Rattle.motion_history.specs.Entries.{Entry, call, cycle, end_of, cycle_count, cycles_of}
use Rattle.motion_history.specs.Stored.{Store, call_entry, entry_of, entries_of, IsMade}
use Rattle.motion_history.proofs.DistinctLemmas.{each-weaker}
use Rattle.motion_history.specs.Rows.{rows_at}

-- one more entry has its own cycles
pub cycles_of-more : (es : List Entry) (e : Entry) → cycles_of (es ++ e ∷ []) ≡ cycles_of es + cycle_count e
cycles_of-more [] e = omega arith
cycles_of-more (d ∷ es) e = let h = cycles_of-more es e in omega arith

-- entries that are added have their own cycles
pub cycles_of-append : (es more : List Entry) → cycles_of (es ++ more) ≡ cycles_of es + cycles_of more
cycles_of-append [] more = omega arith
cycles_of-append (e ∷ es) more = let h = cycles_of-append es more in omega arith

cycle_count-few : (e : Entry) → cycle_count e ≤ 1
cycle_count-few (call k i reply) = omega arith
cycle_count-few (cycle n axes groups) = omega arith
cycle_count-few (end_of task) = omega arith

-- there are no more cycles than entries
pub cycles_of-few : (es : List Entry) → cycles_of es ≤ length es
cycles_of-few [] = omega arith
cycles_of-few (e ∷ es) = let h = cycles_of-few es in let k = cycle_count-few e in omega arith

-- this many entries are kept
pub length-entries_of : (s : Store) (es : List Stored) → length (entries_of s es) ≡ length es
unfolding entries_of
length-entries_of s es = length-map es _

-- one more entry that is kept stands at the end
pub entries_of-more : (s : Store) (es : List Stored) (e : Stored) → entries_of s (es ++ e ∷ []) ≡ entries_of s es ++ entry_of s e ∷ []
unfolding entries_of
entries_of-more s es e = map-append _ es (e ∷ [])

-- the entry that is kept at a place
pub slice_get-entries_of : (s : Store) (es : List Stored) (place : ℕ) →
    slice_get (entries_of s es) place ≡ option_map (entry_of s) (slice_get es place)
unfolding entries_of
slice_get-entries_of s es place = slice_get-map _ es place

-- nothing is kept of no entries
pub entries_of-none : (s : Store) → entries_of s [] ≡ []
unfolding entries_of
entries_of-none s = refl

-- n times width is one width after n - 1 times width
before_last : (n width : ℕ) → 1 ≤ n → (n - 1) * width + width ≡ n * width
before_last zero width some = absurd (omega arith)
before_last (suc n) width some = let e : suc n - 1 ≡ n = omega arith in rw e (omega arith)

add_sub : (made : ℕ) → made + 1 - 1 ≡ made
add_sub made = omega arith

-- the rows of a cycle that was made stay where they are
rows_at-more : {X : Type 0} (width n made : ℕ) (rows more : List X) → 1 ≤ n → n ≤ made → made * width ≤ length rows →
    rows_at width n (rows ++ more) ≡ rows_at width n rows
rows_at-more width n made rows more some there len =
    let whole : n * width ≤ made * width = mul-le-mul_right width there in
    let first : (n - 1) * width + width ≡ n * width = before_last n width some in
    let le : (n - 1) * width ≤ length rows = omega arith in
    let d : drop ((n - 1) * width) (rows ++ more) ≡ drop ((n - 1) * width) rows ++ more = drop-append-le _ rows more le in
    let l : length (drop ((n - 1) * width) rows) ≡ length rows - (n - 1) * width = length-drop _ rows in
    let enough : width ≤ length (drop ((n - 1) * width) rows) = omega arith in
    rw d (take-append-le width _ more enough)

-- the rows of the next cycle are all that stand after those of the cycles before
pub rows_at-next : {X : Type 0} (width made : ℕ) (rows : List X) → length (drop (made * width) rows) ≡ width →
    rows_at width (made + 1) rows ≡ drop (made * width) rows
rows_at-next width made rows len =
    ap (λ k. take width (drop (k * width) rows)) (add_sub made) ∙ take_all width (drop (made * width) rows) (omega arith)

-- a store that has what another has, and more after it
pub record Extends (s more : Store) (called made : ℕ) : Type 0 where
  pub axes : more.axes ≡ s.axes
  pub groups : more.groups ≡ s.groups
  pub new_calls : List CallMade
  pub calls : more.calls ≡ s.calls ++ new_calls
  pub few_calls : called ≤ length s.calls
  pub new_axes : List AxisRow
  pub axis_rows : more.axis_rows ≡ s.axis_rows ++ new_axes
  pub all_axes : made * s.axes ≤ length s.axis_rows
  pub new_groups : List GroupRow
  pub group_rows : more.group_rows ≡ s.group_rows ++ new_groups
  pub all_groups : made * s.groups ≤ length s.group_rows

-- an element that is there stays where more stand after
slice_get-front : {X : Type 0} (xs ys : List X) (i : ℕ) → i < length xs → slice_get (xs ++ ys) i ≡ slice_get xs i
slice_get-front [] ys i l = absurd (omega arith)
slice_get-front (x ∷ xs) ys zero l = refl
slice_get-front (x ∷ xs) ys (suc i) l = slice_get-front xs ys i (omega arith)

-- an entry that was made stays as it is in a store that has more
entry_of-more : (s more : Store) (calls made : ℕ) (e : Stored) → Extends s more calls made → IsMade calls made e → entry_of more e ≡ entry_of s e
entry_of-more s more calls made (stored.Call place) x m =
    ap call_entry (ap (λ cs. slice_get cs place) x.calls ∙ slice_get-front s.calls x.new_calls place (omega (arith, x.few_calls)))
entry_of-more s more calls made (stored.Cycle n) x m =
    let a = rows_at-more s.axes n made s.axis_rows x.new_axes m.0 m.1 x.all_axes in
    let g = rows_at-more s.groups n made s.group_rows x.new_groups m.0 m.1 x.all_groups in
    rw (x.axes, x.groups, x.axis_rows, x.group_rows) (λ i. cycle n (a i) (g i))
entry_of-more s more calls made (stored.End task) x m = refl

-- entries that were made stay as they are in a store that has more
pub entries_of-extends : (s more : Store) (calls made : ℕ) (es : List Stored) → Extends s more calls made →
    AllByRecursion (IsMade calls made) es → entries_of more es ≡ entries_of s es
unfolding entries_of
entries_of-extends s more calls made [] x h = refl
entries_of-extends s more calls made (e ∷ es) x h =
    let a = entry_of-more s more calls made e x h.0 in
    let t = entries_of-extends s more calls made es x h.1 in
    cc

-- what was made is made where more is
IsMade-later : (calls made more_calls more_made : ℕ) → calls ≤ more_calls → made ≤ more_made → (e : Stored) → IsMade calls made e → IsMade more_calls more_made e
IsMade-later calls made more_calls more_made c m (stored.Call place) h = omega arith
IsMade-later calls made more_calls more_made c m (stored.Cycle n) h = (h.0, omega (arith, h.1))
IsMade-later calls made more_calls more_made c m (stored.End task) h = tt

pub AllMade-later : (calls made more_calls more_made : ℕ) → calls ≤ more_calls → made ≤ more_made → (es : List Stored) →
    AllByRecursion (IsMade calls made) es → AllByRecursion (IsMade more_calls more_made) es
AllMade-later calls made more_calls more_made c m es h = each-weaker _ _ (IsMade-later calls made more_calls more_made c m) es h

-- an entry that is kept at a place was made
pub AllMade-at : (calls made : ℕ) (es : List Stored) (place : ℕ) (e : Stored) → AllByRecursion (IsMade calls made) es →
    slice_get es place ≡ Some e → IsMade calls made e
AllMade-at calls made [] place e h at = absurd (cc)
AllMade-at calls made (d ∷ es) zero e h at = let same : d ≡ e = cc in let P : Stored → Type 0 = IsMade calls made in subst P same h.0
AllMade-at calls made (d ∷ es) (suc place) e h at = AllMade-at calls made es place e h.1 at
