-- Drives that took a setpoint in each cycle.
-- for: check, check_from, replay and others
use Rattle.std.proofs.Common.{◌≡◌, ℕ, zero, suc, ◌+◌, ◌<◌, Some, List, [], ◌∷◌, length, map, refl, sym, ◌∙◌, ap, arith, inl, inr}
use Rattle.std.specs.Prelude.{All, slice_get}
use Rattle.std.specs.List.{AllByRecursion}
use Rattle.std.specs.Option.{option_map}
use Rattle.std.proofs.lemmas.Bool.{cases_eq}
use Rattle.std.proofs.lemmas.List.{append-nil, length-map}
use Rattle.std.proofs.lemmas.List.Elements.{All-from_recursion, recursion_from_All}
use Rattle.motion_history.specs.Setup.{Setup}
use Rattle.trace_text.specs.Records.{drive_fields, padded}
use Rattle.trace_text.specs.Trace.{drive_records, numbered}
use Rattle.trace_text.specs.declared.drive_end.DriveEndRow.{DriveEndRow}
use Rattle.plc_types.specs.declared.drive.DriveState.TheVariants.{NotReady}
use Rattle.std.specs.Prelude.{pos, slice_index_or}
use Rattle.trace_check.specs.Replays.{with_taken}
use Rattle.trace_check.specs.Stops.{StopsAt, Tells}
use Rattle.trace_check.specs.declared.difference.Stop.{Stop}
use Rattle.trace_check.proofs.Firsts.{stops-at}
use Rattle.trace_check.proofs.Numbered.{get-map, get-numbered, take-numbered}
use Rattle.std.proofs.lemmas.Option.{slice_get-get_or}

-- the first this many drives took this many setpoints
abbrev pub TookSoFar : ℕ → List DriveEndRow → ℕ → Type 0
TookSoFar c ds i = (j : ℕ) (d : DriveEndRow) → j < i → slice_get ds j ≡ Some d → with_taken c d ≡ d

pub taken-same : (c : ℕ) (d : DriveEndRow) → d.taken ≡ c → with_taken c d ≡ d
taken-same c d e = λ k. record d { taken = sym e k }

pub took-more : (c : ℕ) (ds : List DriveEndRow) (i : ℕ) (d : DriveEndRow) → slice_get ds i ≡ Some d → d.taken ≡ c → TookSoFar c ds i → TookSoFar c ds (i + 1)
took-more c ds i d at e before j x l p = elim (cases_eq j i) [
  | inl same ↦
      let q : Some d ≡ Some x = sym at ∙ ap (slice_get ds) (sym same) ∙ p in
      let is : d ≡ x = cc q in
      taken-same c x (ap (λ (y : DriveEndRow). y.taken) (sym is) ∙ e)
  | inr other ↦ before j x (omega (arith, other, l)) p
]

pub took-all : (c : ℕ) (ds : List DriveEndRow) (i : ℕ) → TookSoFar c ds i → length ds ≡ i → map (with_taken c) ds ≡ ds
took-all c [] i h e = refl
took-all c (d ∷ ds) zero h e = absurd (omega (arith, e))
took-all c (d ∷ ds) (suc i) h e =
    let here : with_taken c d ≡ d = h 0 d (omega arith) refl in
    let later : map (with_taken c) ds ≡ ds = took-all c ds i (λ j x l p. h (suc j) x (omega arith) p) (omega (arith, e)) in
    λ k. here k ∷ later k

get-of : {X : Type 0} (f : ℕ → X → List (List ℕ)) (xs : List X) (n : ℕ) (x : X) → slice_get xs n ≡ Some x → slice_get (numbered f 0 xs) n ≡ Some (f n x)
get-of f xs n x h = ap (λ rs. slice_get rs n) (sym (append-nil (numbered f 0 xs))) ∙ get-numbered f 0 xs [] n n x (omega arith) h

-- a drive that took another number
pub drive-stops : (s : Setup) (c : ℕ) (ds : List DriveEndRow) (i place q : ℕ) (d : DriveEndRow) (st : Stop) → slice_get ds i ≡ Some d → TookSoFar c ds i → q ≡ place + i →
    Tells q (padded (drive_fields s i (with_taken c d))) (padded (drive_fields s i d)) st → StopsAt place (drive_records s (map (with_taken c) ds)) (drive_records s ds) st
unfolding drive_records
drive-stops s c ds i place q d st at before e t =
    let mapped : (j : ℕ) (x : DriveEndRow) → slice_get ds j ≡ Some x → slice_get (map (with_taken c) ds) j ≡ Some (with_taken c x) =
    λ j x p. get-map (with_taken c) ds j ∙ ap (option_map (with_taken c)) p in
    stops-at st place i q _ _ _ _
    (take-numbered (drive_fields s) (drive_fields s) i 0 (map (with_taken c) ds) ds
    (λ j m x y l is p r.
    let a : Some (with_taken c y) ≡ Some x = sym (mapped j y r) ∙ p in
    let b : with_taken c y ≡ x = cc a in
    ap (drive_fields s m) (sym b ∙ before j y l r))
    (length-map ds (with_taken c)))
    (ap (option_map padded) (get-of (drive_fields s) (map (with_taken c) ds) i (with_taken c d) (mapped i d at)))
    (ap (option_map padded) (get-of (drive_fields s) ds i d at)) e t

took-each : (c : ℕ) (ds : List DriveEndRow) → map (with_taken c) ds ≡ ds → AllByRecursion (λ (d : DriveEndRow). d.taken ≡ c) ds
took-each c [] h = tt
took-each c (d ∷ ds) h =
    let here : with_taken c d ≡ d = cc h in
    let later : map (with_taken c) ds ≡ ds = cc h in
    (sym (ap (λ (y : DriveEndRow). y.taken) here), took-each c ds later)

-- then each of them did
pub took : (c : ℕ) (ds : List DriveEndRow) → map (with_taken c) ds ≡ ds → All (λ (d : DriveEndRow). d.taken ≡ c) ds
took c ds h = All-from_recursion (λ (d : DriveEndRow). d.taken ≡ c) ds (took-each c ds h)

took-back : (c : ℕ) (ds : List DriveEndRow) → AllByRecursion (λ (d : DriveEndRow). d.taken ≡ c) ds → map (with_taken c) ds ≡ ds
took-back c [] h = refl
took-back c (d ∷ ds) h =
    let here : with_taken c d ≡ d = taken-same c d h.0 in
    let later : map (with_taken c) ds ≡ ds = took-back c ds h.1 in
    λ k. here k ∷ later k

pub took-from : (c : ℕ) (ds : List DriveEndRow) → All (λ (d : DriveEndRow). d.taken ≡ c) ds → map (with_taken c) ds ≡ ds
took-from c ds h = took-back c ds (recursion_from_All (λ (d : DriveEndRow). d.taken ≡ c) ds h)

-- what stands for a drive that is not there
abbrev pub no_drive : DriveEndRow
no_drive = record { taken = 0; state = NotReady; actual = pos 0 }

pub took-next : (c : ℕ) (ds xs : List DriveEndRow) (i : ℕ) → xs ≡ ds → i < length xs → (slice_index_or xs i no_drive).taken ≡ c → TookSoFar c ds i → TookSoFar c ds (i + 1)
took-next c ds xs i same l e before = took-more c ds i (slice_index_or xs i no_drive) (ap (λ ys. slice_get ys i) (sym same) ∙ slice_get-get_or xs i no_drive l) e before

pub stops-next : (s u : Setup) (c : ℕ) (ds xs : List DriveEndRow) (i place q : ℕ) (st : Stop) → u ≡ s → xs ≡ ds → i < length xs → TookSoFar c ds i → q ≡ place + i →
    Tells q (padded (drive_fields u i (with_taken c (slice_index_or xs i no_drive)))) (padded (drive_fields u i (slice_index_or xs i no_drive))) st → StopsAt place (drive_records s (map (with_taken c) ds)) (drive_records s ds) st
stops-next s u c ds xs i place q st config same l before e t =
    let told : Tells q (padded (drive_fields s i (with_taken c (slice_index_or xs i no_drive)))) (padded (drive_fields s i (slice_index_or xs i no_drive))) st = rw config at t in
    drive-stops s c ds i place q (slice_index_or xs i no_drive) st (ap (λ ys. slice_get ys i) (sym same) ∙ slice_get-get_or xs i no_drive l) before e told
