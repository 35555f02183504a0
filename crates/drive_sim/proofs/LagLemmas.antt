-- The lag of a simulated drive.
-- for: lags_are_counted_in_kept_targets
use Rattle.std.specs.Prelude.{ℕ, zero, suc, ◌≡◌, ◌≤◌, ◌<◌, ◌+◌, ◌-◌, nat_lt, ℤ, true, false, false, List, [], ◌∷◌, ◌++◌, length, map, drop, slice_index_or}
use Rattle.std.proofs.Common.{arith, refl, ap, sym, ◌∙◌, inl, inr, append_assoc, append-nil, length-append, length-drop}
use Rattle.std.proofs.lemmas.Bool.{cases_lt, cases_Bool, lt-ltb, ltb-true}
use Rattle.circular_buffer.specs.Buffer.{keep_last}
use Rattle.plc_types.specs.declared.drive.DriveOut.{DriveOut}
use Rattle.drive_sim.specs.Sim.{DriveSim}
use Rattle.drive_sim.specs.Steps.{keeps_target, kept_after, followed, actual_after, drive_stepped}
use Rattle.drive_sim.specs.Runs.{drive_after, KeepsAll, lagging}

-- an element inside a list doesn't depend on what stands for those outside
same_inside : (xs : List ℤ) (i : ℕ) (d e : ℤ) → i < length xs → slice_index_or xs i d ≡ slice_index_or xs i e
same_inside [] i d e below = absurd (omega arith)
same_inside (x ∷ xs) zero d e below = refl
same_inside (x ∷ xs) (suc i) d e below = same_inside xs i d e (omega arith)

-- where there are more targets than the lag, the one that lies it before the last
lagging-some : (lag : ℕ) (xs : List ℤ) (count : ℤ) → lag < length xs → lagging lag xs count ≡ slice_index_or xs (length xs - (lag + 1)) count
lagging-some lag xs count more = let e : nat_lt lag (length xs) ≡ true = lt-ltb lag (length xs) more in rw e refl

-- else the count
lagging-none : (lag : ℕ) (xs : List ℤ) (count : ℤ) → length xs ≤ lag → lagging lag xs count ≡ count
lagging-none lag xs count few =
    elim (cases_Bool (nat_lt lag (length xs))) [
      | inl more ↦ (let h : lag < length xs = ltb-true lag (length xs) more in absurd (omega arith))
      | inr e ↦ rw e refl
    ]

-- a target before the last ones as many as the lag is the count by these
one_more : (lag : ℕ) (x : ℤ) (xs : List ℤ) (d : ℤ) → lag ≤ length xs → lagging lag (x ∷ xs) d ≡ lagging lag xs x
one_more lag x xs d many =
    elim (cases_lt lag (length xs)) [
      | inl more ↦ (
          let place : length (x ∷ xs) - (lag + 1) ≡ suc (length xs - (lag + 1)) = omega arith in
          lagging-some lag (x ∷ xs) d (omega arith) ∙ ap (λ i. slice_index_or (x ∷ xs) i d) place
          ∙ same_inside xs (length xs - (lag + 1)) d x (omega arith) ∙ sym (lagging-some lag xs x more))
      | inr few ↦ (
          let place : length (x ∷ xs) - (lag + 1) ≡ 0 = omega arith in
          lagging-some lag (x ∷ xs) d (omega arith) ∙ ap (λ i. slice_index_or (x ∷ xs) i d) place
          ∙ sym (lagging-none lag xs x few))
    ]

-- the last targets, as many as the lag, say the same as all, with the count by these: where they
-- are one more
full : (lag : ℕ) (xs ts : List ℤ) (d : ℤ) → length xs ≡ lag + 1 →
    lagging lag (keep_last lag xs ++ ts) (lagging lag xs d) ≡ lagging lag (xs ++ ts) d
full lag [] ts d is = absurd (omega (arith, is))
full lag (x ∷ xs) ts d is =
    let one : length (x ∷ xs) - lag ≡ 1 = omega (arith, is) in
    let few : length xs ≤ lag = omega (arith, is) in
    let whole : length (xs ++ ts) ≡ length xs + length ts = length-append xs ts in
    let count : lagging lag (x ∷ xs) d ≡ x = one_more lag x xs d (omega (arith, is)) ∙ lagging-none lag xs x few in
    ap (λ i. lagging lag (drop i (x ∷ xs) ++ ts) (lagging lag (x ∷ xs) d)) one ∙ ap (lagging lag (xs ++ ts)) count
    ∙ sym (one_more lag x (xs ++ ts) d (omega (arith, is, whole)))

-- and where they are fewer
window : (lag : ℕ) (xs ts : List ℤ) (d : ℤ) → length xs ≤ lag + 1 →
    lagging lag (keep_last lag xs ++ ts) (lagging lag xs d) ≡ lagging lag (xs ++ ts) d
window lag xs ts d few =
    elim (cases_lt lag (length xs)) [
      | inl more ↦ full lag xs ts d (omega arith)
      | inr all ↦ (
          let none : length xs - lag ≡ 0 = omega arith in
          ap (λ i. lagging lag (drop i xs ++ ts) (lagging lag xs d)) none
          ∙ ap (lagging lag (xs ++ ts)) (lagging-none lag xs d all))
    ]

-- what is not below
not_below : (n lag : ℕ) → nat_lt n lag ≡ false → lag ≤ n
not_below n lag e =
    elim (cases_lt n lag) [
      | inl fewer ↦ (let both : true ≡ false = sym (lt-ltb n lag fewer) ∙ e in absurd (cc))
      | inr all ↦ all
    ]

-- the count by kept targets, at most as many as the lag, and one more
followed-lagging : (lag : ℕ) (xs : List ℤ) (t d : ℤ) → length xs ≤ lag → followed lag xs t d ≡ lagging lag (xs ++ t ∷ []) d
followed-lagging lag xs t d few =
    let n : length (xs ++ t ∷ []) ≡ length xs + 1 = length-append xs (t ∷ []) in
    elim (cases_Bool (nat_lt (length xs) lag)) [
      | inl e ↦ (
          let fewer : length xs < lag = ltb-true (length xs) lag e in
          rw e (sym (lagging-none lag (xs ++ t ∷ []) d (omega (arith, n)))))
      | inr e ↦ (
          let all : lag ≤ length xs = not_below (length xs) lag e in
          let first : length (xs ++ t ∷ []) - (lag + 1) ≡ 0 = omega (arith, n) in
          rw e (sym (lagging-some lag (xs ++ t ∷ []) d (omega (arith, n))
          ∙ ap (λ i. slice_index_or (xs ++ t ∷ []) i d) first)))
    ]

-- what a step that keeps its target leaves
pub record Keeps (sim : DriveSim) (out : DriveOut) (next : DriveSim) : Type 0 where
  pub lag : next.lag ≡ sim.lag
  pub kept : next.kept ≡ keep_last sim.lag (sim.kept ++ out.target ∷ [])
  pub actual : next.actual ≡ followed sim.lag sim.kept out.target sim.actual

step-keeps : (sim : DriveSim) (out : DriveOut) → keeps_target sim out ≡ true → Keeps sim out (drive_stepped sim out)
unfolding drive_stepped kept_after actual_after
step-keeps sim out keeps = record { lag = refl; kept = rw keeps refl; actual = rw keeps refl }

-- it leaves at most as many as the lag
kept-few : (sim : DriveSim) (out : DriveOut) (next : DriveSim) → Keeps sim out next → length next.kept ≤ next.lag
kept-few sim out next k =
    let n : length next.kept ≡ length (keep_last sim.lag (sim.kept ++ out.target ∷ [])) = ap length k.kept in
    let d = length-drop (length (sim.kept ++ out.target ∷ []) - sim.lag) (sim.kept ++ out.target ∷ []) in
    let lag = k.lag in
    omega (arith, n, d, lag)

-- over steps that keep their targets the actual count is the target that lies the lag before the
-- last
follows : (sim : DriveSim) (outs : List DriveOut) → KeepsAll sim outs → length sim.kept ≤ sim.lag →
    (drive_after sim outs).actual ≡ lagging sim.lag (sim.kept ++ map (λ (o : DriveOut). o.target) outs) sim.actual
follows sim [] keeps few =
    sym (lagging-none sim.lag sim.kept sim.actual few) ∙ ap (λ xs. lagging sim.lag xs sim.actual) (sym (append-nil sim.kept))
follows sim (out ∷ outs) keeps few =
    let next : DriveSim = drive_stepped sim out in
    let ts : List ℤ = map (λ (o : DriveOut). o.target) outs in
    let xs : List ℤ = sim.kept ++ out.target ∷ [] in
    let k : Keeps sim out next = step-keeps sim out keeps.0 in
    let n : length xs ≡ length sim.kept + 1 = length-append sim.kept (out.target ∷ []) in
    let rest : (drive_after next outs).actual ≡ lagging next.lag (next.kept ++ ts) next.actual = follows next outs keeps.1 (kept-few sim out next k) in
    let lag : lagging next.lag (next.kept ++ ts) next.actual ≡ lagging sim.lag (next.kept ++ ts) next.actual = ap (λ l. lagging l (next.kept ++ ts) next.actual) k.lag in
    let kept : lagging sim.lag (next.kept ++ ts) next.actual ≡ lagging sim.lag (keep_last sim.lag xs ++ ts) next.actual =
    ap (λ ys. lagging sim.lag (ys ++ ts) next.actual) k.kept in
    let count : next.actual ≡ lagging sim.lag xs sim.actual = k.actual ∙ followed-lagging sim.lag sim.kept out.target sim.actual few in
    let joined : xs ++ ts ≡ sim.kept ++ out.target ∷ ts = append_assoc sim.kept (out.target ∷ []) ts in
    rest ∙ lag ∙ kept ∙ ap (lagging sim.lag (keep_last sim.lag xs ++ ts)) count
    ∙ window sim.lag xs ts sim.actual (omega (arith, n)) ∙ ap (λ ys. lagging sim.lag ys sim.actual) joined

-- from a drive that has kept no target yet
pub lags : (sim : DriveSim) (outs : List DriveOut) → sim.kept ≡ [] → KeepsAll sim outs →
    (drive_after sim outs).actual ≡ lagging sim.lag (map (λ (o : DriveOut). o.target) outs) sim.actual
lags sim outs none keeps =
    let few : length sim.kept ≤ sim.lag = let n : length sim.kept ≡ 0 = ap length none in omega (arith, n) in
    follows sim outs keeps few ∙ ap (λ xs. lagging sim.lag (xs ++ map (λ (o : DriveOut). o.target) outs) sim.actual) none

-- a step that doesn't keep its target forgets those kept
pub forgets : (sim : DriveSim) (out : DriveOut) → keeps_target sim out ≡ false → (drive_stepped sim out).kept ≡ []
unfolding drive_stepped kept_after
forgets sim out other = rw other refl

-- and leaves the actual count
pub stays : (sim : DriveSim) (out : DriveOut) → keeps_target sim out ≡ false → (drive_stepped sim out).actual ≡ sim.actual
unfolding drive_stepped actual_after
stays sim out other = rw other refl
