-- Jobs that were joined, one by one.
-- for: run_plant
use Rattle.std.proofs.Common.{◌≡◌, ℕ, zero, suc, ◌+◌, ◌<◌, ◌≤◌, List, [], ◌∷◌, ◌++◌, length, map, Option, Some, None, refl, sym, ap, ◌∙◌, subst, arith, append_assoc, append-nil, length-append, ⊎_elim}
use Rattle.std.specs.Prelude.{replicate, slice_get, slice_set}
use Rattle.std.proofs.lemmas.Bool.{cases_lt as order}
use Rattle.std.specs.declared.snapshot.Snapshot.{Snapshot}
use Rattle.drive_jobs.specs.DriveLinkState.{DriveLinkState}
use Rattle.motion_plant.specs.Jobs.{AreJoined, line_job, seat_job}
use Rattle.motion_plant.specs.declared.plant_job.PlantJob.{PlantJob}
use Rattle.motion_plant.specs.declared.task_job.TaskJob.{TaskJob}
use Rattle.motion_plant.proofs.Lists.{get_before, get_else, length_map, length_set, some_is}

module _ {J : Type 0} where
  get_set : (xs : List (Option J)) (k : ℕ) (y : Option J) → k < length xs →
      slice_get (slice_set xs k y) k ≡ Some y
  get_set [] k y lt = absurd (omega arith)
  get_set (x ∷ xs) zero y lt = refl
  get_set (x ∷ xs) (suc k) y lt = get_set xs k y (omega arith)

  pub joined_none : (xs : List (Option J)) (base : ℕ) → AreJoined xs xs base 0
  joined_none xs base = record {
    before = λ n lt. refl;
    joined = λ n le lt. absurd (omega arith);
    behind = λ n le. refl;
    count = refl;
  }

  -- one job more
  pub joined_one : (old mid new : List (Option J)) (base k : ℕ) → AreJoined old mid base k →
      base + k < length old → new ≡ slice_set mid (base + k) None → AreJoined old new base (k + 1)
  joined_one old mid new base k is lt set =
      let c = is.count in
      let here : slice_get new (base + k) ≡ Some None = ap (λ xs. slice_get xs (base + k)) set ∙
      get_set mid (base + k) None (omega arith) in
      record {
        before = λ n l. ap (λ xs. slice_get xs n) set ∙
            get_else mid (base + k) n None (λ e. omega arith) ∙ is.before n l;
        joined = λ n le l. ⊎_elim
            (λ (a : n < base + k). ap (λ xs. slice_get xs n) set ∙
            get_else mid (base + k) n None (λ e. omega arith) ∙ is.joined n le a)
            (λ (b : base + k ≤ n). let e : base + k ≡ n = omega arith in
            subst (λ i. slice_get new i ≡ Some None) e here)
            (order n (base + k));
        behind = λ n le. ap (λ xs. slice_get xs n) set ∙
            get_else mid (base + k) n None (λ e. omega arith) ∙ is.behind n (omega arith);
        count = ap length set ∙ length_set mid (base + k) None ∙ is.count;
      }

  -- some jobs, and then those after them
  pub joined_both : (old mid new : List (Option J)) (base next k m all : ℕ) →
      AreJoined old mid base k → AreJoined mid new next m → next ≡ base + k → all ≡ k + m →
      AreJoined old new base all
  joined_both old mid new base next k m all a b e f = record {
    before = λ n lt. b.before n (omega arith) ∙ a.before n lt;
    joined = λ n le lt. ⊎_elim
        (λ (l : n < base + k). b.before n (omega arith) ∙ a.joined n le l)
        (λ (g : base + k ≤ n). b.joined n (omega arith) (omega arith))
        (order n (base + k));
    behind = λ n le. b.behind n (omega arith) ∙ a.behind n (omega arith);
    count = b.count ∙ a.count;
  }

  all_none : (xs : List (Option J)) → ((n : ℕ) → n < length xs → slice_get xs n ≡ Some None) →
      xs ≡ replicate (length xs) None
  all_none [] each = refl
  all_none (x ∷ xs) each =
      let e : x ≡ None = some_is x None (each 0 (omega arith)) in
      let r = all_none xs (λ n lt. each (suc n) (omega arith)) in
      λ j. e j ∷ r j

  as_before : (old new : List (Option J)) → length old ≤ length new →
      ((n : ℕ) → n < length old → slice_get new n ≡ slice_get old n) →
      ((n : ℕ) → length old ≤ n → n < length new → slice_get new n ≡ Some None) →
      (k : ℕ) × (new ≡ old ++ replicate k None)
  as_before [] new le same none = (length new, all_none new (λ n lt. none n (omega arith) lt))
  as_before (x ∷ xs) [] le same none = absurd (omega arith)
  as_before (x ∷ xs) (y ∷ ys) le same none =
      let e : y ≡ x = some_is y x (same 0 (omega arith)) in
      let r = as_before xs ys (omega arith) (λ n lt. same (suc n) (omega arith))
      (λ n ge lt. none (suc n) (omega arith) (omega arith)) in
      (r.0, (λ j. e j ∷ r.1 j))

  -- what was started after the first jobs was joined
  pub all_joined : (old mid new more : List (Option J)) (base k : ℕ) → mid ≡ old ++ more →
      base ≡ length old → k ≡ length more → AreJoined mid new base k →
      (k : ℕ) × (new ≡ old ++ replicate k None)
  all_joined old mid new more base k is b l joined =
      let same = ap length is in
      let both = length-append old more in
      let count = joined.count in
      as_before old new (omega arith)
      (λ n lt. joined.before n (omega arith) ∙ ap (λ xs. slice_get xs n) is ∙
      get_before old more n lt)
      (λ n ge lt. joined.joined n (omega arith) (omega arith))

  -- where nothing was started
  pub none_more : (old new : List (Option J)) → new ≡ old →
      (k : ℕ) × (new ≡ old ++ replicate k None)
  none_more old new e = (0, e ∙ sym (append-nil old))

module _ {G : Type 0} where
  -- the drives and the tasks that were started were joined
  pub started_joined : (old mid new : List (Option (PlantJob G))) (lines : List DriveLinkState)
      (seats : List (Snapshot (TaskJob G))) (base : ℕ) →
      mid ≡ (old ++ map line_job lines) ++ map seat_job seats → base ≡ length old →
      AreJoined mid new base (length lines + length seats) →
      (k : ℕ) × (new ≡ old ++ replicate k None)
  started_joined old mid new lines seats base is b joined =
      let x = length-append (map (line_job {G = G}) lines) (map (seat_job {G = G}) seats) in
      let y = length_map (line_job {G = G}) lines in
      let z = length_map (seat_job {G = G}) seats in
      all_joined old mid new (map line_job lines ++ map seat_job seats) base
      (length lines + length seats)
      (is ∙ append_assoc old (map line_job lines) (map seat_job seats)) b (omega arith) joined
