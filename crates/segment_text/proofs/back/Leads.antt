-- Records of a header that are read one after the other.
-- for: headers_are_read_back
use Rattle.std.specs.Prelude.{◌≡◌, refl, ℕ, suc, zero, ◌+◌, ◌-◌, ◌≤◌, ◌<◌, ◌^◌, Some, Result, Ok, Err, List, [], ◌∷◌, ◌++◌, codes, length, map, slice_get, slice_index_or, slice_set}
use Rattle.std.specs.List.{AllByRecursion, AllZip}
use Rattle.std.proofs.Common.{◌∙◌, ap, append_assoc, arith, subst, sym}
use Rattle.std.proofs.lemmas.Bool.{le-leb, ne_eqb}
use Rattle.std.proofs.lemmas.List.{append-nil, length-append, map-append}
use Rattle.command_pool.specs.declared.wanted.Wanted.{Wanted}
use Rattle.line_text.specs.Reading.{◌>>=◌, at_line}
use Rattle.line_text.specs.declared.reader.LineRefused.{LineRefused}
use Rattle.motion_history.specs.Setup.{Setup}
use Rattle.motion_kernel.specs.Machine.{Machine}
use Rattle.line_text.specs.Texts.{says}
use Rattle.segment_text.specs.Held.{AreWaiting, IsWanted}
use Rattle.segment_text.specs.TraceSegment.{object_records}
use Rattle.segment_text.specs.WantedFields.{waiting_fields, wanted_fields}
use Rattle.segment_text.specs.reading.Lines.{fields_in, lines_meaning, objects_in, record_meaning, waiting_meaning}
use Rattle.segment_text.proofs.back.Commands.{wanted-back}
use Rattle.segment_text.proofs.back.Lines.{fields-back, unended}
use Rattle.segment_text.proofs.back.Shorts.{waiting-short}
use Rattle.segment_text.proofs.back.Plain.{waiting-plain}

-- lines of records lead from one machine to another
pub record Leads (s : Setup) (rs : List (List (List ℕ))) (m n : Machine) : Type 0 where
  pub reads : (k : ℕ) → lines_meaning s k m (map unended rs) ≡ Ok n

pub leads-none : (s : Setup) (m : Machine) → Leads s [] m m
leads-none s m = record { reads = λ k. refl }

-- a record, and those after it
pub leads-more : (s : Setup) (r : List (List ℕ)) (rs : List (List (List ℕ))) (m n o : Machine) → fields_in (unended r) ≡ r → record_meaning s m r ≡ Ok n → Leads s rs n o → Leads s (r ∷ rs) m o
leads-more s r rs m n o f e more = record { reads = λ k. rw (f, e) (more.reads (k + 1)) }

bind-step : (m : Result Machine ℕ) (k : ℕ) (f g : Machine → Result Machine LineRefused) (t u : Machine) → ((v : Machine) → f v ≡ Ok t → g v ≡ Ok u) →
    (at_line k m >>= f) ≡ Ok t → (at_line k m >>= g) ≡ Ok u
bind-step (Ok v) k f g t u h e = h v e
bind-step (Err rule) k f g t u h e = absurd (cc e)

then-from : (s : Setup) (k : ℕ) (a b : List (List ℕ)) (m n o : Machine) → lines_meaning s k m a ≡ Ok n → ((j : ℕ) → lines_meaning s j n b ≡ Ok o) →
    lines_meaning s k m (a ++ b) ≡ Ok o
then-from s k [] b m n o p q = let same : m ≡ n = cc p in rw same (q k)
then-from s k (line ∷ a) b m n o p q =
    bind-step (record_meaning s m (fields_in line)) (k + 1) (λ v. lines_meaning s (k + 1) v a) (λ v. lines_meaning s (k + 1) v (a ++ b)) n o
    (λ v e. then-from s (k + 1) a b v n o e q) p

-- records, and others after them
pub leads-then : (s : Setup) (a b : List (List (List ℕ))) (m n o : Machine) → Leads s a m n → Leads s b n o → Leads s (a ++ b) m o
leads-then s a b m n o p q = record {
  reads = λ k. rw (map-append unended a b) (then-from s k (map unended a) (map unended b) m n o (p.reads k) q.reads);
}

-- ---- a list among others

pub get-at : {X : Type 0} (before : List X) (x : X) (behind : List X) (i : ℕ) (d : X) → i ≡ length before → slice_index_or (before ++ x ∷ behind) i d ≡ x
get-at [] x behind zero d e = refl
get-at [] x behind (suc i) d e = absurd (omega arith)
get-at (y ∷ ys) x behind zero d e = absurd (omega arith)
get-at (y ∷ ys) x behind (suc i) d e = get-at ys x behind i d (omega arith)

pub set-at : {X : Type 0} (before : List X) (x y : X) (behind : List X) (i : ℕ) → i ≡ length before → slice_set (before ++ x ∷ behind) i y ≡ before ++ y ∷ behind
set-at [] x y behind zero e = refl
set-at [] x y behind (suc i) e = absurd (omega arith)
set-at (z ∷ zs) x y behind zero e = absurd (omega arith)
set-at (z ∷ zs) x y behind (suc i) e = ap (λ t. z ∷ t) (set-at zs x y behind i (omega arith))

pub length-at : {X : Type 0} (before : List X) (x : X) (behind : List X) → length before + 1 ≤ length (before ++ x ∷ behind)
length-at [] x behind = omega arith
length-at (y ∷ ys) x behind = let more = length-at ys x behind in omega (arith, more)

-- a machine whose last axis or group has these commands so far, the lists after it being these
pub record Stands (m : Machine) (before : List (List Wanted)) (queue : List Wanted) (behind : List (List Wanted)) : Type 0 where
  pub queues : m.queues ≡ before ++ queue ∷ behind
  pub objects : objects_in m ≡ length before + 1
  pub instances : m.instances ≡ []

-- one more command waits
waiting-step : (s : Setup) (m : Machine) (before : List (List Wanted)) (queue : List Wanted) (behind : List (List Wanted)) (w : Wanted) →
    Stands m before queue behind → IsWanted w → length queue < 8 →
    record_meaning s m (waiting_fields w) ≡ Ok (record m { queues = before ++ (queue ++ w ∷ []) ∷ behind })
unfolding record_meaning waiting_meaning says
waiting-step s m before queue behind w is wanted few =
    let i : ℕ = length before + 1 - 1 in
    let here : i ≡ length before = omega arith in
    rw (
      is.objects,
      is.queues,
      is.instances,
      le-leb 1 (length before + 1) (omega arith),
      le-leb (length before + 1) (length (before ++ queue ∷ behind)) (length-at before queue behind),
      wanted-back w wanted,
      get-at before queue behind i [] here,
      ne_eqb (length queue) 8 (λ e. omega (arith, e, few)),
      set-at before queue (queue ++ w ∷ []) behind i here,
    ) refl

stands-on : (m : Machine) (before : List (List Wanted)) (queue more : List Wanted) (behind : List (List Wanted)) → Stands m before queue behind →
    Stands (record m { queues = before ++ more ∷ behind }) before more behind
stands-on m before queue more behind is = record { queues = refl; objects = is.objects; instances = is.instances }

-- commands wait, one after another
pub waits-lead : (s : Setup) (ws : List Wanted) (m : Machine) (before : List (List Wanted)) (queue : List Wanted) (behind : List (List Wanted)) →
    Stands m before queue behind → AllByRecursion IsWanted ws → length queue + length ws ≤ 8 →
    Leads s (map waiting_fields ws) m (record m { queues = before ++ (queue ++ ws) ∷ behind })
waits-lead s [] m before queue behind is all few = rw (append-nil queue, ← is.queues) (leads-none s m)
waits-lead s (w ∷ ws) m before queue behind is all few =
    let n : Machine = record m { queues = before ++ (queue ++ w ∷ []) ∷ behind } in
    let more = waits-lead s ws n before (queue ++ w ∷ []) behind (stands-on m before queue (queue ++ w ∷ []) behind is) all.1 (longer queue w (length ws) few) in
    let o : Machine = record m { queues = before ++ ((queue ++ w ∷ []) ++ ws) ∷ behind } in
    rw (← append_assoc queue (w ∷ []) ws)
    (leads-more s (waiting_fields w) (map waiting_fields ws) m n o (fields-back (codes "waiting") (wanted_fields w) (waiting-plain w all.0) (waiting-short w all.0)) (waiting-step s m before queue behind w is all.0 (omega (arith, few))) more)
  where
    longer : (queue : List Wanted) (w : Wanted) (k : ℕ) → length queue + suc k ≤ 8 → length (queue ++ w ∷ []) + k ≤ 8
    longer queue w k l = let n = length-append queue (w ∷ []) in omega (arith, n, l)

-- ---- axes or groups, each with the commands that wait for it

-- this many lists from a number on
abbrev pub lists_from : (ℕ → List Wanted) → ℕ → ℕ → List (List Wanted)
lists_from queue n zero = []
lists_from queue n (suc k) = queue n ∷ lists_from queue (suc n) k

-- an empty list for each of these, and others after them
abbrev pub empties : {X : Type 0} → List X → List (List Wanted) → List (List Wanted)
empties [] rest = rest
empties (x ∷ xs) rest = [] ∷ empties xs rest

-- how machines are read that have this many axes or groups, and these lists
pub record ReadsObjects {D X : Type 0} (s : Setup) (defs : List D) (fields : ℕ → X → List (List ℕ)) (held : D → X → Type 0)
    (put : List X → List (List Wanted) → Machine) (first : ℕ) : Type 0 where
  pub same : (done : List X) (l k : List (List Wanted)) → record (put done l) { queues = k } ≡ put done k
  pub line : (d : D) (n : ℕ) (x : X) → n < 2 ^ 64 → held d x → fields_in (unended (fields n x)) ≡ fields n x
  pub step : (d : D) (done : List X) (x : X) (lists : List (List Wanted)) → slice_get defs (length done) ≡ Some d → held d x →
      record_meaning s (put done lists) (fields (length done) x) ≡ Ok (put (done ++ x ∷ []) lists)
  pub stands : (done : List X) (x : X) (before : List (List Wanted)) (queue : List Wanted) (behind : List (List Wanted)) → length before ≡ first + length done →
      Stands (put (done ++ x ∷ []) (before ++ queue ∷ behind)) before queue behind

pub get-there : {X : Type 0} (before : List X) (x : X) (behind : List X) (i : ℕ) → i ≡ length before → slice_get (before ++ x ∷ behind) i ≡ Some x
get-there [] x behind zero e = refl
get-there [] x behind (suc i) e = absurd (omega arith)
get-there (y ∷ ys) x behind zero e = absurd (omega arith)
get-there (y ∷ ys) x behind (suc i) e = get-there ys x behind i (omega arith)

pub length-push : {X : Type 0} (xs : List X) (x : X) → length (xs ++ x ∷ []) ≡ suc (length xs)
length-push [] x = refl
length-push (y ∷ ys) x = ap suc (length-push ys x)

pub objects-lead : {D X : Type 0} (s : Setup) (all : List D) (fields : ℕ → X → List (List ℕ)) (held : D → X → Type 0) (put : List X → List (List Wanted) → Machine) (first : ℕ)
    (queue : ℕ → List Wanted) → ReadsObjects s all fields held put first → ((n : ℕ) → AreWaiting (queue n)) → length all < 2 ^ 63 →
    (past defs : List D) (done xs : List X) (before rest : List (List Wanted)) → all ≡ past ++ defs → length past ≡ length done → length before ≡ first + length done → AllZip held defs xs →
    Leads s (object_records fields queue (length done) xs) (put done (before ++ empties xs rest))
    (put (done ++ xs) (before ++ (lists_from queue (length done) (length xs) ++ rest)))
objects-lead s all fields held put first queue is waits few past [] done [] before rest e l b h =
    rw (append-nil done) (leads-none s (put done (before ++ rest)))
objects-lead s all fields held put first queue is waits few past (d ∷ defs) done (x ∷ xs) before rest e l b h =
    let n : ℕ = length done in
    let behind : List (List Wanted) = empties xs rest in
    let there : slice_get all n ≡ Some d = rw e (get-there past d defs n (sym l)) in
    let small : n < 2 ^ 64 = let k = length-at past d defs in let k' : length past + 1 ≤ length all = rw e k in omega (arith, few, l, k') in
    let a : Machine = put done (before ++ [] ∷ behind) in
    let b1 : Machine = put (done ++ x ∷ []) (before ++ [] ∷ behind) in
    let c : Machine = put (done ++ x ∷ []) (before ++ queue n ∷ behind) in
    let w = waits n in
    let waited : Leads s (map waiting_fields (queue n)) b1 c =
    subst (Leads s (map waiting_fields (queue n)) b1) (is.same (done ++ x ∷ []) (before ++ [] ∷ behind) (before ++ queue n ∷ behind))
    (waits-lead s (queue n) b1 before [] behind (is.stands done x before [] behind b) w.each (let f = w.few in omega (arith, f))) in
    let more = objects-lead s all fields held put first queue is waits few (past ++ d ∷ []) defs (done ++ x ∷ []) xs (before ++ queue n ∷ []) rest
    (e ∙ sym (append_assoc past (d ∷ []) defs))
    (length-push past d ∙ ap suc l ∙ sym (length-push done x))
    (length-push before (queue n) ∙ (let p = length-push done x in omega (arith, p, b)))
    h.1 in
    let here : length (done ++ x ∷ []) ≡ suc n = length-push done x in
    let more' = rw (here, append_assoc before (queue n ∷ []) behind, append_assoc done (x ∷ []) xs, append_assoc before (queue n ∷ []) (lists_from queue (suc n) (length xs) ++ rest)) at more in
    leads-more s (fields n x) _ a b1 _ (is.line d n x small h.0) (is.step d done x (before ++ [] ∷ behind) there h.0) (leads-then s (map waiting_fields (queue n)) _ b1 c _ waited more')
objects-lead s all fields held put first queue is waits few past [] done (x ∷ xs) before rest e l b h = absurd h
objects-lead s all fields held put first queue is waits few past (d ∷ defs) done [] before rest e l b h = absurd h
