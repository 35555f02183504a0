-- The header of a trace segment as a whole is read as what was written.
-- for: headers_are_read_back
use Rattle.std.specs.Prelude.{◌≡◌, refl, ℕ, zero, suc, ◌+◌, ◌<◌, ◌^◌, true, Ok, Result, List, [], ◌∷◌, ◌++◌, codes, decimal, length, map, replicate}
use Rattle.std.specs.List.{AllByRecursion, AllZip}
use Rattle.std.proofs.Common.{◌∙◌, ap, arith, subst, sym}
use Rattle.std.proofs.lemmas.List.{append-nil}
use Rattle.std.proofs.lemmas.Bool.{eq-eqb}
use Rattle.std.proofs.lemmas.Slice.Zip.{AllZip-long}
use Rattle.command_pool.specs.Waiting.{queue_of}
use Rattle.command_pool.specs.declared.wanted.Wanted.{Wanted}
use Rattle.fb_outputs.specs.InstanceState.{InstanceState}
use Rattle.line_text.specs.Lines.{lines_of}
use Rattle.line_text.specs.Texts.{says}
use Rattle.motion_history.proofs.DistinctLemmas.{each-append}
use Rattle.motion_history.specs.Setup.{Setup}
use Rattle.motion_history.specs.declared.config.BlockDef.{BlockDef}
use Rattle.motion_kernel.specs.Segments.{IsEarly}
use Rattle.motion_kernel.specs.Machine.{Machine}
use Rattle.motion_kernel.specs.declared.segment.Before.{Before}
use Rattle.segment_text.specs.Held.{AreWaiting, IsAxisOf, IsGroupOf, IsHeld, IsInstanceOf, IsMachineOf, IsWanted}
use Rattle.segment_text.specs.TraceSegment.{axis_records, group_queue, group_records, header_text, instance_records, lines_text, object_records}
use Rattle.segment_text.specs.Records.{axis_fields, group_fields, instance_fields, trace_segment_fields}
use Rattle.segment_text.specs.WantedFields.{waiting_fields}
use Rattle.segment_text.specs.reading.Befores.{before_of, counts_of}
use Rattle.segment_text.specs.reading.Lines.{is_whole, unread}
use Rattle.segment_text.specs.reading.Reading.{before_meaning, segment_header_meaning, header_of, machine_meaning}
use Rattle.segment_text.proofs.HeaderLaws.{lines-joined, one-line}
use Rattle.segment_text.proofs.back.Columns.{count-back}
use Rattle.segment_text.proofs.back.Heads.{axes_at, groups_at, instances-lead, instances_at, reads-axes, reads-groups}
use Rattle.segment_text.proofs.back.Leads.{Leads, empties, leads-then, lists_from, objects-lead}
use Rattle.segment_text.proofs.back.Lines.{fields-back, lines-back, unended}
use Rattle.segment_text.proofs.back.Shorts.{trace_segment-short}
use Rattle.segment_text.proofs.back.Plain.{ArePlain, axis-plain, group-plain, instance-plain, trace_segment-plain, waiting-plain}
use Rattle.trace_text.specs.Trace.{numbered}

-- ---- all lines are plain

waits-plain : (ws : List Wanted) → AllByRecursion IsWanted ws → AllByRecursion ArePlain (map waiting_fields ws)
waits-plain [] all = tt
waits-plain (w ∷ ws) all = (waiting-plain w all.0, waits-plain ws all.1)

objects-plain : {D X : Type 0} (fields : ℕ → X → List (List ℕ)) (held : D → X → Type 0) (queue : ℕ → List Wanted) →
    ((d : D) (n : ℕ) (x : X) → n < 2 ^ 64 → held d x → ArePlain (fields n x)) → ((n : ℕ) → AreWaiting (queue n)) →
    (defs : List D) (xs : List X) (n : ℕ) → AllZip held defs xs → n + length xs < 2 ^ 64 → AllByRecursion ArePlain (object_records fields queue n xs)
objects-plain fields held queue each waits [] [] n h l = tt
objects-plain fields held queue each waits (d ∷ defs) (x ∷ xs) n h l =
    let w = waits n in (
      each d n x (omega arith) h.0,
      each-append ArePlain (map waiting_fields (queue n)) (object_records fields queue (suc n) xs) (waits-plain (queue n) w.each)
          (objects-plain fields held queue each waits defs xs (suc n) h.1 (omega (arith, l))),
    )
objects-plain fields held queue each waits [] (x ∷ xs) n h l = absurd h
objects-plain fields held queue each waits (d ∷ defs) [] n h l = absurd h

instances-plain : (defs : List BlockDef) (is : List InstanceState) (n : ℕ) → AllZip IsInstanceOf defs is → n + length is < 2 ^ 64 → AllByRecursion ArePlain (numbered instance_fields n is)
instances-plain [] [] n h l = tt
instances-plain (d ∷ defs) (i ∷ is) n h l = (instance-plain d n i (omega arith) h.0, instances-plain defs is (suc n) h.1 (omega (arith, l)))
instances-plain [] (i ∷ is) n h l = absurd h
instances-plain (d ∷ defs) [] n h l = absurd h

-- ---- the lists of a pool

no-waiting : AreWaiting []
no-waiting = record { few = omega arith; each = tt }

pub queues-waiting : (lists : List (List Wanted)) → AllByRecursion AreWaiting lists → (n : ℕ) → AreWaiting (queue_of lists n)
queues-waiting [] all zero = no-waiting
queues-waiting [] all (suc n) = no-waiting
queues-waiting (q ∷ qs) all zero = all.0
queues-waiting (q ∷ qs) all (suc n) = queues-waiting qs all.1 n

zero-right : (n : ℕ) → n + 0 ≡ n
zero-right n = omega arith

one-on : (n i : ℕ) → n + suc i ≡ suc n + i
one-on n i = omega arith

lists-shifted : (f g : ℕ → List Wanted) (n m k : ℕ) → ((i : ℕ) → f (n + i) ≡ g (m + i)) → lists_from f n k ≡ lists_from g m k
lists-shifted f g n m zero h = refl
lists-shifted f g n m (suc k) h =
    let first : f n ≡ g m = subst (λ a. f a ≡ g m) (zero-right n) (subst (λ b. f (n + 0) ≡ g b) (zero-right m) (h 0)) in
    let more = lists-shifted f g (suc n) (suc m) k (λ i. subst (λ a. f a ≡ g (suc m + i)) (one-on n i) (subst (λ b. f (n + suc i) ≡ g b) (one-on m i) (h (suc i)))) in
    rw (first, more) refl

queue-behind : (q : List Wanted) (qs : List (List Wanted)) (i k l : ℕ) → k ≡ suc i → l ≡ i → queue_of (q ∷ qs) k ≡ queue_of qs l
queue-behind q qs i k l e f = rw (e, f) refl

lists-all : (lists : List (List Wanted)) → lists_from (queue_of lists) 0 (length lists) ≡ lists
lists-all [] = refl
lists-all (q ∷ qs) =
    ap (λ t. q ∷ t) (lists-shifted (queue_of (q ∷ qs)) (queue_of qs) 1 0 (length qs) (λ i. queue-behind q qs i (1 + i) (0 + i) (omega arith) (omega arith)) ∙ lists-all qs)

empties-one : {X : Type 0} (xs : List X) (k : ℕ) → k ≡ length xs → replicate k [] ≡ empties xs []
empties-one [] zero e = refl
empties-one [] (suc k) e = absurd (omega arith)
empties-one (x ∷ xs) zero e = absurd (omega arith)
empties-one (x ∷ xs) (suc k) e = ap (λ t. [] ∷ t) (empties-one xs k (omega arith))

empties-all : {X Y : Type 0} (xs : List X) (ys : List Y) (k : ℕ) → k ≡ length xs + length ys → replicate k [] ≡ empties xs (empties ys [])
empties-all [] ys k e = empties-one ys k (omega arith)
empties-all (x ∷ xs) ys zero e = absurd (omega arith)
empties-all (x ∷ xs) ys (suc k) e = ap (λ t. [] ∷ t) (empties-all xs ys k (omega arith))

lists-length : (f : ℕ → List Wanted) (n k : ℕ) → length (lists_from f n k) ≡ k
lists-length f n zero = refl
lists-length f n (suc k) = ap suc (lists-length f (suc n) k)

lists-joined : (f : ℕ → List Wanted) (n j k : ℕ) → lists_from f n (j + k) ≡ lists_from f n j ++ lists_from f (n + j) k
lists-joined f n zero k =
    let e : zero + k ≡ k = omega arith in
    let g : n + zero ≡ n = omega arith in
    rw (e, g) refl
lists-joined f n (suc j) k =
    let e : suc j + k ≡ suc (j + k) = omega arith in
    let g : n + suc j ≡ suc n + j = omega arith in
    rw (e, g) (ap (λ t. f n ∷ t) (lists-joined f (suc n) j k))

joined-at-zero : (f : ℕ → List Wanted) (j k : ℕ) → lists_from f 0 (j + k) ≡ lists_from f 0 j ++ lists_from f j k
joined-at-zero f j k = let e : 0 + j ≡ j = omega arith in subst (λ n. lists_from f 0 (j + k) ≡ lists_from f 0 j ++ lists_from f n k) e (lists-joined f 0 j k)

shifted : (m : Machine) (i k : ℕ) → k ≡ i → group_queue m k ≡ queue_of m.queues (length m.axes + i)
shifted m i k e = rw e refl

-- the machine of a configuration is read from its records
machine-leads : (s : Setup) (m : Machine) → IsMachineOf s m →
    Leads s (axis_records m ++ (group_records m ++ instance_records m)) (unread s) m
unfolding axis_records group_records instance_records unread
machine-leads s m is =
    let sizes = is.sized.setup.within.sizes in
    let fa = sizes.axes in
    let fg = sizes.groups in
    let fb = sizes.blocks in
    let na = is.sized.axes in
    let ng = is.sized.groups in
    let nq = is.sized.queues in
    let a : ℕ = length m.axes in
    let g : ℕ = length m.groups in
    let waits : (n : ℕ) → AreWaiting (queue_of m.queues n) = queues-waiting m.queues is.queues in
    let aq : List (List Wanted) = lists_from (queue_of m.queues) 0 a in
    let gq : List (List Wanted) = lists_from (group_queue m) 0 g in
    let empty : List (List Wanted) = empties m.groups [] in
    let one = objects-lead s s.axes axis_fields IsAxisOf axes_at 0 (queue_of m.queues) (reads-axes s) waits (omega (arith, fa)) [] s.axes [] m.axes [] empty refl refl refl is.axes in
    let two = objects-lead s s.groups group_fields IsGroupOf (groups_at m.axes) a (group_queue m) (reads-groups s m.axes) (λ n. waits (a + n)) (omega (arith, fg)) [] s.groups [] m.groups aq [] refl refl (lists-length (queue_of m.queues) 0 a ∙ sym (zero-right a)) is.groups in
    let three : Leads s (instance_records m) (instances_at m []) m = instances-lead s m (omega (arith, fb)) [] s.blocks [] m.instances refl refl is.instances in
    let size : length m.queues ≡ a + g = omega (arith, na, ng, nq) in
    let whole : aq ++ (gq ++ []) ≡ m.queues =
    ap (λ t. aq ++ t) (append-nil gq ∙ lists-shifted (group_queue m) (queue_of m.queues) 0 a g (λ i. shifted m i (0 + i) (omega arith))) ∙ sym (joined-at-zero (queue_of m.queues) a g)
    ∙ ap (λ k. lists_from (queue_of m.queues) 0 k) (sym size) ∙ lists-all m.queues in
    let room : replicate (length s.axes + length s.groups) [] ≡ empties m.axes empty = empties-all m.axes m.groups (length s.axes + length s.groups) (omega (arith, na, ng)) in
    let start : unread s ≡ axes_at [] (empties m.axes empty) = ap (λ l. axes_at [] l) room in
    let first : Leads s (axis_records m) (unread s) (axes_at m.axes (aq ++ empty)) = rw start one in
    let second : Leads s (group_records m) (axes_at m.axes (aq ++ empty)) (instances_at m []) = subst (λ l. Leads s (group_records m) (axes_at m.axes (aq ++ empty)) (groups_at m.axes m.groups l)) whole two in
    leads-then s (axis_records m) (group_records m ++ instance_records m) (unread s) (axes_at m.axes (aq ++ empty)) m first
    (leads-then s (group_records m) (instance_records m) (axes_at m.axes (aq ++ empty)) (instances_at m []) m second three)

-- ---- the whole header

before-back : (b : Before) → IsEarly b → before_meaning (unended (trace_segment_fields b)) ≡ Ok b
unfolding before_meaning before_of counts_of says
before-back b is =
    rw (
      fields-back (codes "segment") (codes "1" ∷ decimal b.segments ∷ decimal b.entries ∷ decimal b.cycles ∷ []) (trace_segment-plain b is) (trace_segment-short b),
      count-back b.segments is.segments,
      count-back b.entries is.entries,
      count-back b.cycles is.cycles,
    ) refl

whole-back : (s : Setup) (m : Machine) → IsMachineOf s m → is_whole s m ≡ true
unfolding is_whole
whole-back s m is =
    let n = AllZip-long IsInstanceOf s.blocks m.instances is.instances in
    rw (
      eq-eqb (length m.axes) (length s.axes) is.sized.axes,
      eq-eqb (length m.groups) (length s.groups) is.sized.groups,
      eq-eqb (length m.instances) (length s.blocks) n,
    ) refl

unfoldable pub records : Before → Machine → List (List (List ℕ))
records b m = trace_segment_fields b ∷ (axis_records m ++ (group_records m ++ instance_records m))

pub header-lines : (b : Before) (m : Machine) → header_text b m ≡ lines_text (records b m)
unfolding header_text records
header-lines b m =
    let rest : lines_text (axis_records m ++ (group_records m ++ instance_records m)) ≡ lines_text (axis_records m) ++ (lines_text (group_records m) ++ lines_text (instance_records m)) =
    lines-joined (axis_records m) (group_records m ++ instance_records m) ∙ ap (λ t. lines_text (axis_records m) ++ t) (lines-joined (group_records m) (instance_records m)) in
    rw (lines-joined (trace_segment_fields b ∷ []) (axis_records m ++ (group_records m ++ instance_records m)), rest, ← one-line (trace_segment_fields b)) refl

records-plain : (s : Setup) (b : Before) (m : Machine) → IsHeld s b m → AllByRecursion ArePlain (records b m)
unfolding records axis_records group_records instance_records
records-plain s b m is =
    let of = is.machine in
    let sizes = of.sized.setup.within.sizes in
    let fa = sizes.axes in
    let fg = sizes.groups in
    let fb = sizes.blocks in
    let na = of.sized.axes in
    let ng = of.sized.groups in
    let ni = AllZip-long IsInstanceOf s.blocks m.instances of.instances in
    let waits : (n : ℕ) → AreWaiting (queue_of m.queues n) = queues-waiting m.queues of.queues in (
      trace_segment-plain b is.before,
      each-append ArePlain (object_records axis_fields (queue_of m.queues) 0 m.axes) _ (objects-plain axis_fields IsAxisOf (queue_of m.queues) axis-plain waits s.axes m.axes 0 of.axes (omega (arith, fa, na)))
          (each-append ArePlain (object_records group_fields (group_queue m) 0 m.groups) _ (objects-plain group_fields IsGroupOf (group_queue m) group-plain (λ n. waits (length m.axes + n)) s.groups m.groups 0 of.groups (omega (arith, fg, ng)))
          (instances-plain s.blocks m.instances 0 of.instances (omega (arith, fb, ni)))),
    )

pub header-back : (s : Setup) (b : Before) (m : Machine) → IsHeld s b m → header_of s (header_text b m) ≡ Ok (b, m)
unfolding header_of segment_header_meaning machine_meaning records
header-back s b m is =
    let lines : lines_of (header_text b m) ≡ map unended (records b m) = rw (header-lines b m) (lines-back (records b m) (records-plain s b m is)) in
    rw (lines, before-back b is.before, (machine-leads s m is.machine).reads 1, whole-back s m is.machine) refl

ok-pair : {A B E : Type 0} (a c : A) (b d : B) (r t : Result (A × B) E) → r ≡ Ok (a, b) → t ≡ Ok (c, d) → r ≡ t → (a ≡ c) × (b ≡ d)
ok-pair {A} {B} {E} a c b d r t p q e =
    let same : ◌≡◌ {A = Result (A × B) E} (Ok (a, b)) (Ok (c, d)) = sym p ∙ e ∙ q in
    let pair : ◌≡◌ {A = A × B} (a, b) (c, d) = cc same in
    (ap (λ x. x.0) pair, ap (λ x. x.1) pair)

pub headers-tell : (s : Setup) (b c : Before) (m n : Machine) → IsHeld s b m → IsHeld s c n → header_text b m ≡ header_text c n → (b ≡ c) × (m ≡ n)
headers-tell s b c m n p q e =
    ok-pair b c m n (header_of s (header_text b m)) (header_of s (header_text c n)) (header-back s b m p) (header-back s c n q) (ap (header_of s) e)
