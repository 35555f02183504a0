-- The marks of tasks at opening and with one entry more.
-- for: call, cycle, end and others
use Rattle.std.specs.Prelude.{◌≡◌, refl, ℕ, suc, zero, ◌+◌, ◌<◌, ◌≤◌, Bool, true, false, not, ◌&&◌, ◌||◌, nat_eq, Option, Some, None, if◌then◌else◌, List, [], ◌∷◌, ◌++◌, length, map, reverse, slice_get, slice_set, take}
use Rattle.std.specs.List.{filter, list_any, take_while}
use Rattle.std.proofs.Common.{arith, ap, sym, ◌∙◌, inl, inr}
use Rattle.std.proofs.lemmas.Bool.{cases_Bool, eqb-false, eqb-true}
use Rattle.std.proofs.lemmas.List.{get_or-set_other, get_or-set_same, length-map, length-set, get_or-map, reverse-append}
use Rattle.std.proofs.lemmas.List.Folds.{list_any-append}
use Rattle.std.proofs.lemmas.List.Filters.{length-filter_more}
use Rattle.std.proofs.lemmas.Option.{slice_get_within}
use Rattle.std.specs.Option.{IsSomeAnd}
use Rattle.std.proofs.lemmas.List.Sums.{take_while-cons}
use Rattle.plc_types.specs.declared.inputs.Inputs.{Inputs}
use Rattle.plc_types.specs.declared.outputs.Outputs.{Outputs}
use Rattle.motion_history.specs.Entries.{Entry, call, end_of}
use Rattle.motion_history.specs.Setup.{Setup, IsSetup}
use Rattle.motion_history.specs.declared.config.BlockDef.{BlockDef}
use Rattle.motion_kernel.proofs.kept.Calls.{object_of}
use Rattle.motion_kernel.proofs.kept.Laws.{ConfigurationsAreSound}
use Rattle.motion_kernel.specs.Marked.{AreMarked, heard, is_live, is_still, mark_at, mark_of, quieted}
use Rattle.motion_kernel.specs.Tasks.{count_below, ends, is_block_of, is_by, is_no_cycle, is_quiet, live_tasks, lives, quiet_tasks, since_cycle}
use Rattle.motion_kernel.specs.declared.tasks.TaskMark.{TaskMark}
use Rattle.motion_kernel.specs.declared.tasks.TaskMark.TheVariants.{Ended, Heard, Quiet}

or_false : (b : Bool) → (b || false) ≡ b
or_false true = refl
or_false false = refl

-- a test of a list with one entry more
any_more : (p : Entry → Bool) (es : List Entry) (e : Entry) → list_any p (es ++ e ∷ []) ≡ (list_any p es || p e)
any_more p es e = list_any-append p es (e ∷ []) ∙ ap (λ b. list_any p es || b) (or_false (p e))

-- one entry more that is no cycle is the latest since the last one
since_more : (es : List Entry) (e : Entry) → is_no_cycle e ≡ true → since_cycle (es ++ e ∷ []) ≡ e ∷ since_cycle es
since_more es e is = ap (take_while is_no_cycle) (reverse-append es (e ∷ [])) ∙ take_while-cons is_no_cycle e (reverse es) ∙ rw is refl

-- none is since a cycle
since_none : (es : List Entry) (e : Entry) → is_no_cycle e ≡ false → since_cycle (es ++ e ∷ []) ≡ []
since_none es e is = ap (take_while is_no_cycle) (reverse-append es (e ∷ [])) ∙ take_while-cons is_no_cycle e (reverse es) ∙ rw is refl

-- the mark of a task that has ended or not, and has made an entry or not
abbrev marked : Bool → Bool → TaskMark
marked ended made = if not ended then (if not ended && not made then Quiet else Heard) else Ended

-- with an entry of the task that isn't its end
mark_heard : (ended made : Bool) → marked ended true ≡ heard (marked ended made)
mark_heard true true = refl
mark_heard true false = refl
mark_heard false true = refl
mark_heard false false = refl

-- with a cycle
mark_quieted : (ended made : Bool) → marked ended false ≡ quieted (marked ended made)
mark_quieted true true = refl
mark_quieted true false = refl
mark_quieted false true = refl
mark_quieted false false = refl

by_call : (a b c : Bool) → marked a (c || b) ≡ (if c then heard (marked a b) else marked a b)
by_call a b true = mark_heard a b
by_call a b false = refl

-- with the call of one of its blocks, or of another's
mark_called : (s : Setup) (es : List Entry) (k : ℕ) (i : Inputs) (reply : Outputs) (t : ℕ) →
    mark_of s (es ++ call k i reply ∷ []) t ≡ (if is_block_of t (slice_get s.blocks k) then heard (mark_of s es t) else mark_of s es t)
mark_called s es k i reply t =
    let e = call k i reply in
    let a = list_any (ends t) es in
    let b = list_any (is_by s t) (since_cycle es) in
    let c = is_block_of t (slice_get s.blocks k) in
    (λ j. marked ((any_more (ends t) es e ∙ or_false a) j) (list_any (is_by s t) (since_more es e refl j)))
    ∙ by_call a b c

by_end : (a b c : Bool) → marked (a || c) (c || b) ≡ (if c then Ended else marked a b)
by_end true b true = refl
by_end false b true = refl
by_end true b false = refl
by_end false b false = refl

-- with the end of it, or of another
mark_ended : (s : Setup) (es : List Entry) (u t : ℕ) → mark_of s (es ++ end_of u ∷ []) t ≡ (if nat_eq u t then Ended else mark_of s es t)
mark_ended s es u t =
    let e = end_of u in
    let a = list_any (ends t) es in
    let b = list_any (is_by s t) (since_cycle es) in
    (λ j. marked (any_more (ends t) es e j) (list_any (is_by s t) (since_more es e refl j))) ∙ by_end a b (nat_eq u t)

-- with a cycle
mark_cycled : (s : Setup) (es : List Entry) (e : Entry) (t : ℕ) → is_no_cycle e ≡ false → ends t e ≡ false → mark_of s (es ++ e ∷ []) t ≡ quieted (mark_of s es t)
mark_cycled s es e t is other =
    let a = list_any (ends t) es in
    let b = list_any (is_by s t) (since_cycle es) in
    (λ j. marked ((any_more (ends t) es e ∙ ap (λ c. a || c) other ∙ or_false a) j) (list_any (is_by s t) (since_none es e is j))) ∙ mark_quieted a b

-- a call is an entry of its block's task
pub marked_called : (s : Setup) (es : List Entry) (marks next : List TaskMark) (k : ℕ) (i : Inputs) (reply : Outputs) (b : BlockDef) →
    AreMarked s es marks → slice_get s.blocks k ≡ Some b → b.task < 8 → next ≡ slice_set marks b.task (heard (mark_at marks b.task)) →
    AreMarked s (es ++ call k i reply ∷ []) next
marked_called s es marks next k i reply b are at few set = rw set (record {
  long = length-set marks _ _ ∙ are.long;
  few = are.few;
  each = λ t l. elim (cases_Bool (nat_eq b.task t)) [
    | inl e ↦ let same : b.task ≡ t = eqb-true b.task t e in
        ap (λ j. mark_at (slice_set marks b.task (heard (mark_at marks b.task))) j) (sym same) ∙ get_or-set_same marks b.task _ Quiet (let n = are.long in omega (arith, n, few))
        ∙ ap (λ j. heard (mark_at marks j)) same ∙ ap heard (are.each t l) ∙ sym (mark_called s es k i reply t ∙ rw (at, e) refl)
    | inr e ↦ get_or-set_other marks b.task t _ Quiet (λ same. eqb-false b.task t e (sym same))
        ∙ are.each t l ∙ sym (mark_called s es k i reply t ∙ rw (at, e) refl)
  ];
})

-- the end of a task is its last mark
pub marked_ended : (s : Setup) (es : List Entry) (marks next : List TaskMark) (u : ℕ) → AreMarked s es marks → u < 8 → next ≡ slice_set marks u Ended →
    AreMarked s (es ++ end_of u ∷ []) next
marked_ended s es marks next u are few set = rw set (record {
  long = length-set marks _ _ ∙ are.long;
  few = are.few;
  each = λ t l. elim (cases_Bool (nat_eq u t)) [
    | inl e ↦ let same : u ≡ t = eqb-true u t e in
        ap (λ j. mark_at (slice_set marks u Ended) j) (sym same) ∙ get_or-set_same marks u Ended Quiet (let n = are.long in omega (arith, n, few))
        ∙ sym (mark_ended s es u t ∙ rw e refl)
    | inr e ↦ get_or-set_other marks u t Ended Quiet (λ same. eqb-false u t e (sym same))
        ∙ are.each t l ∙ sym (mark_ended s es u t ∙ rw e refl)
  ];
})

-- a cycle leaves those that live quiet
pub marked_cycled : (s : Setup) (es : List Entry) (marks next : List TaskMark) (e : Entry) → AreMarked s es marks → is_no_cycle e ≡ false →
    ((t : ℕ) → ends t e ≡ false) → next ≡ map quieted marks → AreMarked s (es ++ e ∷ []) next
marked_cycled s es marks next e are is other made = rw made (record {
  long = length-map marks quieted ∙ are.long;
  few = are.few;
  each = λ t l. get_or-map quieted marks t Quiet Quiet (let n = are.long in let f = are.few in omega (arith, n, f, l)) ∙ ap quieted (are.each t l) ∙ sym (mark_cycled s es e t is (other t));
})

-- the marks of this many tasks that are so, counted
pub counted : (p : TaskMark → Bool) (q : ℕ → Bool) (marks : List TaskMark) (n : ℕ) → n ≤ length marks → ((t : ℕ) → t < n → p (mark_at marks t) ≡ q t) →
    length (filter p (take n marks)) ≡ count_below q n
unfolding count_below
counted p q marks zero l same = refl
counted p q marks (suc n) l same =
    let next : suc n ≡ n + 1 = omega arith in
    ap (λ k. length (filter p (take k marks))) next ∙ length-filter_more p marks n Quiet (omega (arith, l)) ∙ (λ i. counted p q marks n (omega (arith, l)) (λ t k. same t (omega (arith, k))) i + (if same n (omega arith) i then 1 else 0))

live_by : (a b : Bool) → is_live (marked a b) ≡ not a
live_by true b = refl
live_by false true = refl
live_by false false = refl

still_by : (a b : Bool) → is_still (marked a b) ≡ (not a && not b)
still_by true b = refl
still_by false true = refl
still_by false false = refl

-- a task of a mark that lives does, and one of a quiet mark is quiet
pub live_is : (s : Setup) (es : List Entry) (t : ℕ) → is_live (mark_of s es t) ≡ lives es t
live_is s es t = live_by (list_any (ends t) es) (list_any (is_by s t) (since_cycle es))

pub still_is : (s : Setup) (es : List Entry) (t : ℕ) → is_still (mark_of s es t) ≡ is_quiet s es t
still_is s es t = still_by (list_any (ends t) es) (list_any (is_by s t) (since_cycle es))

-- the task of a block of a sound configuration is one of at most eight
fits_by : (s : Setup) (k task : ℕ) (o : Option BlockDef) → slice_get s.blocks k ≡ o → ConfigurationsAreSound → IsSetup s → IsSomeAnd o (λ (b : BlockDef). b.task ≡ task) → task < 8
fits_by s k task None at sound setup same = absurd same
fits_by s k task (Some b) at sound setup same =
    let there = (object_of sound s k b setup (slice_get_within s.blocks k b at) at).task in
    let few = setup.within.sizes.tasks in
    omega (arith, there, same, few)

pub task_fits : (s : Setup) (k task : ℕ) → ConfigurationsAreSound → IsSetup s → IsSomeAnd (slice_get s.blocks k) (λ (b : BlockDef). b.task ≡ task) → task < 8
task_fits s k task sound setup same = fits_by s k task (slice_get s.blocks k) refl sound setup same

-- a call of a block of this task
called_by : (s : Setup) (es : List Entry) (marks next : List TaskMark) (k : ℕ) (i : Inputs) (reply : Outputs) (task : ℕ) (o : Option BlockDef) → slice_get s.blocks k ≡ o →
    AreMarked s es marks → IsSomeAnd o (λ (b : BlockDef). b.task ≡ task) → task < 8 → next ≡ slice_set marks task (heard (mark_at marks task)) →
    AreMarked s (es ++ call k i reply ∷ []) next
called_by s es marks next k i reply task None at are same few set = absurd same
called_by s es marks next k i reply task (Some b) at are same few set =
    marked_called s es marks next k i reply b are at (omega (arith, same, few)) (set ∙ ap (λ j. slice_set marks j (heard (mark_at marks j))) (sym same))

pub marked_by_task : (s : Setup) (es : List Entry) (marks next : List TaskMark) (k : ℕ) (i : Inputs) (reply : Outputs) (task : ℕ) →
    AreMarked s es marks → IsSomeAnd (slice_get s.blocks k) (λ (b : BlockDef). b.task ≡ task) → task < 8 → next ≡ slice_set marks task (heard (mark_at marks task)) →
    AreMarked s (es ++ call k i reply ∷ []) next
marked_by_task s es marks next k i reply task are same few set = called_by s es marks next k i reply task (slice_get s.blocks k) refl are same few set

-- the marks that live, and those that are quiet, counted
pub lives_counted : (s : Setup) (es : List Entry) (marks : List TaskMark) → AreMarked s es marks → length (filter is_live (take (length s.tasks) marks)) ≡ live_tasks s es
lives_counted s es marks are =
    counted is_live (lives es) marks (length s.tasks) (let n = are.long in let f = are.few in omega (arith, n, f)) (λ t l. ap is_live (are.each t l) ∙ live_is s es t)

pub quiet_counted : (s : Setup) (es : List Entry) (marks : List TaskMark) → AreMarked s es marks → length (filter is_still (take (length s.tasks) marks)) ≡ quiet_tasks s es
quiet_counted s es marks are =
    counted is_still (is_quiet s es) marks (length s.tasks) (let n = are.long in let f = are.few in omega (arith, n, f)) (λ t l. ap is_still (are.each t l) ∙ still_is s es t)
