-- The drives of a run are in step with its history.
-- for: events_keep_drives_in_step, runs_are_in_step
use Rattle.std.specs.Prelude.{◌≡◌, refl, ℕ, ◌+◌, ◌⊎◌, Result, Ok, Err, List, [], ◌∷◌, ◌++◌, map}
use Rattle.std.proofs.Common.{◌∙◌, inl, inr, sym, ap, subst}
use Rattle.plc_types.specs.declared.axis.AxisRow.{AxisRow}
use Rattle.bench_text.specs.BenchState.{BenchState}
use Rattle.drive_sim.specs.Sim.{DriveSim}
use Rattle.drive_sim.specs.Steps.{answer_of}
use Rattle.plc_types.specs.declared.group.GroupRow.{GroupRow}
use Rattle.motion_history.specs.Columns.{rows_in}
use Rattle.motion_history.specs.Entries.{Entry, cycle, cycles_of}
use Rattle.motion_history.specs.Setup.{Setup}
use Rattle.motion_kernel.specs.cycles.Cycles as machine
use Rattle.motion_kernel.specs.Histories.{machine_after}
use Rattle.machine_drives.specs.Laws.{FollowOutputs}
use Rattle.bench_run.specs.InStep.{AreInStep, IsInStep, Takes, axis_rows}
use Rattle.machine_drives.specs.Drives.{drives_after, drives_at_opening, drives_stepped}
use Rattle.bench_run.specs.Run.{Event, Run, a_call, a_cycle, an_end, cycled, events_in, first_run, happened, is_cycle, made, made_all, next_of, room_for, run_at_opening, run_of, tried}
use Rattle.bench_run.specs.declared.bench.RunFault.{RunFault}

-- where a list ends: before its last item, or with it
pub record IsBefore (es before : List Entry) (c : Entry) : Type 0 where
  pub more : List Entry
  pub is : es ≡ before ++ c ∷ more

pub record IsLast (es before : List Entry) (e c : Entry) : Type 0 where
  pub list : es ≡ before
  pub item : e ≡ c

-- an item put in front
in_front : (x : Entry) (es before : List Entry) (e c : Entry) →
    IsLast es before e c ⊎ IsBefore es before c →
    IsLast (x ∷ es) (x ∷ before) e c ⊎ IsBefore (x ∷ es) (x ∷ before) c
in_front x es before e c (inl h) = inl (record { list = ap (λ t. x ∷ t) h.list; item = h.item })
in_front x es before e c (inr h) = inr (record { more = h.more; is = ap (λ t. x ∷ t) h.is })

none_behind : (bs : List Entry) (c : Entry) (more : List Entry) → [] ≡ bs ++ c ∷ more → ⊥
none_behind [] c more h = absurd (cc)
none_behind (b ∷ bs) c more h = absurd (cc)

tail_is : (x y : Entry) (xs ys : List Entry) → x ∷ xs ≡ y ∷ ys → xs ≡ ys
tail_is x y xs ys h = cc

head_is : (x y : Entry) (xs ys : List Entry) → x ∷ xs ≡ y ∷ ys → x ≡ y
head_is x y xs ys h = cc

last_or_before : (es : List Entry) (e c : Entry) (before more : List Entry) →
    es ++ e ∷ [] ≡ before ++ c ∷ more →
    IsLast es before e c ⊎ IsBefore es before c
last_or_before [] e c [] more h = inl (record { list = refl; item = head_is e c [] more h })
last_or_before [] e c (b ∷ bs) more h =
    absurd (none_behind bs c more (tail_is e b [] (bs ++ c ∷ more) h))
last_or_before (x ∷ es) e c [] more h =
    inr (record { more = es; is = ap (λ y. y ∷ es) (head_is x c (es ++ e ∷ []) more h) })
last_or_before (x ∷ es) e c (b ∷ bs) more h =
    let same : x ≡ b = head_is x b (es ++ e ∷ []) (bs ++ c ∷ more) h in
    let P : Entry → Type 0 = λ y. IsLast (x ∷ es) (y ∷ bs) e c ⊎ IsBefore (x ∷ es) (y ∷ bs) c in
    subst P same (in_front x es bs e c (last_or_before es e c bs more (tail_is x b (es ++ e ∷ [])
    (bs ++ c ∷ more) h)))

-- an entry more takes the answers too, where it is a cycle
abbrev pub EntryTakes : Setup → List DriveSim → List Entry → Entry → Type 0
EntryTakes s ds es e =
    (n : ℕ) (rows : List AxisRow) (grows : List GroupRow) → e ≡ cycle n rows grows → rows ≡
    axis_rows s ds es

either_takes : (s : Setup) (ds : List DriveSim) (es before : List Entry) (e : Entry) (n : ℕ)
    (rows : List AxisRow) (grows : List GroupRow) →
    Takes s ds es → EntryTakes s ds es e →
    IsLast es before e (cycle n rows grows) ⊎ IsBefore es before (cycle n rows grows) →
    rows ≡ axis_rows s ds before
either_takes s ds es before e n rows grows t one (inl h) =
    one n rows grows h.item ∙ ap (axis_rows s ds) h.list
either_takes s ds es before e n rows grows t one (inr h) = t before h.more n rows grows h.is

takes_more : (s : Setup) (ds : List DriveSim) (es : List Entry) (e : Entry) → Takes s ds es →
    EntryTakes s ds es e → Takes s ds (es ++ e ∷ [])
takes_more s ds es e t one = λ before more n rows grows h.
    either_takes s ds es before e n rows grows t one
    (last_or_before es e (cycle n rows grows) before more h)

-- an entry that is no cycle keeps the drives
other-in-step : FollowOutputs → (s : Setup) (ds : List DriveSim) (r : Run) (e : Entry) →
    ((n : ℕ) → rows_in n (e ∷ []) ≡ []) → EntryTakes s ds r.history e → AreInStep s ds r →
    AreInStep s ds (record r { history = r.history ++ e ∷ [] })
other-in-step law s ds r e none one is = record {
  drives = is.drives ∙ sym (law.same ds r.history e none);
  takes = takes_more s ds r.history e is.takes one;
}

cycle-rows : (m n : ℕ) (xs ys : List AxisRow) (gs hs : List GroupRow) →
    cycle m xs gs ≡ cycle n ys hs → ys ≡ xs
cycle-rows m n xs ys gs hs h = cc

cycle-in-step : FollowOutputs → (s : Setup) (ds : List DriveSim) (r : Run) → AreInStep s ds r →
    AreInStep s ds (cycled s r)
unfolding cycled
cycle-in-step law s ds r is =
    let at : List DriveSim →
    machine.Cycled = λ x. machine.cycled s (machine_after s r.history) (map answer_of x) in
    let out : List AxisRow → List DriveSim = λ x. drives_stepped 0 (drives_after 0 ds r.history)
    (map (λ (row : AxisRow). row.output) x) in
    let rows = (at r.drives).axes in
    record {
      drives = ap (λ x. drives_stepped 0 x (map (λ (row : AxisRow). row.output) rows)) is.drives
          ∙ sym (law.further ds r.history (cycles_of r.history + 1) rows (at r.drives).groups);
      takes = takes_more s ds r.history _ is.takes
          (λ n ys hs h. cycle-rows _ n _ ys _ hs h ∙ ap (λ x. (at x).axes) is.drives);
    }

happened-in-step : FollowOutputs → (s : Setup) (ds : List DriveSim) (e : Event) (r : Run) → AreInStep s ds r →
    AreInStep s ds (happened s e r)
happened-in-step law s ds (a_call k i) r is =
    other-in-step law s ds r _ (λ n. refl) (λ n ys hs h. absurd (cc)) is
happened-in-step law s ds a_cycle r is = cycle-in-step law s ds r is
happened-in-step law s ds (an_end t) r is =
    other-in-step law s ds r _ (λ n. refl) (λ n ys hs h. absurd (cc)) is

tried-in-step : FollowOutputs → (s : Setup) (ds : List DriveSim) (e : Event) (r : Run)
    (w : Result (Unit {0}) RunFault) → AreInStep s ds r → AreInStep s ds (tried s e r w)
tried-in-step law s ds e r (Ok u) is = happened-in-step law s ds e r is
tried-in-step law s ds e r (Err f) is = record { drives = is.drives; takes = is.takes }

next-in-step : FollowOutputs → (s : Setup) (ds : List DriveSim) (e : Event) (r : Run)
    (w : Result (Unit {0}) RunFault) → AreInStep s ds r → AreInStep s ds (next_of s e r w)
next-in-step law s ds e r (Ok u) is = tried-in-step law s ds e r (room_for s r.history (is_cycle e)) is
next-in-step law s ds e r (Err f) is = is

-- an event more
pub made-in-step : FollowOutputs → (s : Setup) (ds : List DriveSim) (e : Event) (r : Run) →
    AreInStep s ds r → AreInStep s ds (made s e r)
unfolding made
made-in-step law s ds e r is = next-in-step law s ds e r r.ending is

all-in-step : FollowOutputs → (s : Setup) (ds : List DriveSim) (es : List Event) (r : Run) → AreInStep s ds r →
    AreInStep s ds (made_all s es r)
unfolding made_all
all-in-step law s ds [] r is = is
all-in-step law s ds (e ∷ es) r is =
    all-in-step law s ds es (made s e r) (made-in-step law s ds e r is)

none-taken : (s : Setup) (ds : List DriveSim) → Takes s ds []
none-taken s ds =
    λ before more n rows grows h. absurd (none_behind before (cycle n rows grows) more h)

-- at its beginning it is
pub first-in-step : FollowOutputs → (s : Setup) (ds : List DriveSim) → AreInStep s ds (first_run ds)
first-in-step law s ds = record { drives = sym (law.first ds); takes = none-taken s ds }

-- the drives of a bench's run are in step
pub run-in-step : FollowOutputs → (b : BenchState) → IsInStep b
unfolding run_of
run-in-step law b =
    let ds = drives_at_opening b.config.axes b.drives in
    let is = all-in-step law b.config ds (events_in b) (run_at_opening b)
    (first-in-step law b.config ds) in
    record { drives = is.drives; answers = is.takes }
