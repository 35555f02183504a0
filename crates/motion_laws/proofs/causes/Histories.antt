-- Each error that a row of a past shows was brought in its cycle or in an entry before it.
-- for: errors_have_causes
use Rattle.std.specs.Prelude.{◌≡◌, ◌≢◌, refl, ℕ, zero, suc, ◌<◌, true, false, Some, List, [], ◌∷◌, ◌++◌, length, map, slice_get}
use Rattle.std.proofs.Common.{arith, ap, subst, sym, inl, inr, ◌∙◌}
use Rattle.std.proofs.lemmas.Bool.{cases_Bool}
use Rattle.std.proofs.lemmas.List.{append-nil, append_assoc}
use Rattle.axis_core.specs.Cycles.{axis_at_opening}
use Rattle.axis_state.specs.States as axis
use Rattle.plc_types.specs.declared.axis.AxisDef.{AxisDef}
use Rattle.plc_types.specs.declared.axis.AxisRow.{AxisRow}
use Rattle.plc_types.specs.declared.axis_state.AxisState.TheVariants as state
use Rattle.group_core.specs.States as group
use Rattle.motion_kernel.proofs.Sizes.{by_if}
use Rattle.motion_kernel.proofs.cycles.Rows.{grow_count}
use Rattle.plc_types.specs.declared.group.GroupRow.{GroupRow}
use Rattle.motion_history.specs.declared.config.GroupDef.{GroupDef}
use Rattle.motion_history.specs.Entries.{Entry, call, cycle, end_of}
use Rattle.motion_history.specs.Setup.{Setup, IsSetup}
use Rattle.motion_kernel.proofs.owners.commands.Events.{there_where}
use Rattle.motion_kernel.proofs.walk.Keeps.{WalkLaws}
use Rattle.motion_kernel.specs.Histories.{IsPast, after, inputs_of, machine_after, replay}
use Rattle.motion_kernel.specs.Machine.{Machine, axis_among, group_among, group_at_opening, machine_at_opening}
use Rattle.motion_kernel.specs.kept.Machine.{AreWhole, IsMachineKept}
use Rattle.motion_kernel.specs.owners.Objects.{IsThere, Object, a_group, an_axis}
use Rattle.motion_laws.proofs.Histories.{past_kept, past_so_far}
use Rattle.motion_laws.proofs.causes.Calls.{axis_running, group_switched}
use Rattle.motion_laws.proofs.causes.Reported.{entry_reports}
use Rattle.motion_laws.proofs.causes.Cycles.{TakesExactly, axis_brought, group_failed}
use Rattle.motion_laws.proofs.entries.errors.Histories.{opening_shown, replay_shown}
use Rattle.motion_laws.proofs.entries.errors.Laws.{ErrorLaws}
use Rattle.motion_laws.specs.Standing.{AreAllShown}
use Rattle.motion_laws.proofs.entries.events.Histories.{IsEntry, entry_in}
use Rattle.motion_laws.proofs.results.Comes.{after_more}
use Rattle.motion_laws.specs.causes.Rows.{Brings, ErrorsAreBrought, HasError, IsBrought, KeepsError}
use Rattle.motion_laws.specs.entries.Errors.{ErrorsShow}
use Rattle.motion_laws.specs.entries.Numbers.{ErrorsAreTold, error_at, is_stopped_at}
use Rattle.motion_laws.specs.entries.Rows.{RowsShow}

-- the laws on which it rests
pub record CauseLaws : Type 0 where
  pub errors : ErrorLaws
  pub exact : TakesExactly
  pub walk : WalkLaws
  pub told : (s : Setup) (made more : List Entry) (e : Entry) → IsSetup s → AreWhole s →
      IsPast s (made ++ e ∷ more) → ErrorsAreTold s (machine_after s made) e
  pub rows : (s : Setup) (made more : List Entry) (e : Entry) → IsSetup s → AreWhole s →
      IsPast s (made ++ e ∷ more) → RowsShow (after s (machine_after s made) e) e
  pub show : (s : Setup) (made more : List Entry) (e : Entry) → IsSetup s → AreWhole s →
      IsPast s (made ++ e ∷ more) → ErrorsShow e

-- an entry by which an axis comes to ErrorStop, or a group to GroupErrorStop, brings its error
entry_brings : CauseLaws → (s : Setup) (m : Machine) (e : Entry) (o : Object) → AreWhole s →
    IsMachineKept s m → AreAllShown s m → IsEntry s m e → IsThere m o →
    is_stopped_at m o ≡ false → is_stopped_at (after s m e) o ≡ true →
    Brings s m e o (error_at (after s m e) o)
entry_brings laws s m (call k i reply) (an_axis n) whole h shown is l running stopped =
    let one = is.is in
    absurd (axis_running laws.errors s m k i n whole one.0 h shown l running stopped)
entry_brings laws s m (call k i reply) (a_group j) whole h shown is l running stopped =
    let one = is.is in
    group_switched laws.errors s m k i j whole one.0 h shown l running stopped
entry_brings laws s m (cycle c rows grows) (an_axis n) whole h shown is l running stopped =
    let errors = laws.errors in
    axis_brought laws.exact errors.machines s m (inputs_of rows) n h l running stopped
entry_brings laws s m (cycle c rows grows) (a_group j) whole h shown is l running stopped =
    group_failed s m (inputs_of rows) j h l running stopped
entry_brings laws s m (end_of task) o whole h shown is l running stopped = absurd (cc)

-- one entry more that keeps it
keeps_more : (s : Setup) (o : Object) (error : ℕ) (m : Machine) (es : List Entry) (e : Entry) →
    KeepsError s o error m es → HasError (after s (replay s m es) e) o error →
    KeepsError s o error m (es ++ e ∷ [])
keeps_more s o error m [] e keeps now = (keeps, now)
keeps_more s o error m (x ∷ xs) e keeps now =
    (keeps.0, keeps_more s o error (after s m x) xs e keeps.1 now)

brought_later : (s : Setup) (o : Object) (error : ℕ) (es : List Entry) (e : Entry) →
    IsBrought s o error es → HasError (after s (machine_after s es) e) o error →
    IsBrought s o error (es ++ e ∷ [])
brought_later s o error es e h now =
    let is : machine_after s es ≡ replay s (after s (machine_after s h.made) h.entry) h.more =
    ap (machine_after s) h.split ∙ after_more s h.made h.more h.entry in
    record {
      made = h.made;
      entry = h.entry;
      more = h.more ++ e ∷ [];
      split = ap (λ xs. xs ++ e ∷ []) h.split
          ∙ append_assoc h.made (h.entry ∷ h.more) (e ∷ []);
      running = h.running;
      brings = h.brings;
      since = keeps_more s o error (after s (machine_after s h.made) h.entry) h.more e h.since
          (subst (λ m. HasError (after s m e) o error) is now);
    }

-- each error after some entries was brought by one of them
abbrev AreBrought : Setup → Object → List Entry → Type 0
AreBrought s o es = is_stopped_at (machine_after s es) o ≡ true →
    IsBrought s o (error_at (machine_after s es) o) es

-- what the machines of a past keep
record MayCome (s : Setup) (o : Object) (all : List Entry) : Type 0 where
  brings : (made more : List Entry) (e : Entry) → all ≡ made ++ e ∷ more →
      is_stopped_at (machine_after s made) o ≡ false →
      is_stopped_at (after s (machine_after s made) e) o ≡ true →
      Brings s (machine_after s made) e o (error_at (after s (machine_after s made) e) o)
  stays : (made more : List Entry) (e : Entry) → all ≡ made ++ e ∷ more →
      is_stopped_at (machine_after s made) o ≡ true →
      is_stopped_at (after s (machine_after s made) e) o ≡ true →
      error_at (after s (machine_after s made) e) o ≡ error_at (machine_after s made) o

brought_by : (s : Setup) (o : Object) (all made more : List Entry) (e : Entry) →
    MayCome s o all → all ≡ made ++ e ∷ more → AreBrought s o made →
    is_stopped_at (after s (machine_after s made) e) o ≡ true →
    IsBrought s o (error_at (after s (machine_after s made) e) o) (made ++ e ∷ [])
brought_by s o all made more e laws is h now =
    elim (cases_Bool (is_stopped_at (machine_after s made) o)) [
      | inl stopped ↦
          let same = laws.stays made more e is stopped now in
          brought_later s o (error_at (after s (machine_after s made) e) o) made e
          (subst (λ x. IsBrought s o x made) (sym same) (h stopped))
          (record { stopped = now; is = refl })
      | inr running ↦ record {
        made = made;
        entry = e;
        more = [];
        split = refl;
        running = running;
        brings = laws.brings made more e is running now;
        since = record { stopped = now; is = refl };
      }
    ]

one_more : (s : Setup) (o : Object) (all made more : List Entry) (e : Entry) →
    MayCome s o all → all ≡ made ++ e ∷ more → AreBrought s o made →
    AreBrought s o (made ++ e ∷ [])
one_more s o all made more e laws is h now =
    let same = after_more s made [] e in
    subst (λ m. IsBrought s o (error_at m o) (made ++ e ∷ [])) (sym same)
    (brought_by s o all made more e laws is h (ap (λ m. is_stopped_at m o) (sym same) ∙ now))

all_brought : (s : Setup) (o : Object) (all made es : List Entry) → MayCome s o all →
    all ≡ made ++ es → AreBrought s o made → AreBrought s o (made ++ es)
all_brought s o all made [] laws is h = subst (AreBrought s o) (sym (append-nil made)) h
all_brought s o all made (e ∷ es) laws is h =
    let joined = append_assoc made (e ∷ []) es in
    subst (AreBrought s o) joined
    (all_brought s o all (made ++ e ∷ []) es laws (is ∙ sym joined)
    (one_more s o all made es e laws is h))

-- the machine after some entries of a past, whose errors are shown
record IsSoFar (s : Setup) (made : List Entry) : Type 0 where
  kept : IsMachineKept s (machine_after s made)
  shown : AreAllShown s (machine_after s made)

so_far : CauseLaws → (s : Setup) (made more : List Entry) → IsSetup s → AreWhole s →
    IsPast s (made ++ more) → IsSoFar s made
unfolding machine_after
so_far laws s made more setup whole past =
    let errors = laws.errors in
    let machines = errors.machines in
    let start = machine_at_opening s in
    let begun = past_so_far s made more past in
    record {
      kept = past_kept machines s made setup whole begun;
      shown = replay_shown errors s 0 start made whole (machines.opened s setup whole)
          (opening_shown errors s) begun.follows;
    }

-- an axis or a group of the configuration
abbrev IsOf : Setup → Object → Type 0
IsOf s (an_axis n) = n < length s.axes
IsOf s (a_group j) = j < length s.groups

there : (s : Setup) (m : Machine) (o : Object) → IsMachineKept s m → IsOf s o → IsThere m o
there s m (an_axis n) h l = let sizes = h.sized in let a = sizes.axes in omega arith
there s m (a_group j) h l = let sizes = h.sized in let g = sizes.groups in omega arith

may_come : CauseLaws → (s : Setup) (o : Object) (es : List Entry) → IsSetup s → AreWhole s →
    IsPast s es → IsOf s o → MayCome s o es
unfolding machine_after
may_come laws s o es setup whole past l = record {
  brings = λ made more e is running stopped.
      let here = subst (IsPast s) is past in
      let x = so_far laws s made (e ∷ more) setup whole here in
      entry_brings laws s (machine_after s made) e o whole x.kept x.shown
      (entry_in s 0 (machine_at_opening s) made more e here.follows)
      (there s (machine_after s made) o x.kept l) running stopped;
  stays = λ made more e is before now.
      let here = subst (IsPast s) is past in
      let x = so_far laws s made (e ∷ more) setup whole here in
      let told = laws.told s made more e setup whole here o
      (there s (machine_after s made) o x.kept l) in
      told.stays before now;
}

-- at opening none is in ErrorStop
axis_opens : (ds : List AxisDef) (n : ℕ) → n < length ds →
    axis.is_error_stop (axis_among (map axis_at_opening ds) n).state ≡ true → ⊥
unfolding axis_at_opening
axis_opens [] n l h = omega arith
axis_opens (d ∷ ds) zero l h =
    let never = by_if (λ x. axis.is_error_stop x ≡ false) d.ready state.Standstill state.Disabled
    refl refl in
    cc
axis_opens (d ∷ ds) (suc n) l h = axis_opens ds n (omega arith) h

group_opens : (ds : List GroupDef) (j : ℕ) → j < length ds →
    group.is_error_stop (group_among (map group_at_opening ds) j).group.state ≡ true → ⊥
group_opens [] j l h = omega arith
group_opens (d ∷ ds) zero l h = cc
group_opens (d ∷ ds) (suc j) l h = group_opens ds j (omega arith) h

opens : (s : Setup) (o : Object) → IsOf s o → AreBrought s o []
unfolding machine_after
opens s (an_axis n) l stopped = absurd (axis_opens s.axes n l stopped)
opens s (a_group j) l stopped = absurd (group_opens s.groups j l stopped)

-- an error that is shown after an entry
all_of : CauseLaws → (s : Setup) (o : Object) (made more : List Entry) (e : Entry) →
    IsSetup s → AreWhole s → IsPast s (made ++ e ∷ more) → IsOf s o → (error : ℕ) →
    error ≡ error_at (after s (machine_after s made) e) o →
    is_stopped_at (after s (machine_after s made) e) o ≡ true →
    IsBrought s o error (made ++ e ∷ [])
all_of laws s o made more e setup whole past l error is stopped =
    let es = made ++ e ∷ [] in
    let same = after_more s made [] e in
    let joined : es ++ more ≡ made ++ e ∷ more = append_assoc made (e ∷ []) more in
    let begun = past_so_far s es more (subst (IsPast s) (sym joined) past) in
    let all = all_brought s o es [] es (may_come laws s o es setup whole begun l) refl
    (opens s o l) (ap (λ m. is_stopped_at m o) same ∙ stopped) in
    subst (λ x. IsBrought s o x es) (ap (λ m. error_at m o) same ∙ sym is) all

-- a row for each axis and each group
axis_answers : (s : Setup) (made more : List Entry) (c : ℕ) (rows : List AxisRow)
    (grows : List GroupRow) → IsPast s (made ++ cycle c rows grows ∷ more) →
    length rows ≡ length (machine_after s made).axes
unfolding machine_after
axis_answers s made more c rows grows past =
    let one = entry_in s 0 (machine_at_opening s) made more (cycle c rows grows) past.follows in
    let is = one.is in
    is.1.answers

group_answers : (s : Setup) (made more : List Entry) (c : ℕ) (rows : List AxisRow)
    (grows : List GroupRow) → IsPast s (made ++ cycle c rows grows ∷ more) →
    length grows ≡ length (machine_after s made).groups
unfolding machine_after
group_answers s made more c rows grows past =
    let one = entry_in s 0 (machine_at_opening s) made more (cycle c rows grows) past.follows in
    let is = one.is in
    ap length is.1.groups ∙ grow_count s (replay s (machine_at_opening s) made) (inputs_of rows)

-- the errors of rows are those of the machine
row_brought : CauseLaws → (s : Setup) (made more : List Entry) (c n : ℕ) (rows : List AxisRow)
    (grows : List GroupRow) (r : AxisRow) → IsSetup s → AreWhole s →
    IsPast s (made ++ cycle c rows grows ∷ more) → slice_get rows n ≡ Some r → r.error ≢ 0 →
    IsBrought s (an_axis n) r.error (made ++ cycle c rows grows ∷ [])
row_brought laws s made more c n rows grows r setup whole past at some =
    let e = cycle c rows grows in
    let x = so_far laws s made (e ∷ more) setup whole past in
    let kept = x.kept in
    let sizes = kept.sized in
    let axes = sizes.axes in
    let there = there_where rows n r at in
    let answers = axis_answers s made more c rows grows past in
    let l : n < length s.axes = omega arith in
    let shows = laws.rows s made more e setup whole past in
    let shown = shows.axes n r at in
    let errors = laws.show s made more e setup whole past in
    let number = errors.axes n r at in
    let now = after s (machine_after s made) e in
    let stopped : is_stopped_at now (an_axis n) ≡ true =
    elim (cases_Bool (axis.is_error_stop r.state)) [
      | inl h ↦ ap axis.is_error_stop (sym shown.state) ∙ h
      | inr h ↦ absurd (some (number.clear h))
    ] in
    all_of laws s (an_axis n) made more e setup whole past l r.error shown.error stopped

group_row_brought : CauseLaws → (s : Setup) (made more : List Entry) (c j : ℕ)
    (rows : List AxisRow) (grows : List GroupRow) (r : GroupRow) → IsSetup s → AreWhole s →
    IsPast s (made ++ cycle c rows grows ∷ more) → slice_get grows j ≡ Some r → r.error ≢ 0 →
    IsBrought s (a_group j) r.error (made ++ cycle c rows grows ∷ [])
group_row_brought laws s made more c j rows grows r setup whole past at some =
    let e = cycle c rows grows in
    let x = so_far laws s made (e ∷ more) setup whole past in
    let kept = x.kept in
    let sizes = kept.sized in
    let groups = sizes.groups in
    let there = there_where grows j r at in
    let answers = group_answers s made more c rows grows past in
    let l : j < length s.groups = omega arith in
    let shows = laws.rows s made more e setup whole past in
    let shown = shows.groups j r at in
    let errors = laws.show s made more e setup whole past in
    let number = errors.groups j r at in
    let now = after s (machine_after s made) e in
    let stopped : is_stopped_at now (a_group j) ≡ true =
    elim (cases_Bool (group.is_error_stop r.state)) [
      | inl h ↦ ap group.is_error_stop (sym shown.state) ∙ h
      | inr h ↦ absurd (some (number.clear h))
    ] in
    all_of laws s (a_group j) made more e setup whole past l r.error shown.error stopped

pub errors_brought : CauseLaws → (s : Setup) (es : List Entry) → IsSetup s → AreWhole s →
    IsPast s es → ErrorsAreBrought s es
errors_brought laws s es setup whole past = record {
  axes = λ made more c n rows grows r is at some. row_brought laws s made more c n rows grows r
      setup whole (subst (IsPast s) is past) at some;
  groups = λ made more c j rows grows r is at some. group_row_brought laws s made more c j rows
      grows r setup whole (subst (IsPast s) is past) at some;
  reported = λ made more e o k error is there ends.
      let x = so_far laws s made (e ∷ more) setup whole (subst (IsPast s) is past) in
      entry_reports laws.exact laws.walk s (machine_after s made) e o k error x.kept there ends;
}
