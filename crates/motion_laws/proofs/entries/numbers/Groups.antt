-- A group has the error that its cycle gives.
-- for: errors_have_causes, errors_are_told_as_shown, commands_end_by_their_kinds
use Rattle.std.specs.Prelude.{◌≡◌, ◌⊎◌, refl, ℕ, Bool, true, false, not, ◌&&◌, nat_eq, if◌then◌else◌, ℤ, pos, Option, Some, None, is_some, List, [], ◌∷◌, ◌++◌}
use Rattle.std.specs.List.{list_any}
use Rattle.std.specs.Ordering.{int_eq}
use Rattle.std.proofs.Common.{ap, subst, sym, ◌∙◌, inl, inr}
use Rattle.std.proofs.lemmas.Bool.{cases_Bool}
use Rattle.buffer_modes.specs.Queue.{active_note, end_notes, is_active_at_once}
use Rattle.buffer_modes.specs.declared.reset.PendingReset.{PendingReset}
use Rattle.command_changes.specs.Group.{command_state_of, reset_changes, reset_changes_by}
use Rattle.command_core.specs.Changes.{Change, all_changed, changed, resets}
use Rattle.command_core.specs.CommandState.{CommandState}
use Rattle.command_pool.specs.Waiting.{told_to}
use Rattle.command_pool.specs.declared.ending.Finish.{Finish}
use Rattle.command_pool.specs.declared.ending.Finish.TheVariants as finish
use Rattle.plc_types.specs.declared.kind.BlockKind.{BlockKind}
use Rattle.plc_types.specs.declared.kind.BlockKind.TheVariants as kind
use Rattle.command_pool.specs.declared.wanted.Wanted.{Wanted}
use Rattle.group_core.specs.Calls.{admitted_by, asked_in, commanded, commanded_by, line_joined, powered_off, queue_in, queued, waits_for_rest}
use Rattle.group_core.specs.Cores.{Core, ended, ended_by, failed, settled, taken_over}
use Rattle.group_core.specs.Cycles.{Advance, advanced, advanced_with, answered, cycled, ending_of, group_released, moved, over_at_rest, path_after, released, reset_where}
use Rattle.group_core.specs.Kinds.{ending_by, event_of, step_by}
use Rattle.group_core.specs.Refusals.{refusal_of, states_in}
use Rattle.group_core.specs.States.{is_error_stop, is_moved, may_fail}
use Rattle.group_core.specs.Tracks.{OnPath, braking_step_of, moved_by, places_at}
use Rattle.group_core.specs.blocks.Halts.{leaves_stopping}
use Rattle.group_core.specs.blocks.Reset.{after_reset, may_reset, reset_by, reset_from}
use Rattle.group_core.specs.declared.group.Group.{Group}
use Rattle.group_core.specs.declared.group.Motion.{Motion}
use Rattle.group_core.specs.declared.look.GroupLook.{GroupLook}
use Rattle.group_core.specs.declared.reason.Reason.{Reason}
use Rattle.axis_state.specs.GroupDiagram.{next_of}
use Rattle.plc_types.specs.declared.group.GroupState.{GroupState}
use Rattle.plc_types.specs.declared.group.GroupState.TheVariants as state
use Rattle.motion_kernel.proofs.Sizes.{by_if}
use Rattle.motion_laws.proofs.entries.numbers.Notes.{AllTell, Nothing, Shows, active_plain, all_told, done_plain, more, plain, untold, weaker}

-- each error that is reported is the group's
abbrev Tells : CommandState → Core → Type 0
Tells c d = AllTell (Shows c d.group.error) d.notes

-- all commands end by an error of a member
failed_tells : (n : ℕ) (d : Core) → d.notes ≡ [] → Tells (command_state_of d) (failed n d)
unfolding failed
failed_tells n d e =
    let c = command_state_of d in
    more (Shows c n) d.notes
    (end_notes (finish.Error n) (record { active = d.group.active; waiting = d.waiting }))
    (untold (Shows c n) d.notes e)
    (all_told (Shows c n) n (record { active = d.group.active; waiting = d.waiting })
    (λ k h. (inl h, refl)))

-- a step ends a command Done alone
abbrev pub OnlyDone : Option Finish → Type 0
OnlyDone None = Unit {0}
OnlyDone (Some finish.Done) = Unit {0}
OnlyDone (Some f) = ⊥

kind_done : (x : BlockKind) (m : Motion) (step : ℤ) → OnlyDone (ending_by x m step)
kind_done kind.MoveLinearAbsolute m step =
    by_if OnlyDone (int_eq m.place m.limits.hi && int_eq step (pos 0)) (Some finish.Done) None tt tt
kind_done _ m step = by_if OnlyDone (int_eq step (pos 0)) (Some finish.Done) None tt tt

with_done : (active : Option Wanted) (m : Motion) → OnlyDone (advanced_with active m).ending
with_done None m = tt
with_done (Some w) m = kind_done w.kind m (step_by w.kind w m)

pub path_done : (g : Group) (p : Option OnPath) → OnlyDone (ending_of g p)
unfolding advanced
path_done g None = tt
path_done g (Some p) =
    by_if (λ (x : Advance). OnlyDone x.ending) (is_error_stop g.state) _ _ tt
    (with_done g.active p.motion)

over_tells : (members : GroupLook) (places : List ℤ) (ws : List Wanted) (c : CommandState) (d : Core) →
    AllTell Nothing d.notes → Tells c (taken_over members places ws d)
over_tells members places [] c d h =
    weaker Nothing (Shows c d.group.error) d.notes (λ k x n. absurd n) h
over_tells members places (w ∷ ws) c d h =
    weaker Nothing (Shows c d.group.error) d.notes (λ k x n. absurd n) h

ended_tells : (members : GroupLook) (places : List ℤ) (o : Option Finish) (d : Core) →
    OnlyDone o → d.notes ≡ [] → Tells (command_state_of d) (ended_by members places o d)
unfolding ended
ended_tells members places None d only e = untold (Shows (command_state_of d) d.group.error) d.notes e
ended_tells members places (Some finish.Done) d only e =
    over_tells members places d.waiting (command_state_of d) _
    (more Nothing d.notes (active_note finish.Done d.group.active) (untold Nothing d.notes e)
    (active_plain Nothing d.group.active finish.Done done_plain))
ended_tells members places (Some finish.Aborted) d only e = absurd only
ended_tells members places (Some (finish.Error n)) d only e = absurd only

moved_tells : (members : GroupLook) (d : Core) → d.notes ≡ [] →
    Tells (command_state_of d) (moved members d)
moved_tells members d e =
    let path = path_after d.group d.path in
    ended_tells members (places_at path members.setpoints) (ending_of d.group d.path)
    (record d { path = path }) (path_done d.group d.path) e

-- a step in GroupErrorStop ends none
none_ends : (g : Group) (p : Option OnPath) → is_error_stop g.state ≡ true → ending_of g p ≡ None
unfolding advanced
none_ends g None h = refl
none_ends g (Some p) h =
    ap (λ b. let x : Advance = if b
    then record {
      motion = moved_by (braking_step_of p.motion.limits.dmax p.motion) p.motion;
      ending = None;
    }
    else advanced_with g.active p.motion in x.ending) h

pub moved_still : (members : GroupLook) (d : Core) → is_error_stop d.group.state ≡ true →
    moved members d ≡ record d { path = path_after d.group d.path }
moved_still members d h =
    let path = path_after d.group d.path in
    ap (λ o. ended_by members (places_at path members.setpoints) o (record d { path = path }))
    (none_ends d.group d.path h)

-- a cycle
released_error : (held : Bool) (g : Group) (p : Option OnPath) →
    (group_released held g p).error ≡ g.error
released_error held g p =
    by_if (λ (x : Group). x.error ≡ g.error) (leaves_stopping held g p) _ g refl refl

then_tells : (held : Bool) (c : CommandState) (d : Core) → Tells c d →
    Tells c (over_at_rest (released held d))
then_tells held c d h =
    subst (λ n. AllTell (Shows c n) d.notes) (sym (released_error held d.group d.path)) h

stepped_tells : (members : GroupLook) (d : Core) → d.notes ≡ [] →
    Tells (command_state_of d) (moved members (answered members.error d))
unfolding failed
stepped_tells members d e =
    let x = failed members.error d in
    by_if (λ y. Tells (command_state_of d) (moved members y))
    (not (nat_eq members.error 0) && may_fail d.group.state) x d
    (subst (Tells (command_state_of d)) (sym (moved_still members x refl))
    (failed_tells members.error d e)) (moved_tells members d e)

pub cycle_tells : (members : GroupLook) (d : Core) → d.notes ≡ [] →
    AllTell (Shows (command_state_of d) (cycled members d).group.error) (cycled members d).notes
unfolding cycled
cycle_tells members d e =
    then_tells members.stop_held (command_state_of d) (moved members (answered members.error d))
    (stepped_tells members d e)

-- in GroupErrorStop a cycle leaves the error
no_fail : (s : GroupState) → is_error_stop s ≡ true → may_fail s ≡ false
no_fail state.GroupErrorStop h = refl
no_fail _ h = absurd (cc)

answered_same : (n : ℕ) (d : Core) → is_error_stop d.group.state ≡ true → answered n d ≡ d
answered_same n d h = by (not (nat_eq n 0)) (may_fail d.group.state) (no_fail d.group.state h)
  where
    by : (a b : Bool) → b ≡ false → (if a && b then failed n d else d) ≡ d
    by a true e = absurd (cc)
    by true false e = refl
    by false false e = refl

pub cycle_error : (members : GroupLook) (d : Core) → is_error_stop d.group.state ≡ true →
    (cycled members d).group.error ≡ d.group.error
unfolding cycled
cycle_error members d h =
    let x = moved members (answered members.error d) in
    let same : x ≡ record d { path = path_after d.group d.path } =
    ap (moved members) (answered_same members.error d h) ∙ moved_still members d h in
    released_error members.stop_held x.group x.path ∙ ap (λ (y : Core). y.group.error) same

-- a GroupReset leaves the error, or GroupErrorStop
abbrev pub KeepsError : Group → Group → Type 0
KeepsError g x = (x.error ≡ g.error) ⊎ (is_error_stop x.state ≡ false)

reset_leaves : (moved : Bool) (s : GroupState) → is_error_stop (reset_from moved s) ≡ false
reset_leaves true state.GroupErrorStop = refl
reset_leaves true _ = refl
reset_leaves false state.GroupErrorStop = refl
reset_leaves false _ = refl

-- and gives no error
reset_plain : (P : ℕ → ℕ → Type 0) (o : Option PendingReset) (on : Bool) (g : Group) (c : CommandState) →
    AllTell P c.notes → AllTell P (all_changed (reset_changes_by o on g) c).notes
reset_plain P None on g c h = h
reset_plain P (Some r) on g c h =
    by_if (λ xs. AllTell P (all_changed xs c).notes) (may_reset on g) (resets ∷ []) []
    (more P c.notes (told_to c.reset finish.Done) h (plain P c.reset finish.Done done_plain)) h

pub resets_plain : (P : ℕ → ℕ → Type 0) (xs : List Change) (d : Core) (c : CommandState) →
    AllTell P (all_changed xs c).notes → AllTell P (all_changed (xs ++ reset_changes d) c).notes
unfolding reset_changes
resets_plain P [] d c h = reset_plain P d.group.reset (is_some d.path) d.group c h
resets_plain P (x ∷ xs) d c h = resets_plain P xs d (changed x c) h

-- a call leaves the error, or GroupErrorStop
line_keeps : (members : GroupLook) (w : Wanted) (d : Core) →
    KeepsError d.group (line_joined members w d).group
line_keeps members w d =
    by_if (λ (x : Core). KeepsError d.group x.group) (waits_for_rest w d.path) _ _ (inl refl)
    (by_if (λ (x : Core). KeepsError d.group x.group) (is_active_at_once (queue_in d) w) _
    (queued w d) (inl refl) (inl refl))

admitted_keeps : (x : BlockKind) (members : GroupLook) (w : Wanted) (d : Core) →
    KeepsError d.group (admitted_by x members w d).group
admitted_keeps kind.GroupDisable members w d = inr refl
admitted_keeps kind.MoveLinearAbsolute members w d = line_keeps members w d
admitted_keeps _ members w d = inl refl

asked_keeps : (r : Option Reason) (members : GroupLook) (w : Wanted) (d : Core) →
    KeepsError d.group (commanded_by r members w d).group
asked_keeps None members w d = admitted_keeps w.kind members w d
asked_keeps (Some r) members w d = inl refl

pub command_keeps : (w : Wanted) (jerk : ℤ) (members : GroupLook) (d : Core) →
    KeepsError d.group (commanded w jerk members d).group
unfolding commanded
command_keeps w jerk members d =
    asked_keeps (refusal_of (asked_in d w jerk members)) members w d

pub off_same : (d : Core) → is_error_stop d.group.state ≡ true → powered_off d ≡ d
unfolding powered_off
off_same d h = ap (λ b. if b then failed 102 d else d) (no_fail d.group.state h)

-- a GroupReset leads to no GroupErrorStop
pub record IsLeft (g x : Group) : Type 0 where
  pub error : KeepsError g x
  pub state : is_error_stop x.state ≡ true → is_error_stop g.state ≡ true

pub reset_left : (members : GroupLook) (on_path : Bool) (g : Group) →
    IsLeft g (reset_where members on_path g)
unfolding reset_where
reset_left members on_path g = by g.reset
  where
    by : (o : Option PendingReset) → IsLeft g (reset_by o (states_in members) on_path g)
    by None = record { error = inl refl; state = λ h. h }
    by (Some r) =
        let out = reset_leaves (list_any is_moved (states_in members)) g.state in
        by_if (IsLeft g) (may_reset on_path g) (after_reset (states_in members) g) g
        (record { error = inr out; state = λ h. absurd (cc) })
        (record { error = inl refl; state = λ h. h })

-- a group comes to GroupErrorStop by an error of a member alone
settled_out : (s : GroupState) → is_error_stop s ≡ false → is_error_stop (settled s) ≡ false
settled_out state.GroupMoving h = refl
settled_out _ h = h

begun_out : (x : BlockKind) → is_error_stop (next_of (event_of x)) ≡ false
begun_out kind.GroupStop = refl
begun_out _ = refl

over_out : (members : GroupLook) (places : List ℤ) (ws : List Wanted) (d : Core) →
    is_error_stop d.group.state ≡ false →
    is_error_stop (taken_over members places ws d).group.state ≡ false
over_out members places [] d h = settled_out d.group.state h
over_out members places (w ∷ ws) d h = begun_out w.kind

ended_out : (members : GroupLook) (places : List ℤ) (o : Option Finish) (d : Core) →
    is_error_stop d.group.state ≡ false →
    is_error_stop (ended_by members places o d).group.state ≡ false
unfolding ended
ended_out members places None d h = h
ended_out members places (Some f) d h = over_out members places d.waiting _ h

released_out : (held : Bool) (g : Group) (p : Option OnPath) → is_error_stop g.state ≡ false →
    is_error_stop (group_released held g p).state ≡ false
released_out held g p h =
    by_if (λ (x : Group). is_error_stop x.state ≡ false) (leaves_stopping held g p) _ g refl h

-- which is then its own
pub record HasFailed (members : GroupLook) (x : Core) : Type 0 where
  pub error : x.group.error ≡ members.error
  pub is : nat_eq members.error 0 ≡ false

pub not_none : (none fails : Bool) → not none && fails ≡ true → none ≡ false
not_none true fails h = absurd (cc)
not_none false fails h = refl

pub has_failed : (members : GroupLook) (d : Core) → is_error_stop d.group.state ≡ false →
    is_error_stop (cycled members d).group.state ≡ true → HasFailed members (cycled members d)
unfolding cycled failed
has_failed members d before now =
    let fails = not (nat_eq members.error 0) && may_fail d.group.state in
    let x = moved members (answered members.error d) in
    let held = members.stop_held in
    elim (cases_Bool fails) [
      | inl some ↦
          let y = failed members.error d in
          let same : answered members.error d ≡ y =
          ap (λ b. if b then failed members.error d else d) some in
          let still : x ≡ record y { path = path_after y.group y.path } =
          ap (moved members) same ∙ moved_still members y refl in
          record {
            error = released_error held x.group x.path ∙ ap (λ (z : Core). z.group.error) still;
            is = not_none (nat_eq members.error 0) (may_fail d.group.state) some;
          }
      | inr none ↦
          let same : answered members.error d ≡ d =
          ap (λ b. if b then failed members.error d else d) none in
          let path = path_after d.group d.path in
          let out : is_error_stop (moved members d).group.state ≡ false =
          ended_out members (places_at path members.setpoints) (ending_of d.group d.path)
          (record d { path = path }) before in
          let out_now : is_error_stop x.group.state ≡ false =
          ap (λ (z : Core). is_error_stop (moved members z).group.state) same ∙ out in
          absurd (let never : true ≡ false =
          sym now ∙ released_out held x.group x.path out_now in cc)
    ]
