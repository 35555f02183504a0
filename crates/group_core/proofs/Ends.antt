-- What a call and a cycle leave of the command and the state of a group where a command ends, or
-- none does.
-- for: courses_end_in_time, paths_go_on_by_their_steps, lines_lead_to_their_targets and others
use Rattle.std.specs.Prelude.{◌≡◌, refl, ◌⊎◌, ℕ, Bool, true, false, ℤ, Option, Some, None, List, [], ◌∷◌, ◌++◌, if◌then◌else◌}
use Rattle.std.proofs.Common.{sym, ap, inl, inr, ◌∙◌}
use Rattle.plc_types.specs.declared.axis_state.AxisState.{AxisState}
use Rattle.buffer_modes.specs.Queue.{active_note}
use Rattle.command_pool.specs.declared.ending.Finish.{Finish}
use Rattle.plc_types.specs.declared.kind.BlockKind.{BlockKind}
use Rattle.plc_types.specs.declared.kind.BlockKind.TheVariants as kind
use Rattle.command_pool.specs.declared.wanted.Wanted.{Wanted}
use Rattle.axis_state.specs.GroupDiagram.{next_of}
use Rattle.axis_state.specs.declared.group_diagram.GroupEvent.TheVariants as event
use Rattle.plc_types.specs.declared.group.GroupState.{GroupState}
use Rattle.plc_types.specs.declared.group.GroupState.TheVariants as state
use Rattle.plc_types.specs.declared.limits.Limits.{Limits}
use Rattle.group_core.specs.Cores.{Core, ended, ended_by, failed, settled, taken_over}
use Rattle.group_core.specs.Cycles.{advanced, ending_of, group_released, moved, path_after, released, reset_where}
use Rattle.group_core.specs.GroupKept.{AreWaiting, IsCoreKept}
use Rattle.group_core.specs.Kinds.{event_of}
use Rattle.group_core.specs.Refusals.{states_in}
use Rattle.group_core.specs.States.{is_error_stop, is_stopping}
use Rattle.group_core.specs.Tracks.{OnPath, places_at}
use Rattle.group_core.specs.blocks.Halts.{leaves_stopping}
use Rattle.group_core.specs.blocks.Reset.{after_reset, may_reset, reset_by}
use Rattle.group_core.specs.declared.group.Group.{Group}
use Rattle.group_core.specs.declared.group.Motion.{Motion}
use Rattle.group_core.specs.declared.look.GroupLook.{GroupLook}
use Rattle.buffer_modes.specs.declared.reset.PendingReset.{PendingReset}
use Rattle.group_core.proofs.KeptCalls.{by-if}
use Rattle.group_core.proofs.KeptCycles.{waits-in}

-- a choice of two things alike
pub either : {A B : Type 0} (R : A → B → Type 0) (b : Bool) (f g : A) (x y : B) → (b ≡ true → R f x) → (b ≡ false → R g y) →
    R (if b then f else g) (if b then x else y)
either R true f g x y s t = s refl
either R false f g x y s t = t refl

-- leaving GroupStopping changes no command
pub released-active : (held : Bool) (g : Group) (p : Option OnPath) → (group_released held g p).active ≡ g.active
released-active held g p =
    by-if (λ (x : Group). x.active ≡ g.active) (leaves_stopping held g p) (record g { state = next_of event.StopReleased; hold = None }) g (λ h. refl) (λ h. refl)

-- in GroupErrorStop no command ends by a step
error-ending : (g : Group) (m : Motion) → is_error_stop g.state ≡ true → (advanced g m).ending ≡ None
unfolding advanced
error-ending g m h = rw h refl

stopped-ending : (g : Group) (p : Option OnPath) → is_error_stop g.state ≡ true → ending_of g p ≡ None
stopped-ending g None h = refl
stopped-ending g (Some p) h = error-ending g p.motion h

-- nothing ends by the step of a group that has failed
pub none-ends : (members : GroupLook) (s : List ℤ) (o : Option Finish) (c : Core) → o ≡ None → ended_by members s o c ≡ c
none-ends members s None c e = refl
none-ends members s (Some f) c e = absurd (cc)

pub failed-ending : (n : ℕ) (c : Core) → ending_of (failed n c).group (failed n c).path ≡ None
unfolding failed
failed-ending n c = stopped-ending (failed n c).group (failed n c).path refl

pub failed-cycle : (members : GroupLook) (n : ℕ) (c : Core) → (released members.stop_held (moved members (failed n c))).group.state ≡ state.GroupErrorStop
unfolding failed
failed-cycle members n c =
    let read : Core = failed n c in
    ap (λ (x : Core). (released members.stop_held x).group.state)
    (none-ends members (places_at (path_after read.group read.path) members.setpoints) (ending_of read.group read.path) (record read { path = path_after read.group read.path })
    (failed-ending n c))

-- a GroupReset leaves the command
reset-same : (o : Option PendingReset) (axes : List AxisState) (on : Bool) (g : Group) → (reset_by o axes on g).active ≡ g.active
reset-same None axes on g = refl
reset-same (Some r) axes on g = by-if (λ (x : Group). x.active ≡ g.active) (may_reset on g) (after_reset axes g) g (λ h. refl) (λ h. refl)

pub reset-active-same : (members : GroupLook) (on : Bool) (g : Group) → (reset_where members on g).active ≡ g.active
unfolding reset_where
reset-active-same members on g = reset-same g.reset (states_in members) on g

-- what becomes of the state where commands end: it stays, or settles from GroupMoving
abbrev pub Settles : GroupState → GroupState → Type 0
Settles s t = (t ≡ s) ⊎ ((s ≡ state.GroupMoving) × (t ≡ state.GroupStandby))

settled-as : (s : GroupState) → Settles s (settled s)
settled-as state.GroupMoving = inr (refl, refl)
settled-as state.GroupDisabled = inl refl
settled-as state.GroupStandby = inl refl
settled-as state.GroupStopping = inl refl
settled-as state.GroupErrorStop = inl refl
settled-as state.GroupHoming = inl refl

taker-stays : (k : BlockKind) (s : GroupState) → k ≡ kind.MoveLinearAbsolute → s ≡ state.GroupMoving → next_of (event_of k) ≡ s
taker-stays k s e f = ap (λ l. next_of (event_of l)) e ∙ sym f

taken-as : (limits : List Limits) (members : GroupLook) (s : List ℤ) (ws : List Wanted) (c : Core) → AreWaiting c.group.axes limits ws → (ws ≡ []) ⊎ (c.group.state ≡ state.GroupMoving) →
    Settles c.group.state (taken_over members s ws c).group.state
taken-as limits members s [] c k q = settled-as c.group.state
taken-as limits members s (w ∷ ws) c k q = inl (taker-stays w.kind c.group.state k.0.line (waits-in c.group.state w ws q))

ended-as : (limits : List Limits) (members : GroupLook) (s : List ℤ) (o : Option Finish) (c : Core) → AreWaiting c.group.axes limits c.waiting →
    (c.waiting ≡ []) ⊎ (c.group.state ≡ state.GroupMoving) → Settles c.group.state (ended_by members s o c).group.state
unfolding ended
ended-as limits members s None c k q = inl refl
ended-as limits members s (Some f) c k q =
    taken-as limits members s c.waiting (record c { group = record c.group { active = None }; notes = c.notes ++ active_note f c.group.active }) k q

pub moved-as : (limits : List Limits) (members : GroupLook) (c : Core) → IsCoreKept limits c → Settles c.group.state (moved members c).group.state
moved-as limits members c k =
    ended-as limits members (places_at (path_after c.group c.path) members.setpoints) (ending_of c.group c.path) (record c { path = path_after c.group c.path }) k.waiting k.queue

pub stopping-is : (s : GroupState) → is_stopping s ≡ true → s ≡ state.GroupStopping
stopping-is state.GroupStopping h = refl
stopping-is _ h = absurd (cc)
