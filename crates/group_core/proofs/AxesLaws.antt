-- A group keeps its axes.
-- for: groups_keep_their_axes
use Rattle.std.specs.Prelude.{◌≡◌, refl, ℕ, Bool, ◌||◌, ℤ, Option, Some, None, is_none, List, [], ◌∷◌}
use Rattle.std.proofs.Common.{◌∙◌}
use Rattle.plc_types.specs.declared.axis_state.AxisState.{AxisState}
use Rattle.buffer_modes.specs.Queue.{is_aborting}
use Rattle.command_pool.specs.declared.ending.Finish.{Finish}
use Rattle.plc_types.specs.declared.kind.BlockKind.{BlockKind}
use Rattle.plc_types.specs.declared.kind.BlockKind.TheVariants as kind
use Rattle.command_pool.specs.declared.wanted.Wanted.{Wanted}
use Rattle.axis_state.specs.GroupDiagram.{next_of}
use Rattle.axis_state.specs.declared.group_diagram.GroupEvent.TheVariants as event
use Rattle.group_core.specs.Calls.{admitted_by, asked_in, braked_for, commanded, commanded_by, group_without, powered_off, queued, waits_for_rest}
use Rattle.group_core.specs.Cores.{Core, ended, ended_by, failed, line_begun, taken_over}
use Rattle.group_core.specs.Cycles.{answered, cycled, ending_of, moved, path_after, released, reset_where}
use Rattle.group_core.specs.Refusals.{refusal_of, states_in}
use Rattle.group_core.specs.States.{may_fail}
use Rattle.group_core.specs.Tracks.{places_at}
use Rattle.group_core.specs.blocks.Halts.{leaves_stopping}
use Rattle.group_core.specs.blocks.Reset.{after_reset, may_reset, reset_by}
use Rattle.group_core.specs.declared.group.Group.{Group}
use Rattle.buffer_modes.specs.declared.reset.PendingReset.{PendingReset}
use Rattle.group_core.specs.declared.look.GroupLook.{GroupLook}
use Rattle.group_core.specs.declared.reason.Reason.{Reason}
use Rattle.group_core.proofs.KeptCalls.{by-if}
use Rattle.group_core.proofs.MemberLaws.{same-axes}

-- a command
line-axes : (members : GroupLook) (w : Wanted) (c : Core) → (admitted_by kind.MoveLinearAbsolute members w c).group.axes ≡ c.group.axes
line-axes members w c =
    let P : Core → Type 0 = λ x. x.group.axes ≡ c.group.axes in
    by-if P (waits_for_rest w c.path) (braked_for w c) _ (λ h. refl)
    (λ h. by-if P (is_aborting w.mode || is_none c.group.active) (line_begun members members.setpoints w (queued w c)) (queued w c) (λ g. refl) (λ g. refl))

axes-by : (k : BlockKind) (members : GroupLook) (w : Wanted) (c : Core) → (admitted_by k members w c).group.axes ≡ c.group.axes
axes-by kind.MoveLinearAbsolute members w c = line-axes members w c
axes-by _ members w c = refl

axes-asked : (o : Option Reason) (members : GroupLook) (w : Wanted) (c : Core) → (commanded_by o members w c).group.axes ≡ c.group.axes
axes-asked None members w c = axes-by w.kind members w c
axes-asked (Some r) members w c = refl

pub command-axes : (w : Wanted) (jerk : ℤ) (members : GroupLook) (c : Core) → (commanded w jerk members c).group.axes ≡ c.group.axes
unfolding commanded
command-axes w jerk members c = axes-asked (refusal_of (asked_in c w jerk members)) members w c

pub off-axes : (c : Core) → (powered_off c).group.axes ≡ c.group.axes
unfolding powered_off failed
off-axes c = by-if (λ (x : Core). x.group.axes ≡ c.group.axes) (may_fail c.group.state) (failed 102 c) c (λ h. refl) (λ h. refl)

pub detach-axes : (owner : ℕ) (g : Group) → (group_without owner g).axes ≡ g.axes
unfolding group_without
detach-axes owner g = refl

-- a cycle
taken-axes : (members : GroupLook) (s : List ℤ) (ws : List Wanted) (c : Core) → (taken_over members s ws c).group.axes ≡ c.group.axes
taken-axes members s [] c = refl
taken-axes members s (w ∷ ws) c = refl

ended-axes : (members : GroupLook) (s : List ℤ) (o : Option Finish) (c : Core) → (ended_by members s o c).group.axes ≡ c.group.axes
unfolding ended
ended-axes members s None c = refl
ended-axes members s (Some f) c = taken-axes members s c.waiting _

moved-axes : (members : GroupLook) (c : Core) → (moved members c).group.axes ≡ c.group.axes
moved-axes members c = ended-axes members (places_at (path_after c.group c.path) members.setpoints) (ending_of c.group c.path) (record c { path = path_after c.group c.path })

released-axes : (held : Bool) (c : Core) → (released held c).group.axes ≡ c.group.axes
released-axes held c =
    by-if (λ (g : Group). g.axes ≡ c.group.axes) (leaves_stopping held c.group c.path) (record c.group { state = next_of event.StopReleased; hold = None }) c.group (λ h. refl) (λ h. refl)

pub cycle-axes : (members : GroupLook) (c : Core) → (cycled members c).group.axes ≡ c.group.axes
unfolding cycled
cycle-axes members c =
    let read : Core = answered members.error c in
    released-axes members.stop_held (moved members read) ∙ moved-axes members read ∙ same-axes members.error c

-- a GroupReset
reset-by-axes : (o : Option PendingReset) (axes : List AxisState) (on : Bool) (g : Group) → (reset_by o axes on g).axes ≡ g.axes
reset-by-axes None axes on g = refl
reset-by-axes (Some r) axes on g = by-if (λ (x : Group). x.axes ≡ g.axes) (may_reset on g) (after_reset axes g) g (λ h. refl) (λ h. refl)

pub reset-axes : (members : GroupLook) (on : Bool) (g : Group) → (reset_where members on g).axes ≡ g.axes
unfolding reset_where
reset-axes members on g = reset-by-axes g.reset (states_in members) on g
