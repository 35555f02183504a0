-- What opening, a detachment and a GroupReset keep of a group.
-- for: reset_cycle, detach, groups_stay_kept
use Rattle.std.specs.Prelude.{◌≡◌, refl, ◌⊎◌, ℕ, Bool, true, false, ◌&&◌, Option, Some, None, is_some, List, [], ◌∷◌, map}
use Rattle.std.specs.List.{list_any}
use Rattle.std.proofs.Common.{◌∙◌, sym, ap, inl, inr}
use Rattle.std.proofs.lemmas.Bool.{not-true}
use Rattle.command_pool.specs.Waiting as pool
use Rattle.plc_types.specs.declared.kind.BlockKind.{BlockKind}
use Rattle.plc_types.specs.declared.kind.BlockKind.TheVariants as kind
use Rattle.command_pool.specs.declared.wanted.Wanted.{Wanted}
use Rattle.plc_types.specs.declared.group.GroupState.{GroupState}
use Rattle.plc_types.specs.declared.group.GroupState.TheVariants as state
use Rattle.plc_types.specs.declared.limits.Limits.{Limits}
use Rattle.buffer_modes.specs.Owners.{active_without}
use Rattle.group_core.specs.Calls.{disowned, group_without}
use Rattle.group_core.specs.Cores.{Core}
use Rattle.group_core.specs.Cycles.{opening, reset_cycled, reset_where}
use Rattle.group_core.specs.GroupKept.{AreGroupLimits, AreNumbers, AreWaiting, IsActive, IsCoreKept, IsCount, IsInState}
use Rattle.group_core.specs.Refusals.{states_in}
use Rattle.group_core.specs.States.{is_error_stop, is_moved}
use Rattle.group_core.specs.Tracks.{OnPath}
use Rattle.group_core.specs.blocks.Reset.{after_reset, may_reset, reset_by, reset_from}
use Rattle.group_core.specs.declared.group.Group.{Group}
use Rattle.buffer_modes.specs.declared.reset.PendingReset.{PendingReset}
use Rattle.group_core.specs.declared.look.GroupLook.{GroupLook}
use Rattle.group_core.proofs.KeptCalls.{by-if, the-active}

pub opened-kept : (axes : ℕ) (limits : List Limits) → IsCount axes → AreGroupLimits axes limits → IsCoreKept limits (opening axes)
opened-kept axes limits count are = record {
  axes = count;
  limits_are = are;
  state = record { off = refl; idle = refl };
  active = λ w h. absurd (cc);
  path = λ p h. absurd (cc);
  waiting = tt;
  queue = inl refl;
}

-- an owner that is taken away changes no command but for that
owned-none : (owner : ℕ) (active : Option Wanted) → active ≡ None → active_without owner active ≡ None
owned-none owner active e = ap (active_without owner) e

owned-some : (owner : ℕ) (active : Option Wanted) → is_some (active_without owner active) ≡ is_some active
owned-some owner None = refl
owned-some owner (Some w) = refl

was-none : (owner : ℕ) (active : Option Wanted) → active_without owner active ≡ None → active ≡ None
was-none owner None h = refl
was-none owner (Some w) h = absurd (cc)

owned-state : (owner : ℕ) (s : GroupState) (p : Option OnPath) (active : Option Wanted) → IsInState s p active → IsInState s p (active_without owner active)
owned-state owner state.GroupDisabled p active i = record { off = i.off; idle = owned-none owner active i.idle }
owned-state owner state.GroupStandby p active i = record { off = i.off; idle = owned-none owner active i.idle }
owned-state owner state.GroupMoving p active i = record { on = i.on; led = owned-some owner active ∙ i.led }
owned-state owner state.GroupStopping p active i = record { on = i.on; rests = λ e. i.rests (was-none owner active e) }
owned-state owner state.GroupErrorStop p active i = owned-none owner active i
owned-state owner state.GroupHoming p active i = absurd i

numbers-of : (k : BlockKind) (v : Wanted) (owner : ℕ) → AreNumbers k v → AreNumbers k (record v { owner = pool.without owner v.owner })
numbers-of kind.MoveLinearAbsolute v owner n = n
numbers-of _ v owner n = n

owned-active : (owner : ℕ) (s : GroupState) (active : Option Wanted) → ((w : Wanted) → active ≡ Some w → IsActive s w) → (w : Wanted) → active_without owner active ≡ Some w → IsActive s w
owned-active owner s None f w h = absurd (cc)
owned-active owner s (Some v) f w h =
    let i = f v refl in
    the-active s (record v { owner = pool.without owner v.owner }) (record { fitting = i.fitting; numbers = numbers-of v.kind v owner i.numbers }) w h

owned-waiting : (owner axes : ℕ) (limits : List Limits) (ws : List Wanted) → AreWaiting axes limits ws → AreWaiting axes limits (map (pool.detached owner) ws)
owned-waiting owner axes limits [] h = tt
owned-waiting owner axes limits (w ∷ ws) h =
    (record { line = h.0.line; rates = h.0.rates; targets = h.0.targets; mode = h.0.mode }, owned-waiting owner axes limits ws h.1)

owned-queue : (owner : ℕ) (s : GroupState) (ws : List Wanted) → (ws ≡ []) ⊎ (s ≡ state.GroupMoving) → (map (pool.detached owner) ws ≡ []) ⊎ (s ≡ state.GroupMoving)
owned-queue owner s ws (inl e) = inl (ap (map (pool.detached owner)) e)
owned-queue owner s ws (inr e) = inr e

pub disowned-kept : (owner : ℕ) (limits : List Limits) (c : Core) → IsCoreKept limits c → IsCoreKept limits (disowned owner c)
unfolding group_without
disowned-kept owner limits c k = record {
  axes = k.axes;
  limits_are = k.limits_are;
  state = owned-state owner c.group.state c.path c.group.active k.state;
  active = owned-active owner c.group.state c.group.active k.active;
  path = k.path;
  waiting = owned-waiting owner c.group.axes limits c.waiting k.waiting;
  queue = owned-queue owner c.group.state c.waiting k.queue;
}

-- a GroupReset that is done
reset-state : (moved : Bool) (s : GroupState) (p : Option OnPath) (active : Option Wanted) → (is_error_stop s && is_some p) ≡ false → IsInState s p active → IsInState (reset_from moved s) p active
reset-state true state.GroupErrorStop None active h i = record { off = refl; idle = i }
reset-state false state.GroupErrorStop None active h i = record { off = refl; idle = i }
reset-state moved state.GroupErrorStop (Some p) active h i = absurd (cc)
reset-state true state.GroupDisabled p active h i = i
reset-state false state.GroupDisabled p active h i = i
reset-state true state.GroupStandby p active h i = i
reset-state false state.GroupStandby p active h i = i
reset-state true state.GroupMoving p active h i = i
reset-state false state.GroupMoving p active h i = i
reset-state true state.GroupStopping p active h i = i
reset-state false state.GroupStopping p active h i = i
reset-state moved state.GroupHoming p active h i = absurd i

-- only a group in GroupErrorStop changes its state, and that has no command
reset-active : (moved : Bool) (s : GroupState) (p : Option OnPath) (active : Option Wanted) → IsInState s p active → ((w : Wanted) → active ≡ Some w → IsActive s w) →
    (w : Wanted) → active ≡ Some w → IsActive (reset_from moved s) w
reset-active moved state.GroupErrorStop p active i f w h = absurd (let e : None ≡ Some w = sym i ∙ h in cc)
reset-active true state.GroupDisabled p active i f w h = f w h
reset-active false state.GroupDisabled p active i f w h = f w h
reset-active true state.GroupStandby p active i f w h = f w h
reset-active false state.GroupStandby p active i f w h = f w h
reset-active true state.GroupMoving p active i f w h = f w h
reset-active false state.GroupMoving p active i f w h = f w h
reset-active true state.GroupStopping p active i f w h = f w h
reset-active false state.GroupStopping p active i f w h = f w h
reset-active moved state.GroupHoming p active i f w h = absurd i

reset-queue : (moved : Bool) (s : GroupState) (ws : List Wanted) → (ws ≡ []) ⊎ (s ≡ state.GroupMoving) → (ws ≡ []) ⊎ (reset_from moved s ≡ state.GroupMoving)
reset-queue moved s ws (inl e) = inl e
reset-queue true s ws (inr e) = inr (rw e refl)
reset-queue false s ws (inr e) = inr (rw e refl)

-- a group of which this was made is kept
abbrev WithGroup : List Limits → Core → Group → Type 0
WithGroup limits c g = IsCoreKept limits (record c { group = g })

reset-by-kept : (o : Option PendingReset) (members : GroupLook) (limits : List Limits) (c : Core) → IsCoreKept limits c →
    WithGroup limits c (reset_by o (states_in members) (is_some c.path) c.group)
reset-by-kept None members limits c k = record { axes = k.axes; limits_are = k.limits_are; state = k.state; active = k.active; path = k.path; waiting = k.waiting; queue = k.queue }
reset-by-kept (Some r) members limits c k =
    let m : Bool = list_any is_moved (states_in members) in
    by-if (WithGroup limits c) (may_reset (is_some c.path) c.group) (after_reset (states_in members) c.group) c.group
    (λ h. record {
      axes = k.axes;
      limits_are = k.limits_are;
      state = reset-state m c.group.state c.path c.group.active (not-true _ h) k.state;
      active = reset-active m c.group.state c.path c.group.active k.state k.active;
      path = k.path;
      waiting = k.waiting;
      queue = reset-queue m c.group.state c.waiting k.queue;
    })
    (λ h. record { axes = k.axes; limits_are = k.limits_are; state = k.state; active = k.active; path = k.path; waiting = k.waiting; queue = k.queue })

pub reset-kept : (members : GroupLook) (limits : List Limits) (c : Core) → IsCoreKept limits c → IsCoreKept limits (reset_cycled members c)
unfolding reset_where
reset-kept members limits c k =
    let r = reset-by-kept c.group.reset members limits c k in
    record { axes = r.axes; limits_are = r.limits_are; state = r.state; active = r.active; path = r.path; waiting = r.waiting; queue = r.queue }
