-- How a cycle takes an active command on: by its step, or to its end.
-- for: courses_end_in_time, paths_go_on_by_their_steps, lines_lead_to_their_targets
use Rattle.std.specs.Prelude.{◌≡◌, ◌↔◌, refl, Bool, true, false, not, ◌&&◌, ℤ, pos, Option, Some, None, is_some, List, if◌then◌else◌}
use Rattle.std.specs.Int.{int_min}
use Rattle.std.specs.Ordering.{int_eq}
use Rattle.std.proofs.Common.{◌∙◌, sym, ap, subst}
use Rattle.std.proofs.lemmas.Bool.{and_right}
use Rattle.command_pool.specs.declared.ending.Finish.{Finish}
use Rattle.command_pool.specs.declared.ending.Finish.TheVariants as finish
use Rattle.plc_types.specs.declared.kind.BlockKind.{BlockKind}
use Rattle.plc_types.specs.declared.kind.BlockKind.TheVariants as kind
use Rattle.command_pool.specs.declared.wanted.Wanted.{Wanted}
use Rattle.plc_types.specs.declared.group.GroupState.{GroupState}
use Rattle.plc_types.specs.declared.group.GroupState.TheVariants as state
use Rattle.kin_core.specs.Taken.{taken_step_of}
use Rattle.kin_core.specs.Toward.{toward_zero}
use Rattle.plc_types.specs.declared.limits.Limits.{Limits}
use Rattle.trapezoid_plan.specs.MoveRun.{halt_taken_of}
use Rattle.group_core.specs.Calls.{asked_in, commanded, commanded_by}
use Rattle.group_core.specs.Cores.{Core}
use Rattle.group_core.specs.Courses.{Leads, is_line_done, is_slowing}
use Rattle.group_core.specs.Cycles.{Advance, advanced, advanced_with, answered, cycled, ending_of, moved, over_at_rest, path_after, path_taken, released}
use Rattle.group_core.specs.Fates.{cycle_fate, ending_fate, is_failing}
use Rattle.group_core.specs.GroupKept.{IsCoreKept, fits}
use Rattle.group_core.specs.Kinds.{ending_by, step_by}
use Rattle.group_core.specs.Refusals.{limits_in, refusal_of}
use Rattle.group_core.specs.States.{is_error_stop, is_stopping}
use Rattle.group_core.specs.Tracks.{OnPath, braking_step_of, is_moving, line_step_of, moved_by, old_step_of, places_at}
use Rattle.buffer_modes.specs.Owners.{is_released}
use Rattle.group_core.specs.blocks.Halts.{leaves_stopping}
use Rattle.group_core.specs.declared.group.Group.{Group}
use Rattle.group_core.specs.declared.group.Motion.{Motion}
use Rattle.group_core.specs.declared.look.GroupLook.{GroupLook}
use Rattle.group_core.specs.declared.reason.Reason.{Reason}
use Rattle.group_core.proofs.Ends.{none-ends}
use Rattle.group_core.proofs.MemberLaws.{taken-path}

-- a group that has no error from a member in a cycle
pub not-failing : (members : GroupLook) (c : Core) → is_failing members c ≡ false → answered members.error c ≡ c
not-failing members c h = rw h refl

-- a group with an active command is not in GroupErrorStop
pub fits-runs : (s : GroupState) (k : BlockKind) → fits s k ≡ true → is_error_stop s ≡ false
fits-runs state.GroupErrorStop k h = absurd (cc)
fits-runs state.GroupDisabled k h = refl
fits-runs state.GroupStandby k h = refl
fits-runs state.GroupMoving k h = refl
fits-runs state.GroupHoming k h = refl
fits-runs state.GroupStopping k h = refl

pub active-runs : (limits : List Limits) (c : Core) (w : Wanted) → IsCoreKept limits c → c.group.active ≡ Some w → is_error_stop c.group.state ≡ false
active-runs limits c w k e = fits-runs c.group.state w.kind (k.active w e).fitting

-- its step
pub advanced-by : (g : Group) (m : Motion) (w : Wanted) → is_error_stop g.state ≡ false → g.active ≡ Some w → advanced g m ≡ advanced_with (Some w) m
unfolding advanced
advanced-by g m w h e = rw h (ap (λ a. advanced_with a m) e)

pub path-by : (members : GroupLook) (c : Core) (p : OnPath) (w : Wanted) → is_failing members c ≡ false → is_error_stop c.group.state ≡ false → c.path ≡ Some p → c.group.active ≡ Some w →
    path_taken members c ≡ Some (record p { motion = moved_by (step_by w.kind w p.motion) p.motion })
path-by members c p w h runs on e =
    taken-path members c p on
    ∙ ap (λ (x : Core). Some (record p { motion = (advanced x.group p.motion).motion })) (not-failing members c h)
    ∙ ap (λ (a : Advance). Some (record p { motion = a.motion })) (advanced-by c.group p.motion w runs e)

pub ending-is : (g : Group) (o : Option OnPath) (p : OnPath) (w : Wanted) → is_error_stop g.state ≡ false → o ≡ Some p → g.active ≡ Some w →
    ending_of g o ≡ ending_by w.kind p.motion (step_by w.kind w p.motion)
ending-is g o p w runs on e = ap (ending_of g) on ∙ ap (λ (a : Advance). a.ending) (advanced-by g p.motion w runs e)

-- how the command ends in the cycle
fate-ends : (o : Option Finish) (ws : List Wanted) → (ending_fate o ws).ends ≡ o
fate-ends None ws = refl
fate-ends (Some f) ws = refl

pub cycle-ends : (members : GroupLook) (c : Core) (p : OnPath) (w : Wanted) → is_failing members c ≡ false → is_error_stop c.group.state ≡ false → c.path ≡ Some p →
    c.group.active ≡ Some w → (cycle_fate members c).ends ≡ ending_by w.kind p.motion (step_by w.kind w p.motion)
unfolding cycle_fate
cycle-ends members c p w h runs on e = rw h (fate-ends (ending_of c.group c.path) c.waiting ∙ ending-is c.group c.path p w runs on e)

done-where : (b : Bool) → ((if b then Some finish.Done else None) ≡ Some finish.Done) ↔ (b ≡ true)
done-where true = (λ h. refl, λ h. refl)
done-where false = (λ h. absurd (cc), λ h. absurd (cc))

as-done : (o p : Option Finish) (b : Bool) → o ≡ p → p ≡ (if b then Some finish.Done else None) → (o ≡ Some finish.Done) ↔ (b ≡ true)
as-done o p b e f = (λ h. (done-where b).0 (sym (e ∙ f) ∙ h), λ h. (e ∙ f) ∙ (done-where b).1 h)

line-leads : (members : GroupLook) (c : Core) (p : OnPath) (w : Wanted) (k : BlockKind) → k ≡ kind.MoveLinearAbsolute →
    path_taken members c ≡ Some (record p { motion = moved_by (step_by k w p.motion) p.motion }) →
    (cycle_fate members c).ends ≡ ending_by k p.motion (step_by k w p.motion) →
    Leads (line_step_of w.rates p.motion) (is_line_done p.motion (line_step_of w.rates p.motion)) p (cycle_fate members c) (path_taken members c)
line-leads members c p w k e f g = record {
  path = subst (λ (l : BlockKind). path_taken members c ≡ Some (record p { motion = moved_by (step_by l w p.motion) p.motion })) e f;
  ends = as-done (cycle_fate members c).ends _ (is_line_done p.motion (line_step_of w.rates p.motion))
      (subst (λ (l : BlockKind). (cycle_fate members c).ends ≡ ending_by l p.motion (step_by l w p.motion)) e g) refl;
}

pub lines-lead : (members : GroupLook) (c : Core) (p : OnPath) (w : Wanted) → IsCoreKept (limits_in members) c → c.group.active ≡ Some w → w.kind ≡ kind.MoveLinearAbsolute →
    c.path ≡ Some p → is_failing members c ≡ false →
    Leads (line_step_of w.rates p.motion) (is_line_done p.motion (line_step_of w.rates p.motion)) p (cycle_fate members c) (path_taken members c)
lines-lead members c p w k e l on h =
    let runs = active-runs (limits_in members) c w k e in
    line-leads members c p w w.kind l (path-by members c p w h runs on e) (cycle-ends members c p w h runs on e)

halt-leads : (members : GroupLook) (c : Core) (p : OnPath) (w : Wanted) (k : BlockKind) → is_slowing k ≡ true →
    path_taken members c ≡ Some (record p { motion = moved_by (step_by k w p.motion) p.motion }) →
    (cycle_fate members c).ends ≡ ending_by k p.motion (step_by k w p.motion) →
    Leads (braking_step_of w.rates.d p.motion) (int_eq (braking_step_of w.rates.d p.motion) (pos 0)) p (cycle_fate members c) (path_taken members c)
halt-leads members c p w kind.GroupHalt e f g = record {
  path = f;
  ends = as-done (cycle_fate members c).ends _ (int_eq (braking_step_of w.rates.d p.motion) (pos 0)) g refl;
}
halt-leads members c p w kind.GroupStop e f g = record {
  path = f;
  ends = as-done (cycle_fate members c).ends _ (int_eq (braking_step_of w.rates.d p.motion) (pos 0)) g refl;
}
halt-leads members c p w _ e f g = absurd (cc)

pub halts-lead : (members : GroupLook) (c : Core) (p : OnPath) (w : Wanted) → IsCoreKept (limits_in members) c → c.group.active ≡ Some w → is_slowing w.kind ≡ true →
    c.path ≡ Some p → is_failing members c ≡ false →
    Leads (braking_step_of w.rates.d p.motion) (int_eq (braking_step_of w.rates.d p.motion) (pos 0)) p (cycle_fate members c) (path_taken members c)
halts-lead members c p w k e l on h =
    let runs = active-runs (limits_in members) c w k e in
    halt-leads members c p w w.kind l (path-by members c p w h runs on e) (cycle-ends members c p w h runs on e)

-- the step that brakes a path is the taken one toward 0, by the deceleration, cut to the path's
pub braking-step-is : (d : ℤ) (m : Motion) → braking_step_of d m ≡ taken_step_of m.limits m.previous m.place
    (toward_zero (old_step_of m) (int_min d m.limits.dmax))
unfolding halt_taken_of
braking-step-is d m = refl

-- in GroupErrorStop
error-step : (g : Group) (m : Motion) → is_error_stop g.state ≡ true → (advanced g m).motion ≡ moved_by (braking_step_of m.limits.dmax m) m
unfolding advanced
error-step g m h = rw h refl

pub errors-brake : (members : GroupLook) (c : Core) (p : OnPath) → c.path ≡ Some p → is_error_stop (answered members.error c).group.state ≡ true →
    path_taken members c ≡ Some (record p { motion = moved_by (braking_step_of p.motion.limits.dmax p.motion) p.motion })
errors-brake members c p on h =
    taken-path members c p on ∙ ap (λ (m : Motion). Some (record p { motion = m })) (error-step (answered members.error c).group p.motion h)

-- a refused command
pub refused-stays : (w : Wanted) (jerk : ℤ) (members : GroupLook) (c : Core) (r : Reason) → refusal_of (asked_in c w jerk members) ≡ Some r → commanded w jerk members c ≡ c
unfolding commanded
refused-stays w jerk members c r h = ap (λ o. commanded_by o members w c) h

-- where the command goes on, so does the group on its path
stays-stopping : (held : Bool) (g : Group) (p : Option OnPath) (w : Wanted) → g.active ≡ Some w → leaves_stopping held g p ≡ false
stays-stopping held g p w e =
    let none : (is_stopping g.state && not (is_some g.active)) ≡ false = ap (λ (a : Option Wanted). is_stopping g.state && not (is_some a)) e ∙ and_right (is_stopping g.state) false refl in
    ap (λ b. (b && not (is_moving p)) && is_released g.hold held) none

stays-on : (held : Bool) (c : Core) (w : Wanted) → c.group.active ≡ Some w → is_error_stop c.group.state ≡ false → over_at_rest (released held c) ≡ c
stays-on held c w e runs = rw (stays-stopping held c.group c.path w e, runs) refl

pub goes-on : (members : GroupLook) (c : Core) (p : OnPath) (w : Wanted) → is_failing members c ≡ false → is_error_stop c.group.state ≡ false → c.path ≡ Some p → c.group.active ≡ Some w →
    ending_by w.kind p.motion (step_by w.kind w p.motion) ≡ None → cycled members c ≡ record c { path = path_after c.group c.path }
unfolding cycled
goes-on members c p w h runs on e none =
    let stepped : Core = record c { path = path_after c.group c.path } in
    ap (λ (x : Core). over_at_rest (released members.stop_held (moved members x))) (not-failing members c h)
    ∙ ap (λ (x : Core). over_at_rest (released members.stop_held x))
    (none-ends members (places_at (path_after c.group c.path) members.setpoints) (ending_of c.group c.path) stepped (ending-is c.group c.path p w runs on e ∙ none))
    ∙ stays-on members.stop_held stepped w e runs
