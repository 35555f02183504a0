-- Where a move is done.
-- for: blended_moves_end_in_time, moves_are_done_at_their_targets
use Rattle.std.specs.Prelude.{◌≡◌, ◌↔◌, refl, ◌⊎◌, ℕ, Bool, true, false, ◌&&◌, ◌||◌, nat_eq, ℤ, pos, neg_ℤ, ◌+ℤ◌, ◌-ℤ◌, ◌≤ℤ◌, int_le, int_lt, Ok, Option, Some, None, List, slice_get, if◌then◌else◌}
use Rattle.std.specs.Ordering.{int_eq}
use Rattle.std.proofs.Common.{◌∙◌, sym, ap, subst, arith, inl, inr}
use Rattle.std.proofs.lemmas.Int.{ints}
use Rattle.blend_plan.specs.BlendRun.{has_crossed}
use Rattle.blend_plan.specs.BlendStep.{crosses_at}
use Rattle.blend_plan.specs.Blends.{BlendApplies, blend_applies}
use Rattle.command_pool.specs.declared.ending.Finish.{Finish}
use Rattle.command_pool.specs.declared.ending.Finish.TheVariants as finish
use Rattle.command_pool.specs.declared.rates.Rates.{Rates}
use Rattle.command_pool.specs.declared.wanted.Wanted.{Wanted}
use Rattle.axis_core.specs.Arrivals.{Crosses, IsMoveDone}
use Rattle.axis_core.specs.AxisKept.{IsCoreKept, IsRunning}
use Rattle.axis_core.specs.Cores.{Core, core_after_ending}
use Rattle.axis_core.specs.Cycles.{Advance, advance_by_progress, core_after_answer, core_after_cycle, axis_after_progress, axis_after_word, core_after_going_on, core_after_advance, progress_in_cycle, progress_by_step, core_after_step}
use Rattle.axis_core.specs.Drives.{answer_error_of, is_driven, axis_at_drive}
use Rattle.buffer_modes.specs.Fates.{Fate, goes_on, replaced}
use Rattle.axis_core.specs.Fates.{cycle_fate, ending_fate, is_blended, moved_fate}
use Rattle.axis_state.specs.States.{is_error_stop}
use Rattle.axis_core.specs.Steps.{ends_where, step_for_wish, taken_step_in}
use Rattle.axis_core.specs.blocks.Halts.{axis_after_stop}
use Rattle.axis_core.specs.blocks.Moves.{blended_with, is_crossing, is_move, move_step_with, second_move_of, stands_at_target, target_of, where_applies}
use Rattle.axis_core.specs.blocks.Power.{is_powered}
use Rattle.axis_core.specs.blocks.Reset.{reset_axis}
use Rattle.axis_core.specs.declared.axis.Axis.{Axis}
use Rattle.axis_core.specs.declared.blocks.moves.SecondMove.{SecondMove}
use Rattle.axis_core.specs.declared.look.AxisLook.{AxisLook}
use Rattle.axis_core.proofs.KeptMoves.{eq-of}
use Rattle.axis_core.proofs.ArrivalLaws.{AreAlike, active-runs, advances-by, both-true, ending-move, followed-move, given-alike, only-true, progress_at, reset-alike, still-driven, stop-alike, wish-move}
use Rattle.axis_core.proofs.Blends.{first_down, first_up}
use Rattle.axis_core.proofs.KeptRows.{Place, place-ended_by}
use Rattle.axis_core.specs.Profiles.{profile_of}

-- how a cycle goes on an axis with an active command, with the commands that wait: an error ends
-- that, or it advances
pub by-cycle : (R : Fate → Axis → List Wanted → Type 0) (look : AxisLook) (c : Core) (w : Wanted) → IsCoreKept c → c.axis.active ≡ Some w →
    ((f : Fate) (a b : Axis) (ws : List Wanted) → AreAlike a b → R f a ws → R f b ws) →
    ((n : ℕ) (a : Axis) (ws : List Wanted) → R (replaced (finish.Error n) c.axis.active None) a ws) →
    R (moved_fate look c) (core_after_advance look c).axis (core_after_advance look c).waiting →
    R (cycle_fate look c) (core_after_cycle look c).axis (core_after_cycle look c).waiting
unfolding cycle_fate core_after_cycle
by-cycle R look c w kept e alike fault moves =
    let runs = active-runs c.axis.state c.axis.driven (is_powered c.axis) c.axis.was_off c.axis.previous c.axis.setpoint c.axis.active w e kept.axis.state in
    let driven = is_driven c.axis look.input in
    let after = core_after_step look driven (core_after_answer look.input c) in
    let a = (core_after_advance look c).axis in
    let ws = (core_after_advance look c).waiting in
    let goes : R (moved_fate look c) (core_after_going_on look c).axis (core_after_going_on look c).waiting =
    alike (moved_fate look c) a (axis_after_stop look a) ws (stop-alike look a) moves in
    alike (cycle_fate look c) after.axis (axis_after_word look.input (reset_axis after.axis.reset look.input after.axis)) after.waiting
    (given-alike look.input after.axis (reset_axis after.axis.reset look.input after.axis) (reset-alike after.axis.reset look.input after.axis))
    (by (nat_eq (answer_error_of c.axis look.input) 0) refl runs.0 runs.1 goes _)
  where
    by : (b : Bool) → nat_eq (answer_error_of c.axis look.input) 0 ≡ b → is_error_stop c.axis.state ≡ false → IsRunning c.axis.driven (is_powered c.axis) →
        R (moved_fate look c) (core_after_going_on look c).axis (core_after_going_on look c).waiting → (failed : Core) →
        R (if b then (if is_driven c.axis look.input && c.axis.driven then moved_fate look c else goes_on) else replaced (finish.Error (answer_error_of c.axis look.input)) c.axis.active None)
        (core_after_step look (is_driven c.axis look.input) (if b then c else failed)).axis
        (core_after_step look (is_driven c.axis look.input) (if b then c else failed)).waiting
    by true h s r goes failed =
        only-true (is_driven c.axis look.input && c.axis.driven) (moved_fate look c) goes_on (core_after_going_on look c) (record c { axis = axis_at_drive (is_driven c.axis look.input) look.input c.axis })
        (λ (f : Fate) (d : Core). R f d.axis d.waiting) (still-driven c.axis look.input s r h) goes
    by false h s r goes failed = fault (answer_error_of c.axis look.input) _ _

-- a blend applies exactly where the test of it holds
abbrev pub IsTested : Type 0
IsTested = (first second before now : ℤ) → (blend_applies first second before now ≡ true) ↔ BlendApplies first second before now

pub where-applies : (b : Bool) (s t : SecondMove) → (if b then Some s else None) ≡ Some t → (b ≡ true) × (s ≡ t)
where-applies true s t h = (refl, (let same : s ≡ t = cc in same))
where-applies false s t h = absurd (cc)

second-applies : (a : Axis) (target : ℤ) (o : Option SecondMove) (s : SecondMove) → where_applies a target o ≡ Some s → blend_applies target s.target a.previous a.setpoint ≡ true
second-applies a target None s h = absurd (cc)
second-applies a target (Some t) s h =
    let p = where-applies (blend_applies target t.target a.previous a.setpoint) t s h in
    let P : SecondMove → Type 0 = λ x. blend_applies target x.target a.previous a.setpoint ≡ true in subst P p.1 p.0

-- a blend into a second move applies
blend-applies : (a : Axis) (w : Wanted) (next : Option Wanted) (s : SecondMove) → blended_with a w next ≡ Some s → blend_applies (target_of w) s.target a.previous a.setpoint ≡ true
unfolding blended_with
blend-applies a w next s h = second-applies a (target_of w) (second_move_of w next) s h

-- a step that crosses upward
crosses-up : (first second now step v : ℤ) (rates : Rates) → pos 0 ≤ℤ (first -ℤ now) → crosses_at (first -ℤ now) (second -ℤ now) rates v step ≡ true →
    Crosses v first now (now +ℤ step)
crosses-up first second now step v rates ahead h =
    let p = both-true (int_le step v && int_le (first -ℤ now) step) _ h in
    let q = both-true (int_le step v) (int_le (first -ℤ now) step) p.0 in
    let slow = q.0 in
    let far = q.1 in
    record { speed = omega (arith, ints); between = inl (omega (arith, ints), omega (arith, ints)) }

-- and downward
crosses-down : (first second now step v : ℤ) (rates : Rates) → pos 0 ≤ℤ (now -ℤ first) → crosses_at (now -ℤ first) (now -ℤ second) rates v (neg_ℤ step) ≡ true →
    Crosses v first now (now +ℤ step)
crosses-down first second now step v rates ahead h =
    let p = both-true (int_le (neg_ℤ step) v && int_le (now -ℤ first) (neg_ℤ step)) _ h in
    let q = both-true (int_le (neg_ℤ step) v) (int_le (now -ℤ first) (neg_ℤ step)) p.0 in
    let slow = q.0 in
    let far = q.1 in
    record { speed = omega (arith, ints); between = inr (omega (arith, ints), omega (arith, ints)) }

-- a crossing step crosses
crosses-of : (first second before now step v : ℤ) (rates : Rates) → BlendApplies first second before now → has_crossed first second now rates v step ≡ true →
    Crosses v first now (now +ℤ step)
unfolding has_crossed
crosses-of first second before now step v rates applies h = by (int_lt first second) refl h
  where
    by : (b : Bool) → int_lt first second ≡ b →
        (if b then crosses_at (first -ℤ now) (second -ℤ now) rates v step else crosses_at (now -ℤ first) (now -ℤ second) rates v (neg_ℤ step)) ≡ true →
        Crosses v first now (now +ℤ step)
    by true up g = crosses-up first second now step v rates (first_up first second before now applies (omega (arith, ints, up))).first g
    by false down g = crosses-down first second now step v rates (first_down first second before now applies (omega (arith, ints, down))).first g

or-cases : (x y : Bool) → (x || y) ≡ true → (x ≡ true) ⊎ (y ≡ true)
or-cases true y h = inl refl
or-cases false y h = inr h

-- a move that stands at its target
rests : (a b : Axis) (w : Wanted) (step : ℤ) → stands_at_target a w step ≡ true → b.setpoint ≡ a.setpoint +ℤ step → b.previous ≡ a.setpoint →
    (b.setpoint ≡ target_of w) × (b.previous ≡ target_of w)
rests a b w step h s p =
    let q = both-true (int_eq step (pos 0)) (int_eq (a.setpoint +ℤ step) (target_of w)) h in
    let there = eq-of (a.setpoint +ℤ step) (target_of w) q.1 in
    let zero : step ≡ pos 0 = eq-of step (pos 0) q.0 in
    (s ∙ there, p ∙ (let e : a.setpoint ≡ a.setpoint +ℤ step = omega (arith, ints, zero) in e) ∙ there)

-- where the step of a move ends it
done-by : (a b : Axis) (w : Wanted) (step : ℤ) (o : Option SecondMove) → ((s : SecondMove) → o ≡ Some s → BlendApplies (target_of w) s.target a.previous a.setpoint) →
    (is_crossing o a w step || stands_at_target a w step) ≡ true → b.setpoint ≡ a.setpoint +ℤ step → b.previous ≡ a.setpoint →
    IsMoveDone o (target_of w) a.setpoint b
done-by a b w step None applies h s p = rests a b w step h s p
done-by a b w step (Some x) applies h s p = by (or-cases (is_crossing (Some x) a w step) _ h)
  where
    by : (is_crossing (Some x) a w step ≡ true) ⊎ (stands_at_target a w step ≡ true) →
        Crosses x.velocity (target_of w) a.setpoint b.setpoint ⊎ ((b.setpoint ≡ target_of w) × (b.previous ≡ target_of w))
    by (inl g) = inl (let P : ℤ → Type 0 = Crosses x.velocity (target_of w) a.setpoint in subst P (sym s) (crosses-of (target_of w) x.target a.previous a.setpoint step x.velocity x.rates (applies x refl) g))
    by (inr g) = inr (rests a b w step g s p)

done-alike : (o : Option SecondMove) (target before : ℤ) (a b : Axis) → AreAlike a b → IsMoveDone o target before a → IsMoveDone o target before b
done-alike None target before a b s h = (s.setpoint ∙ h.0, s.previous ∙ h.1)
done-alike (Some x) target before a b s (inl h) = inl (let P : ℤ → Type 0 = Crosses x.velocity target before in subst P (sym s.setpoint) h)
done-alike (Some x) target before a b s (inr h) = inr (s.setpoint ∙ h.0, s.previous ∙ h.1)

-- what a move's end says, where it is Done
abbrev EndsDone : Option SecondMove → ℤ → ℤ → Fate → Axis → Type 0
EndsDone o target before f a = f.ends ≡ Some finish.Done → IsMoveDone o target before a

ending-done : (b blends : Bool) (o : Option SecondMove) (target before : ℤ) (ws : List Wanted) (c : Core) →
    (b ≡ true → IsMoveDone o target before c.axis) → EndsDone o target before (ending_fate blends (ends_where b finish.Done) ws c.axis) (core_after_ending (ends_where b finish.Done) c).axis
ending-done true blends o target before ws c h g =
    let place = place-ended_by (Some finish.Done) c in
    done-place o target before c.axis _ (ap (λ (p : Place). p.setpoint) place) (ap (λ (p : Place). p.previous) place) (h refl)
  where
    done-place : (o : Option SecondMove) (target before : ℤ) (a b : Axis) → b.setpoint ≡ a.setpoint → b.previous ≡ a.previous → IsMoveDone o target before a → IsMoveDone o target before b
    done-place None target before a b s p h = (s ∙ h.0, p ∙ h.1)
    done-place (Some x) target before a b s p (inl h) = inl (let P : ℤ → Type 0 = Crosses x.velocity target before in subst P (sym s) h)
    done-place (Some x) target before a b s p (inr h) = inr (s ∙ h.0, p ∙ h.1)
ending-done false blends o target before ws c h g = absurd (cc)

-- a move takes the step that it wants
pub takes-step : (a : Axis) (w : Wanted) (next : Option Wanted) (look : AxisLook) → is_move w.kind ≡ true →
    progress_in_cycle a w next look ≡ Ok (progress_at a w next look (taken_step_in a (move_step_with (blended_with a w next) a w)))
takes-step a w next look h = ap (λ o. progress_by_step a w next look (step_for_wish a o)) (wish-move (profile_of w.kind).manner a w next look h)

moved-done : IsTested → (look : AxisLook) (c : Core) (w : Wanted) → c.axis.active ≡ Some w → is_move w.kind ≡ true → is_error_stop c.axis.state ≡ false →
    EndsDone (blended_with c.axis w (slice_get c.waiting 0)) (target_of w) c.axis.setpoint (moved_fate look c) (core_after_advance look c).axis
moved-done tested look c w e kind runs =
    let a = c.axis in
    let next = slice_get c.waiting 0 in
    let o = blended_with a w next in
    let step = taken_step_in a (move_step_with o a w) in
    let p = progress_at a w next look step in
    let b = axis_after_progress w.kind (target_of w) p a in
    let alike = followed-move w.kind (target_of w) p a kind in
    let is = advances-by a w next look runs e ∙ ap (advance_by_progress w.kind (target_of w) a) (takes-step a w next look kind) in
    let blends = is_blended c.axis.active c in
    let P : Advance → Type 0 = λ s. EndsDone o (target_of w) a.setpoint (ending_fate blends s.ending c.waiting s.axis) (core_after_ending s.ending (record c { axis = s.axis })).axis in
    let Q : Option Finish → Type 0 = λ f. P (record { axis = b; ending = f }) in
    subst P (sym is) (subst Q (sym (ending-move w.kind a w next step look kind))
    (ending-done (is_crossing o a w step || stands_at_target a w step) blends o (target_of w) a.setpoint c.waiting (record c { axis = b })
    (λ h. done-by a b w step o (λ s g. (tested (target_of w) s.target a.previous a.setpoint).0 (blend-applies a w next s g)) h alike.setpoint alike.previous)))

-- a move is done at its target, or, where it is blended, by a step that crosses it
pub move-done : IsTested → (look : AxisLook) (c : Core) (w : Wanted) → IsCoreKept c → c.axis.active ≡ Some w → is_move w.kind ≡ true → (cycle_fate look c).ends ≡ Some finish.Done →
    IsMoveDone (blended_with c.axis w (slice_get c.waiting 0)) (target_of w) c.axis.setpoint (core_after_cycle look c).axis
move-done tested look c w kept e kind =
    let runs = (active-runs c.axis.state c.axis.driven (is_powered c.axis) c.axis.was_off c.axis.previous c.axis.setpoint c.axis.active w e kept.axis.state).0 in
    by-cycle (λ f a ws. EndsDone (blended_with c.axis w (slice_get c.waiting 0)) (target_of w) c.axis.setpoint f a) look c w kept e
    (λ f a b ws s h g. done-alike (blended_with c.axis w (slice_get c.waiting 0)) (target_of w) c.axis.setpoint a b s (h g))
    (λ n a ws. faulted n a c.axis.active) (moved-done tested look c w e kind runs)
  where
    faulted : (n : ℕ) (a : Axis) (active : Option Wanted) → (replaced (finish.Error n) active None).ends ≡ Some finish.Done → IsMoveDone (blended_with c.axis w (slice_get c.waiting 0)) (target_of w) c.axis.setpoint a
    faulted n a None g = absurd (cc)
    faulted n a (Some v) g = absurd (cc)
