-- What is under way on an axis is carried on by every event of the axis.
-- for: machines_can_stand, moves_arrive_in_time, paths_end_in_time and others
use Rattle.std.specs.Prelude.{◌≡◌, refl, ℕ, Bool, true, Option, Some, None, List, [], map, slice_get}
use Rattle.std.proofs.Common.{arith, sym, subst, ◌∙◌}
use Rattle.axis_core.specs.Arrivals.{Carried, Course, GoesOn, IsMoveDone, IsUnderWay, bound_of, course_of, turn_of}
use Rattle.axis_core.specs.AxisKept.{IsCoreKept}
use Rattle.axis_core.specs.Blended.{BlendingCarried, BlendingGoesOn, HasStep, IsBlended, IsBlending, cycles_of_blend, cycles_to_cross}
use Rattle.axis_core.specs.Calls.{axis_without_owner, core_after_command, core_after_power}
use Rattle.axis_core.specs.Cores as cores
use Rattle.axis_core.specs.Cycles.{core_after_cycle}
use Rattle.buffer_modes.specs.Fates.{Fate, IsFate, goes_on}
use Rattle.axis_core.specs.Fates.{command_fate, cycle_fate, power_fate}
use Rattle.axis_core.specs.Owners.{core_without_owner}
use Rattle.axis_core.specs.Refusals.{Asked}
use Rattle.axis_core.specs.blocks.Moves.{blended_with, is_move, target_of}
use Rattle.axis_core.specs.blocks.Path.{axis_on_path}
use Rattle.axis_core.specs.declared.axis.Axis.{Axis}
use Rattle.axis_core.specs.declared.blocks.moves.SecondMove.{SecondMove}
use Rattle.axis_core.specs.declared.look.AxisLook.{AxisLook}
use Rattle.buffer_modes.specs.Owners.{IsSame}
use Rattle.command_changes.specs.Fates.{AreAxisFates}
use Rattle.command_pool.specs.Waiting.{detached}
use Rattle.command_pool.specs.declared.ending.Finish.TheVariants as finish
use Rattle.command_pool.specs.declared.wanted.Wanted.{Wanted}
use Rattle.motion_kernel.proofs.kept.Machine.{MachinesStayKept}
use Rattle.motion_laws.proofs.walk.AxisCalls.{AnyAsked, IsByFate, path_led}

-- axis_core's courses_end_in_time
pub record CoursesEnd : Type 0 where
  pub begins : (course : Course) (c : cores.Core) (w : Wanted) → IsCoreKept c →
      c.axis.active ≡ Some w → course_of w ≡ Some course →
      IsUnderWay (bound_of course c.axis) course c.axis
  pub command : (n : ℕ) (course : Course) (q : Asked) (c : cores.Core) →
      IsUnderWay n course c.axis →
      Carried n 0 course (turn_of (command_fate q c)) (core_after_command q c).axis
  pub power : (n : ℕ) (course : Course) (enable : Bool) (c : cores.Core) →
      IsUnderWay n course c.axis →
      Carried n 0 course (turn_of (power_fate enable c)) (core_after_power enable c).axis
  pub detach : (n : ℕ) (course : Course) (owner : ℕ) (a : Axis) → IsUnderWay n course a →
      IsUnderWay n course (axis_without_owner owner a)
  pub cycle : (n : ℕ) (course : Course) (look : AxisLook) (c : cores.Core) → IsCoreKept c →
      IsUnderWay n course c.axis →
      Carried n 1 course (turn_of (cycle_fate look c)) (core_after_cycle look c).axis

-- axis_core's moves_are_done_at_their_targets
abbrev pub MovesAreDone : Type 0
MovesAreDone = (look : AxisLook) (c : cores.Core) (w : Wanted) → IsCoreKept c →
    c.axis.active ≡ Some w → is_move w.kind ≡ true →
    (cycle_fate look c).ends ≡ Some finish.Done →
    IsMoveDone (blended_with c.axis w (slice_get c.waiting 0)) (target_of w) c.axis.setpoint
    (core_after_cycle look c).axis

-- axis_core's blended_moves_end_in_time
pub record BlendsEnd : Type 0 where
  pub crosses : (c : cores.Core) (w : Wanted) (second : SecondMove) → IsCoreKept c →
      IsBlended w second c.axis c.waiting → HasStep w second c.axis →
      IsBlending (cycles_to_cross w c.axis) c.axis c.waiting
  pub ends : (c : cores.Core) (w : Wanted) (second : SecondMove) → IsCoreKept c →
      IsBlended w second c.axis c.waiting → IsBlending (cycles_of_blend w c.axis) c.axis c.waiting
  pub command : (n : ℕ) (q : Asked) (c : cores.Core) → IsBlending n c.axis c.waiting →
      BlendingCarried n 0 (command_fate q c).ends (core_after_command q c).axis
      (core_after_command q c).waiting
  pub power : (n : ℕ) (enable : Bool) (c : cores.Core) → IsBlending n c.axis c.waiting →
      BlendingCarried n 0 (power_fate enable c).ends (core_after_power enable c).axis
      (core_after_power enable c).waiting
  pub detach : (n owner : ℕ) (c : cores.Core) → IsBlending n c.axis c.waiting →
      IsBlending n (core_without_owner owner c).axis (core_without_owner owner c).waiting
  pub cycle : (n : ℕ) (look : AxisLook) (c : cores.Core) → IsCoreKept c →
      IsBlending n c.axis c.waiting →
      BlendingCarried n 1 (cycle_fate look c).ends (core_after_cycle look c).axis
      (core_after_cycle look c).waiting

-- the laws on which it rests that moves arrive
pub record ArrivalLaws : Type 0 where
  pub machines : MachinesStayKept
  pub fates : AreAxisFates
  pub courses : CoursesEnd
  pub blends : BlendsEnd
  pub moves : MovesAreDone

-- commands that are the same one after another
pub same_again : (a b c : Option Wanted) → IsSame a b → IsSame b c → IsSame a c
same_again None None c h k = k
same_again None (Some v) c h k = elim h [ ]
same_again (Some w) None c h k = elim h [ ]
same_again (Some w) (Some v) None h k = elim k [ ]
same_again (Some w) (Some v) (Some u) h k = k ∙ h

pub as_it_is : (o : Option Wanted) → IsSame o o
as_it_is None = tt
as_it_is (Some w) = refl

pub nothing_before : (a b : Option Wanted) → IsSame a b → a ≡ None → b ≡ None
nothing_before None None h e = refl
nothing_before None (Some v) h e = elim h [ ]
nothing_before (Some w) b h e = absurd (cc)

-- the fate of every event of an axis is what its active command shows
pub stays : (before now : Option Wanted) → IsSame before now → IsFate goes_on before now
stays before now h = record {
  begins = λ w e. absurd (cc);
  ends = λ d e. absurd (d refl);
  goes_on = λ e f. h;
  was = λ d. absurd (d refl);
}

pub chained : (f : Fate) (a b c : Option Wanted) → IsSame a b → IsFate f b c → IsFate f a c
chained f a b c s h = record {
  begins = h.begins;
  ends = h.ends;
  goes_on = λ x y. same_again a b c s (h.goes_on x y);
  was = λ d e. h.was d (nothing_before a b s e);
}

pub fates_by : ArrivalLaws → (a : Axis) (ws : List Wanted) →
    IsByFate AnyAsked a ws (λ f x us. IsFate f a.active x.active)
fates_by laws a ws = record {
  rests = stays a.active a.active (as_it_is a.active);
  led = λ owner on. path_led (λ x. IsFate goes_on a.active x.active)
      (λ on x h. subst (IsFate goes_on a.active) (sym (laws.fates.path on x)) h) on
      (axis_without_owner owner a)
      (stays a.active (axis_without_owner owner a).active (laws.fates.detach owner a));
  detach = λ owner. stays a.active (axis_without_owner owner a).active (laws.fates.detach owner a);
  power = λ enable c e _. subst
      (λ (x : Axis). IsFate (power_fate enable c) x.active (core_after_power enable c).axis.active)
      e (laws.fates.power enable c).shown;
  command = λ owner q c e _ _.
      let same = subst (λ (x : Axis). IsSame a.active x.active) (sym e)
      (laws.fates.detach owner a) in
      chained (command_fate q c) a.active c.axis.active (core_after_command q c).axis.active same
      (laws.fates.command q c).shown;
}

-- a command that is under way is carried on by every event of its axis
pub on_it : (n : ℕ) (course : Course) (a : Axis) → IsUnderWay n course a → GoesOn n 0 course a
on_it n course a h = record { left = n; sum = omega arith; under_way = h }

led_on : (n : ℕ) (course : Course) (on : Bool) (a : Axis) → IsUnderWay n course a →
    IsUnderWay n course (axis_on_path on a)
unfolding axis_on_path
led_on n course on a h = record {
  command = h.command;
  active = h.active;
  leads = h.leads;
  run =
      h.run;
}

pub carried_by : ArrivalLaws → (n : ℕ) (course : Course) (a : Axis) (ws : List Wanted) →
    IsUnderWay n course a → IsByFate AnyAsked a ws (λ f x us. Carried n 0 course (turn_of f) x)
carried_by laws n course a ws h = record {
  rests = on_it n course a h;
  led = λ owner on. path_led (GoesOn n 0 course)
      (λ on x g. record {
        left = g.left;
        sum = g.sum;
        under_way = led_on g.left course on x g.under_way;
      }) on (axis_without_owner owner a)
      (on_it n course (axis_without_owner owner a) (laws.courses.detach n course owner a h));
  detach = λ owner. on_it n course (axis_without_owner owner a)
      (laws.courses.detach n course owner a h);
  power = λ enable c e _. laws.courses.power n course enable c
      (subst (IsUnderWay n course) (sym e) h);
  command = λ owner q c e _ _. laws.courses.command n course q c
      (subst (IsUnderWay n course) (sym e) (laws.courses.detach n course owner a h));
}

-- so is a blended move, with the one after it
pub blend_on_it : (n : ℕ) (a : Axis) (ws : List Wanted) → IsBlending n a ws → BlendingGoesOn n 0 a ws
blend_on_it n a ws h = record { left = n; sum = omega arith; under_way = h }

blend_led_on : (n : ℕ) (on : Bool) (a : Axis) (ws : List Wanted) → IsBlending n a ws →
    IsBlending n (axis_on_path on a) ws
unfolding axis_on_path
blend_led_on n on a ws h = record {
  first = h.first;
  second = h.second;
  active = h.active;
  move = h.move;
  next = h.next;
  run = h.run;
}

pub blended_by : ArrivalLaws → (n : ℕ) (a : Axis) (ws : List Wanted) → IsBlending n a ws →
    IsByFate AnyAsked a ws (λ f x us. BlendingCarried n 0 f.ends x us)
blended_by laws n a ws h =
    let freed : (owner : ℕ) → IsBlending n (axis_without_owner owner a) (map (detached owner) ws) =
    λ owner. laws.blends.detach n owner (record { axis = a; waiting = ws; notes = [] }) h in
    record {
      rests = blend_on_it n a ws h;
      led = λ owner on. path_led (λ x. BlendingGoesOn n 0 x (map (detached owner) ws))
          (λ on x g. record {
            left = g.left;
            sum = g.sum;
            under_way = blend_led_on g.left on x (map (detached owner) ws) g.under_way;
          }) on (axis_without_owner owner a)
          (blend_on_it n (axis_without_owner owner a) (map (detached owner) ws) (freed owner));
      detach = λ owner. blend_on_it n (axis_without_owner owner a) (map (detached owner) ws)
          (freed owner);
      power = λ enable c e w. laws.blends.power n enable c
          (subst (IsBlending n c.axis) (sym w) (subst (λ x. IsBlending n x ws) (sym e) h));
      command = λ owner q c e w _. laws.blends.command n q c
          (subst (IsBlending n c.axis) (sym w)
          (subst (λ x. IsBlending n x (map (detached owner) ws)) (sym e) (freed owner)));
    }
