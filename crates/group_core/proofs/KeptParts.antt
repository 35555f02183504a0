-- What the parts of a group keep: lines that begin, steps along a path, and what a state says.
-- for: power_off, reset_cycle, detach and others
use Rattle.std.specs.Prelude.{◌≡◌, refl, ℕ, ◌≤◌, ◌-◌, Bool, true, false, ℤ, pos, ◌≤ℤ◌, ◌+ℤ◌, ◌-ℤ◌, unsigned_abs, Option, Some, None, List}
use Rattle.std.proofs.Common.{◌∙◌, sym, ap, subst, arith, inl, inr}
use Rattle.std.proofs.lemmas.Bool.{cases_lt}
use Rattle.std.proofs.lemmas.Int.{ints}
use Rattle.plc_types.specs.declared.kind.BlockKind.{BlockKind}
use Rattle.plc_types.specs.declared.kind.BlockKind.TheVariants as kind
use Rattle.command_pool.specs.declared.wanted.Wanted.{Wanted}
use Rattle.plc_types.specs.Limits.{AreLimits}
use Rattle.kin_core.specs.Admissible.{IsKept}
use Rattle.kin_core.specs.Taken.{taken_step_of}
use Rattle.kin_core.specs.Toward.{toward_zero}
use Rattle.plc_types.specs.declared.limits.Limits.{Limits}
use Rattle.linear_path.specs.Line.{AreInRange, coordinate_of}
use Rattle.linear_path.proofs.LineIsPath.{line_limits_from, line_limits_in_range, line_limits_to}
use Rattle.linear_path.specs.Path.{AreAxesLimits, limits_at}
use Rattle.motion_numbers.specs.Ranges.{IsPlace}
use Rattle.trapezoid_plan.specs.MoveRun.{halt_taken_of, move_taken_of}
use Rattle.group_core.specs.Cycles.{advanced, advanced_with}
use Rattle.group_core.specs.GroupKept.{AreGroupLimits, AreTargets, IsCount, IsPathOf, IsWithin}
use Rattle.group_core.specs.Kinds.{step_by}
use Rattle.group_core.specs.Lines.{MayBeginLine}
use Rattle.group_core.specs.Refusals.{limits_in}
use Rattle.group_core.specs.States.{is_error_stop}
use Rattle.group_core.specs.Stepping.{IsStepping}
use Rattle.group_core.specs.Tracks.{OnPath, beginning, limits_on, moved_by}
use Rattle.group_core.specs.declared.group.Group.{Group}
use Rattle.group_core.specs.declared.group.Motion.{Motion}
use Rattle.group_core.specs.declared.look.GroupLook.{GroupLook}

-- an axis that stands within its limits is kept
abbrev pub Standing : Type 0
Standing = (limits : Limits) (place : ℤ) → AreLimits limits → limits.lo ≤ℤ place → place ≤ℤ limits.hi → IsKept limits place place

-- the laws of the steps of an axis that a path rests on
pub record Laws : Type 0 where
  pub standing : Standing
  pub taken : (limits : Limits) (before now wanted : ℤ) → AreLimits limits → IsKept limits before now →
      IsKept limits now (now +ℤ taken_step_of limits before now wanted)
  pub slower : (limits : Limits) (before now d : ℤ) → AreLimits limits → IsKept limits before now → pos 0 ≤ℤ d → d ≤ℤ limits.dmax →
      unsigned_abs (taken_step_of limits before now (toward_zero (now -ℤ before) d)) ≤ unsigned_abs (now -ℤ before) - unsigned_abs d

-- setpoints and targets within the limits of their axes are in the range of places
place-in : (l : Limits) (z : ℤ) → AreLimits l → l.hi ≤ℤ pos 1000000000000000 → IsWithin l z → IsPlace z
place-in l z are top within = omega (arith, ints)

place-none : (z : ℤ) → z ≡ pos 0 → IsPlace z
place-none z e = omega (arith, ints, e)

pub targets-in-range : (axes : ℕ) (limits : List Limits) (targets : List ℤ) → AreGroupLimits axes limits → AreTargets axes limits targets → AreInRange targets
targets-in-range axes limits targets are t = λ axis. elim (cases_lt axis axes) [
  | inl within ↦ place-in (limits_at limits axis) (coordinate_of targets axis) (are.each.each axis within).ranges (are.top axis within) (t.within axis within)
  | inr behind ↦ place-none (coordinate_of targets axis) (t.others axis behind)
]

-- a line may begin whose starts and targets are within the limits
pub line-may-begin : (axes : ℕ) (members : GroupLook) (starts targets : List ℤ) → members.count ≡ axes → IsCount axes → AreGroupLimits axes (limits_in members) →
    AreTargets axes (limits_in members) starts → AreTargets axes (limits_in members) targets → MayBeginLine members starts targets
line-may-begin axes members starts targets e count are s t = record {
  count = subst IsCount (sym e) count;
  limits = subst (λ n. AreAxesLimits n (limits_in members)) (sym e) are.each;
  starts_in_range = targets-in-range axes (limits_in members) starts are s;
  targets_in_range = targets-in-range axes (limits_in members) targets are t;
}

-- the limits of a path are limits from place 0 to its length
pub limits-of-path : (axes : ℕ) (limits : List Limits) (p : OnPath) → AreGroupLimits axes limits → IsPathOf axes limits p → AreLimits p.motion.limits
limits-of-path axes limits p are k =
    let counted : AreAxesLimits p.way.count limits = subst (λ n. AreAxesLimits n limits) (sym k.count) are.each in
    subst AreLimits (sym k.limits_are) (line_limits_in_range p.way.count p.way.starts p.way.targets k.starts k.targets limits counted)

pub stepping-of : (axes : ℕ) (limits : List Limits) (p : OnPath) → IsCount axes → AreGroupLimits axes limits → IsPathOf axes limits p → IsStepping p
stepping-of axes limits p count are k = record {
  axes = subst (λ n. n ≤ 6) (sym k.count) count.most;
  length = ap (λ (l : Limits). l.hi) k.limits_are ∙ line_limits_to p.way.count p.way.starts p.way.targets limits;
  motion = record {
    limits = limits-of-path axes limits p are k;
    from = ap (λ (l : Limits). l.lo) k.limits_are ∙ line_limits_from p.way.count p.way.starts p.way.targets limits;
    kept = k.kept;
  };
}

-- the start of a line is a path of its axes
pub beginning-kept : Standing → (axes count : ℕ) (limits : List Limits) (starts targets : List ℤ) → count ≡ axes → AreGroupLimits axes limits →
    AreTargets axes limits starts → AreTargets axes limits targets →
    IsPathOf axes limits (beginning (record { count = count; starts = starts; targets = targets }) limits)
beginning-kept standing axes count limits starts targets e are s t =
    let counted : AreAxesLimits count limits = subst (λ n. AreAxesLimits n limits) (sym e) are.each in
    let starts-in = targets-in-range axes limits starts are s in
    let targets-in = targets-in-range axes limits targets are t in
    let l = line_limits_in_range count starts targets starts-in targets-in limits counted in
    let from = line_limits_from count starts targets limits in
    let ordered = l.ordered in
    record {
      count = e;
      starts = starts-in;
      targets = targets-in;
      within = λ axis within. record {
        start_above = (s.within axis within).above;
        start_below = (s.within axis within).below;
        target_above = (t.within axis within).above;
        target_below = (t.within axis within).below;
      };
      limits_are = refl;
      from = omega (arith, ints);
      to = omega (arith, ints, from, ordered);
      kept = standing (limits_on (record { count = count; starts = starts; targets = targets }) limits) (pos 0) l (omega (arith, ints, from)) (omega (arith, ints, from, ordered));
    }

-- a step along a path is a taken one
pub record IsTaken (m after : Motion) : Type 0 where
  pub wanted : ℤ
  pub is : after ≡ moved_by (taken_step_of m.limits m.previous m.place wanted) m

taken-by : (k : BlockKind) (w : Wanted) (m : Motion) → IsTaken m (moved_by (step_by k w m) m)
unfolding move_taken_of halt_taken_of
taken-by kind.MoveLinearAbsolute w m = record { wanted = _; is = refl }
taken-by _ w m = record { wanted = _; is = refl }

taken-with : (active : Option Wanted) (m : Motion) → IsTaken m (advanced_with active m).motion
taken-with None m = record { wanted = _; is = refl }
taken-with (Some w) m = taken-by w.kind w m

taken-where : (stopped : Bool) (g : Group) (m : Motion) → is_error_stop g.state ≡ stopped → IsTaken m (advanced g m).motion
unfolding advanced halt_taken_of
taken-where true g m h = rw h (record { wanted = _; is = refl })
taken-where false g m h = rw h (taken-with g.active m)

pub is-taken : (g : Group) (m : Motion) → IsTaken m (advanced g m).motion
is-taken g m = taken-where (is_error_stop g.state) g m refl

-- it keeps the path
motion-kept : Laws → (m after : Motion) → AreLimits m.limits → IsKept m.limits m.previous m.place → IsTaken m after → IsKept after.limits after.previous after.place
motion-kept laws m after are k t =
    subst (λ (n : Motion). IsKept n.limits n.previous n.place) (sym t.is) (laws.taken m.limits m.previous m.place t.wanted are k)

-- the place before a taken step was one of the path
before-from : (m after : Motion) → m.limits.lo ≡ pos 0 → IsKept m.limits m.previous m.place → IsTaken m after → pos 0 ≤ℤ after.previous
before-from m after lo k t =
    let e : after.previous ≡ m.place = ap (λ (n : Motion). n.previous) t.is in
    let above = k.above in
    omega (arith, ints, e, above, lo)

before-to : (m after : Motion) → IsKept m.limits m.previous m.place → IsTaken m after → after.previous ≤ℤ after.limits.hi
before-to m after k t =
    let e : after.previous ≡ m.place = ap (λ (n : Motion). n.previous) t.is in
    let l : after.limits.hi ≡ m.limits.hi = ap (λ (n : Motion). n.limits.hi) t.is in
    let below = k.below in
    omega (arith, ints, e, l, below)

pub path-kept : Laws → (axes : ℕ) (limits : List Limits) (g : Group) (p : OnPath) → AreGroupLimits axes limits → IsPathOf axes limits p →
    IsPathOf axes limits (record p { motion = (advanced g p.motion).motion })
path-kept laws axes limits g p are k =
    let t = is-taken g p.motion in
    let lo : p.motion.limits.lo ≡ pos 0 = ap (λ (l : Limits). l.lo) k.limits_are ∙ line_limits_from p.way.count p.way.starts p.way.targets limits in
    record {
      count = k.count;
      starts = k.starts;
      targets = k.targets;
      within = k.within;
      limits_are = ap (λ (m : Motion). m.limits) t.is ∙ k.limits_are;
      from = before-from p.motion (advanced g p.motion).motion lo k.kept t;
      to = before-to p.motion (advanced g p.motion).motion k.kept t;
      kept = motion-kept laws p.motion (advanced g p.motion).motion (limits-of-path axes limits p are k) k.kept t;
    }
