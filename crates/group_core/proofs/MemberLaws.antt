-- The axes of a group keep their limits along its path.
-- for: members_keep_their_limits, courses_end_in_time, paths_go_on_by_their_steps and others
use Rattle.std.specs.Prelude.{◌≡◌, refl, ℕ, ◌<◌, not, ◌&&◌, nat_eq, ℤ, pos, ◌≤ℤ◌, Option, Some, List}
use Rattle.std.proofs.Common.{◌∙◌, sym, ap, subst, arith}
use Rattle.std.proofs.lemmas.Int.{ints}
use Rattle.plc_types.specs.Limits.{AreLimits}
use Rattle.kin_core.specs.Admissible.{IsKept, IsSafe, IsTakenStep}
use Rattle.kin_core.specs.Taken.{taken_step_of}
use Rattle.plc_types.specs.declared.limits.Limits.{Limits}
use Rattle.linear_path.specs.Line.{AreInRange, coordinate_of}
use Rattle.linear_path.proofs.LineIsPath.{line_limits_from, line_limits_to}
use Rattle.linear_path.specs.Path.{AreAxesLimits, AreWithin, limits_at}
use Rattle.group_core.specs.Cores.{Core, failed}
use Rattle.group_core.specs.Cycles.{advanced, answered, path_after, path_taken, step_of}
use Rattle.group_core.specs.GroupKept.{AreGroupLimits, IsCoreKept, IsCount, IsLook, IsPathOf}
use Rattle.group_core.specs.Members.{TakesSafely}
use Rattle.group_core.specs.Refusals.{limits_in}
use Rattle.group_core.specs.States.{may_fail}
use Rattle.group_core.specs.Tracks.{OnPath, Way, length_of, limits_on, place_on, places_at}
use Rattle.group_core.specs.declared.group.Motion.{Motion}
use Rattle.group_core.specs.declared.look.GroupLook.{GroupLook}
use Rattle.group_core.proofs.KeptCalls.{by-if}
use Rattle.group_core.proofs.KeptParts.{IsTaken, is-taken, limits-of-path}
use Rattle.group_core.proofs.Places.{place-of-axis}

-- a step along any path is safe for each of its axes
abbrev pub SafeAlong : Type 0
SafeAlong = (w : Way) (limits : List Limits) (axis : ℕ) (before now next : ℤ) → IsCount w.count → AreInRange w.starts → AreInRange w.targets →
    AreAxesLimits w.count limits → axis < w.count → AreWithin (limits_at limits axis) (coordinate_of w.starts axis) (coordinate_of w.targets axis) →
    pos 0 ≤ℤ before → before ≤ℤ pos (length_of w) → pos 0 ≤ℤ now → now ≤ℤ pos (length_of w) → IsSafe (limits_on w limits) before now next →
    IsSafe (limits_at limits axis) (place_on w axis before) (place_on w axis now) (place_on w axis next)

abbrev pub KeptAlong : Type 0
KeptAlong = (w : Way) (limits : List Limits) (axis : ℕ) (before now : ℤ) → IsCount w.count → AreInRange w.starts → AreInRange w.targets →
    AreAxesLimits w.count limits → axis < w.count → AreWithin (limits_at limits axis) (coordinate_of w.starts axis) (coordinate_of w.targets axis) →
    pos 0 ≤ℤ before → before ≤ℤ pos (length_of w) → IsKept (limits_on w limits) before now →
    IsKept (limits_at limits axis) (place_on w axis before) (place_on w axis now)

-- the laws on which the axes of a path rest
pub record MemberLaws : Type 0 where
  pub safe : SafeAlong
  pub kept : KeptAlong
  pub taken : (limits : Limits) (before now wanted : ℤ) → AreLimits limits → IsKept limits before now →
      IsTakenStep limits before now wanted (taken_step_of limits before now wanted)

-- the ends of a path
ends-at : (axes : ℕ) (limits : List Limits) (p : OnPath) → IsPathOf axes limits p → p.motion.limits.hi ≡ pos (length_of p.way)
ends-at axes limits p k = ap (λ (l : Limits). l.hi) k.limits_are ∙ line_limits_to p.way.count p.way.starts p.way.targets limits

begins-at : (axes : ℕ) (limits : List Limits) (p : OnPath) → IsPathOf axes limits p → p.motion.limits.lo ≡ pos 0
begins-at axes limits p k = ap (λ (l : Limits). l.lo) k.limits_are ∙ line_limits_from p.way.count p.way.starts p.way.targets limits

-- the step of a path is safe
safe-step : MemberLaws → (m after : Motion) → AreLimits m.limits → IsKept m.limits m.previous m.place → IsTaken m after → IsSafe m.limits m.previous m.place after.place
safe-step laws m after are k t =
    subst (λ (n : Motion). IsSafe m.limits m.previous m.place n.place) (sym t.is) (laws.taken m.limits m.previous m.place t.wanted are k).safe

-- and so is that of each axis
axis-safe : MemberLaws → (axes : ℕ) (limits : List Limits) (p : OnPath) (after : Motion) (axis : ℕ) → IsCount axes → AreGroupLimits axes limits → IsPathOf axes limits p →
    axis < axes → IsTaken p.motion after →
    TakesSafely limits axis (place_on p.way axis p.motion.previous) (place_on p.way axis p.motion.place) (place_on p.way axis after.place)
axis-safe laws axes limits p after axis count are k inside t =
    let same = k.count in
    let counted : AreAxesLimits p.way.count limits = subst (λ n. AreAxesLimits n limits) (sym k.count) are.each in
    let many : IsCount p.way.count = subst IsCount (sym k.count) count in
    let here : axis < p.way.count = omega (arith, inside, same) in
    let hi = ends-at axes limits p k in
    let lo = begins-at axes limits p k in
    let from = k.from in
    let to = k.to in
    let above = k.kept.above in
    let below = k.kept.below in
    let safe : IsSafe (limits_on p.way limits) p.motion.previous p.motion.place after.place =
    subst (λ (l : Limits). IsSafe l p.motion.previous p.motion.place after.place) k.limits_are
    (safe-step laws p.motion after (limits-of-path axes limits p are k) k.kept t) in
    let kept : IsKept (limits_on p.way limits) p.motion.previous p.motion.place =
    subst (λ (l : Limits). IsKept l p.motion.previous p.motion.place) k.limits_are k.kept in
    record {
      kept = laws.kept p.way limits axis p.motion.previous p.motion.place many k.starts k.targets counted here (k.within axis inside) from (omega (arith, ints, to, hi)) kept;
      safe = laws.safe p.way limits axis p.motion.previous p.motion.place after.place many k.starts k.targets counted here (k.within axis inside) from (omega (arith, ints, to, hi))
          (omega (arith, ints, above, lo)) (omega (arith, ints, below, hi)) safe;
    }

-- an error of a member leaves the path as it was
pub same-path : (error : ℕ) (c : Core) → (answered error c).path ≡ c.path
unfolding failed
same-path error c = by-if (λ (x : Core). x.path ≡ c.path) (not (nat_eq error 0) && may_fail c.group.state) (failed error c) c (λ h. refl) (λ h. refl)

pub same-axes : (error : ℕ) (c : Core) → (answered error c).group.axes ≡ c.group.axes
unfolding failed
same-axes error c = by-if (λ (x : Core). x.group.axes ≡ c.group.axes) (not (nat_eq error 0) && may_fail c.group.state) (failed error c) c (λ h. refl) (λ h. refl)

-- the path that the axes take in a cycle
pub taken-path : (members : GroupLook) (c : Core) (p : OnPath) → c.path ≡ Some p →
    path_taken members c ≡ Some (record p { motion = (advanced (answered members.error c).group p.motion).motion })
taken-path members c p e = ap (path_after (answered members.error c).group) (same-path members.error c ∙ e)

-- where an axis stands in a cycle
pub place-given : (members : GroupLook) (c : Core) (p : OnPath) (axis : ℕ) → IsLook c.group members → IsCoreKept (limits_in members) c → c.path ≡ Some p → axis < c.group.axes →
    coordinate_of (step_of members c).places axis ≡ place_on p.way axis (advanced (answered members.error c).group p.motion).motion.place
unfolding step_of
place-given members c p axis l k e inside =
    let same = (k.path p e).count in
    let most = k.axes.most in
    let six = l.six in
    let m : Motion = (advanced (answered members.error c).group p.motion).motion in
    ap (λ (o : Option OnPath). coordinate_of (places_at o members.setpoints) axis) (taken-path members c p e)
    ∙ place-of-axis p.way.count (place_on p.way) m.place members.setpoints axis (omega (arith, same, most, six)) (omega (arith, inside, same))

pub places-safe : MemberLaws → (members : GroupLook) (c : Core) (p : OnPath) (axis : ℕ) → IsLook c.group members → IsCoreKept (limits_in members) c → c.path ≡ Some p →
    axis < c.group.axes →
    TakesSafely (limits_in members) axis (place_on p.way axis p.motion.previous) (place_on p.way axis p.motion.place) (coordinate_of (step_of members c).places axis)
places-safe laws members c p axis l k e inside =
    subst (TakesSafely (limits_in members) axis (place_on p.way axis p.motion.previous) (place_on p.way axis p.motion.place)) (sym (place-given members c p axis l k e inside))
    (axis-safe laws c.group.axes (limits_in members) p _ axis k.axes k.limits_are (k.path p e) inside (is-taken (answered members.error c).group p.motion))
