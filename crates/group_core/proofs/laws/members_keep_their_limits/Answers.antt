-- Each axis keeps its own limits along the path.
use Rattle.std.specs.Prelude.{ℤ}
use Rattle.std.proofs.Common.{◌∙◌, sym, subst}
use Rattle.linear_path.specs.Line.{coordinate_of}
use Rattle.linear_path.specs.declared.line.LinePath.{LinePath}
use Rattle.group_core.specs.Cycles.{step_of}
use Rattle.group_core.specs.Members.{StandsOn, TakesSafely}
use Rattle.group_core.specs.Refusals.{limits_in}
use Rattle.group_core.specs.Tracks.{place_on}
use Rattle.group_core.proofs.MemberLaws.{MemberLaws, places-safe}
use Rattle.group_core.proofs.PathBegins.{off-path, path-begins, path-leaves, stays-off}
use Rattle.group_core.proofs.PathEnds.{ends-at-rest, stands-on}
use Rattle.group_core.proofs.laws.members_keep_their_limits.Goals as goal

laws : goal.After-taken_steps_keep → MemberLaws
laws c = record {
  safe = λ w limits axis before now next count starts targets axes inside within a b d e s.
      (let line : LinePath = record {
        count = w.count;
        starts = w.starts;
        targets = w.targets;
        two_or_more = count.least;
        six_or_fewer = count.most;
        starts_in_range = starts;
        targets_in_range = targets;
      } in
      c.steps_along_a_path_are_safe.ensures.safe line limits axis before now next axes inside within a b d e s);
  kept = λ w limits axis before now count starts targets axes inside within a b k.
      (let line : LinePath = record {
        count = w.count;
        starts = w.starts;
        targets = w.targets;
        two_or_more = count.least;
        six_or_fewer = count.most;
        starts_in_range = starts;
        targets_in_range = targets;
      } in
      c.steps_along_a_path_are_safe.ensures.kept line limits axis before now axes inside within a b k);
  taken = c.taken_steps_keep.ensures.taken;
}

pub returns-clause-safe : goal.returns-clause-safe
returns-clause-safe c = λ members core p axis before now look kept on inside stands.
    (let place = coordinate_of (step_of members core).places axis in
    subst (λ (z : ℤ). TakesSafely (limits_in members) axis z now place) (sym stands.before_is)
    (subst (λ (z : ℤ). TakesSafely (limits_in members) axis (place_on p.way axis p.motion.previous) z place) (sym stands.now_is) (places-safe (laws c) members core p axis look kept on inside)))

pub returns-clause-ends : goal.returns-clause-ends
returns-clause-ends c = λ members core p axis before now look kept on inside stands ends.
    ends-at-rest members core p axis look kept on inside ends ∙ sym stands.now_is

pub returns-clause-stands : goal.returns-clause-stands
returns-clause-stands c = λ members core p q axis before now look kept on inside stands next.
    subst (λ (z : ℤ). StandsOn q axis z (coordinate_of (step_of members core).places axis)) (sym stands.now_is)
    (stands-on members core p q axis look kept on inside next)

pub returns-clause-begins : goal.returns-clause-begins
returns-clause-begins c = λ members axis w jerk core look made kept inside q next. path-begins members axis w jerk core look made kept inside q next

pub returns-clause-power_off : goal.returns-clause-power_off
returns-clause-power_off c = λ core. off-path core

pub returns-clause-leaves : goal.returns-clause-leaves
returns-clause-leaves c = λ members axis w jerk core p before now look made kept on stands none.
    path-leaves members axis w jerk core p before now look made kept on stands none

pub returns-clause-stays_off : goal.returns-clause-stays_off
returns-clause-stays_off c = λ members core off. stays-off members core off
