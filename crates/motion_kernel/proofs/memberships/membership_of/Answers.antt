-- The groups are searched one after another.
use Rattle.std.proofs.Common.{◌≡◌, ◌∙◌, sym, ap, arith, nat_eq, Some, None}
use Rattle.std.specs.List.{position}
use Rattle.motion_history.specs.Members.{members_of}
use Rattle.motion_kernel.proofs.members.Laid.{next, none}
use Rattle.motion_kernel.proofs.memberships.membership_of.Goals as goal

pub returns-in-Some : goal.returns-in-Some
returns-in-Some c =
    let at : position (nat_eq c.args.axis) (members_of c.index-groups-group.result) ≡ Some c.in-Some.place =
    ap (position (nat_eq c.args.axis)) (sym c.members.ensures) ∙ sym c.place_in.ensures ∙ c.in-Some.is in
    sym (next c.args.axis c.loop-group.group c.loop-group.group c.args.groups.now c.index-groups-group.result _ (omega arith) (sym c.index-groups-group.is) at)
    ∙ c.loop-group.invariant.rest

pub loop-group-preserved : goal.loop-group-preserved
loop-group-preserved c =
    let at : position (nat_eq c.args.axis) (members_of c.index-groups-group.result) ≡ None =
    ap (position (nat_eq c.args.axis)) (sym c.members.ensures) ∙ sym c.place_in.ensures ∙ c.in_default.is in
    record {
      rest = sym (next c.args.axis c.loop-group.group c.loop-group.group c.args.groups.now c.index-groups-group.result _ (omega arith) (sym c.index-groups-group.is) at)
          ∙ c.loop-group.invariant.rest;
    }

pub returns : goal.returns
returns c =
    sym (sym c.loop-group.invariant.rest ∙ none c.args.axis c.loop-group.group c.loop-group.group c.args.groups.now (omega arith))
