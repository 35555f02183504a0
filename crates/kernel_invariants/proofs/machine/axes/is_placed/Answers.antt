-- The axis is in the group that was found.
use Rattle.std.proofs.Common.{◌≡◌, ap, arith, sym, ◌∙◌}
use Rattle.std.specs.Prelude.{Some, Option}
use Rattle.motion_history.specs.declared.config.GroupDef.{GroupDef}
use Rattle.motion_history.specs.Setup.{Setup}
use Rattle.motion_kernel.specs.members.Members.{membership_from, membership_of}
use Rattle.motion_kernel.specs.declared.memberships.Membership.{Membership}
use Rattle.motion_kernel.proofs.members.Places.{membership_is}
use Rattle.kernel_invariants.proofs.OnLine.{on_line}
use Rattle.std.specs.Prelude.{ℕ, List}
use Rattle.kernel_invariants.proofs.machine.axes.is_placed.Goals as goal

found : (s : Setup) (n : ℕ) (gs : List GroupDef) (o : Option Membership) (at : Membership) → gs ≡ s.groups → o ≡ membership_from n 0 gs → o ≡ Some at →
    membership_of s n ≡ Some at
found s n gs o at groups searched is = ap (λ xs. membership_from n 0 xs) (sym groups) ∙ sym searched ∙ is

pub is_member_at-requires-clause-there : goal.is_member_at-requires-clause-there
is_member_at-requires-clause-there c =
    let at = found c.args.config.now _ _ _ _ c.groups.ensures c.membership_of.ensures c.in-Some.is in
    let there = (membership_is c.args.config.now c.args.number c.in-Some.at at).group in
    let groups = c.requires.sized.groups in
    omega arith

pub is_member_at-requires-clause-lines : goal.is_member_at-requires-clause-lines
is_member_at-requires-clause-lines c =
    on_line c.args.config.now c.args.start.now c.args.number c.in-Some.at c.requires.sized c.requires.groups
    (found c.args.config.now _ _ _ _ c.groups.ensures c.membership_of.ensures c.in-Some.is)
