use Rattle.std.proofs.Common.{◌≡◌, map, take, length}
use Rattle.std.specs.List.{AllByRecursion}
use Rattle.motion_history.specs.Members.{members_of}
use Rattle.motion_history.specs.declared.config.GroupDef.{GroupDef}
use Rattle.motion_kernel.specs.Machine as machine
use Rattle.motion_kernel.specs.Seen.{placed}
use Rattle.motion_kernel.proofs.opening.opened_groups.Given as goal

abbrev pub invariant-loop-def : goal.invariant-loop-def
invariant-loop-def l = record {
  opened : map placed l.groups.items ≡ map machine.group_at_opening (take l.def-index l.defs);
  whole : AllByRecursion (λ (d : GroupDef). length (members_of d) ≡ d.count) (take l.def-index l.defs);
}
