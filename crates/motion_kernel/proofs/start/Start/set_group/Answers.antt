-- A group is set in its place.
use Rattle.std.specs.Prelude.{map, slice_set}
use Rattle.std.proofs.Common.{◌∙◌, ap}
use Rattle.std.proofs.lemmas.List.{map-set}
use Rattle.group_core.specs.declared.group.GroupOnPath.{GroupOnPath}
use Rattle.linear_path.specs.declared.line.LinePath.{LinePath}
use Rattle.motion_kernel.specs.Machine.{Machine}
use Rattle.motion_kernel.specs.Seen.{machine_of, placed}
use Rattle.motion_kernel.proofs.start.Start.set_group.Goals as goal

pub returns : goal.returns
returns c =
    let p = c.self.inside.parts in
    ap (λ (g : GroupOnPath LinePath). record (machine_of p) { groups = map placed (slice_set p.groups.items c.args.group g) }) c.resume.ensures
    ∙ (λ i. record (machine_of p) { groups = map-set placed p.groups.items c.args.group c.args.now i })
    ∙ ap (λ (m : Machine). record m { groups = slice_set m.groups c.args.group (placed c.args.now) }) c.self.view_is
