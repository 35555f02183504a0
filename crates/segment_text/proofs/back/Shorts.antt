-- Records of a header have at most 64 fields.
-- for: headers_are_read_back
use Rattle.std.specs.Fmt.{signed_decimal}
use Rattle.std.specs.Prelude.{◌≡◌, ℕ, ◌+◌, ◌≤◌, ℤ, Option, Some, None, IfSome, List, ◌∷◌, ◌++◌, codes, length}
use Rattle.std.proofs.Common.{◌∙◌, arith}
use Rattle.std.proofs.lemmas.List.{length-append, length-map}
use Rattle.axis_core.specs.declared.axis.Axis.{Axis}
use Rattle.plc_types.specs.declared.axis.AxisDef.{AxisDef}
use Rattle.command_pool.specs.declared.ending.Finish.TheVariants as finish
use Rattle.command_pool.specs.declared.wanted.Follow.{Follow}
use Rattle.command_pool.specs.declared.wanted.Follow.TheVariants as follow
use Rattle.command_pool.specs.declared.wanted.Wanted.{Wanted}
use Rattle.fb_outputs.specs.InstanceState.{InstanceState}
use Rattle.fb_outputs.specs.declared.instance.Progress.{Progress}
use Rattle.fb_outputs.specs.declared.instance.Progress.TheVariants as progress
use Rattle.group_core.specs.Tracks.{OnPath}
use Rattle.motion_history.specs.declared.config.GroupDef.{GroupDef}
use Rattle.motion_kernel.specs.Machine.{PlacedGroup}
use Rattle.motion_kernel.specs.declared.segment.Before.{Before}
use Rattle.segment_text.specs.Fields.{follow_fields, progress_fields}
use Rattle.segment_text.specs.Held.{IsAxisOf, IsGroupOf, IsOnPath, IsWanted}
use Rattle.segment_text.specs.Records.{axis_fields, group_fields, instance_fields, limits_fields, motion_fields, path_fields, trace_segment_fields, way_fields}
use Rattle.segment_text.specs.WantedFields.{active_fields, numbers_fields, rates_fields, wanted_fields}

-- as many fields as numbers
numbers-length : (numbers : List ℤ) → length (numbers_fields numbers) ≡ length numbers
numbers-length numbers = length-map numbers signed_decimal

follow-short : (f : Follow) → length (follow_fields f) ≤ 4
unfolding follow_fields
follow-short follow.None = omega arith
follow-short (follow.Gear m n d) = omega arith
follow-short (follow.Cam m t) = omega arith

pub wanted-short : (w : Wanted) → IsWanted w → length (wanted_fields w) ≤ 17
unfolding wanted_fields
wanted-short w is =
    let six : length (numbers_fields w.targets) ≡ 6 = numbers-length w.targets ∙ is.targets.six in
    let few : length (follow_fields w.follow) ≤ 4 = follow-short w.follow in
    let behind : length (numbers_fields w.targets ++ (rates_fields w.rates ++ follow_fields w.follow)) ≡ length (numbers_fields w.targets) + length (rates_fields w.rates ++ follow_fields w.follow) =
    length-append (numbers_fields w.targets) (rates_fields w.rates ++ follow_fields w.follow) in
    omega (arith, six, few, behind)

active-short : (o : Option Wanted) → IfSome o IsWanted → length (active_fields o) ≤ 17
unfolding active_fields
active-short None is = omega arith
active-short (Some w) is = wanted-short w is

pub waiting-short : (w : Wanted) → IsWanted w → length (codes "waiting" ∷ wanted_fields w) ≤ 64
waiting-short w is = let few = wanted-short w is in omega (arith, few)

pub axis-short : (d : AxisDef) (n : ℕ) (a : Axis) → IsAxisOf d a → length (axis_fields n a) ≤ 64
unfolding axis_fields
axis-short d n a is = let few = active-short a.active is.bits.active in omega (arith, few)

path-short : (p : Option OnPath) → IfSome p IsOnPath → length (path_fields p) ≤ 21
unfolding path_fields motion_fields
path-short None is = omega arith
path-short (Some p) is =
    let starts : length (numbers_fields p.way.starts) ≡ 6 = numbers-length p.way.starts ∙ is.way.starts.six in
    let targets : length (numbers_fields p.way.targets) ≡ 6 = numbers-length p.way.targets ∙ is.way.targets.six in
    let rest : List (List ℕ) = limits_fields p.motion.limits ++ way_fields p.motion in
    let first = length-append (numbers_fields p.way.starts) (numbers_fields p.way.targets ++ rest) in
    let second = length-append (numbers_fields p.way.targets) rest in
    omega (arith, starts, targets, first, second)

pub group-short : (d : GroupDef) (n : ℕ) (g : PlacedGroup) → IsGroupOf d g → length (group_fields n g) ≤ 64
unfolding group_fields
group-short d n g is =
    let path = path-short g.path is.bits.path in
    let active = active-short g.group.active is.bits.active in
    let both = length-append (path_fields g.path) (active_fields g.group.active) in
    omega (arith, path, active, both)

progress-short : (p : Progress) → length (progress_fields p) ≤ 3
unfolding progress_fields
progress-short progress.Idle = omega arith
progress-short progress.Waiting = omega arith
progress-short progress.Active = omega arith
progress-short (progress.Ended finish.Done shown) = omega arith
progress-short (progress.Ended finish.Aborted shown) = omega arith
progress-short (progress.Ended (finish.Error n) shown) = omega arith

pub instance-short : (n : ℕ) (i : InstanceState) → length (instance_fields n i) ≤ 64
unfolding instance_fields
instance-short n i = let few = progress-short i.progress in omega (arith, few)

pub trace_segment-short : (b : Before) → length (trace_segment_fields b) ≤ 64
trace_segment-short b = omega arith
