-- The path of a group leads to the targets of its line.
-- for: are_groups_in_state
use Rattle.std.specs.Prelude.{◌≡◌, ◌↔◌, Bool, IsTrue, Some}
use Rattle.std.specs.Cmp.Rules.{signed_items}
use Rattle.std.specs.Ordering.{int_eq}
use Rattle.std.proofs.Common.{ap, sym, ◌∙◌}
use Rattle.plc_types.specs.declared.kind.BlockKind.TheVariants as kind
use Rattle.command_pool.specs.declared.wanted.Wanted.{Wanted}
use Rattle.group_core.specs.Seen.{on_path}
use Rattle.group_core.specs.Targets.{IsToward}
use Rattle.group_core.specs.Tracks.{OnPath}
use Rattle.group_core.specs.declared.group.GroupOnPath.{GroupOnPath}
use Rattle.group_core.specs.declared.group.Track.{Track}
use Rattle.kernel_invariants.specs.Parts.{track_of}
use Rattle.linear_path.specs.declared.line.LinePath.{LinePath}
use lib.Pointwise.{pointwise}

pub toward_by : (g : GroupOnPath LinePath) (w : Wanted) (t : Track LinePath) (b : Bool) →
    g.group.active ≡ Some w → g.track ≡ Some t → w.kind ≡ kind.MoveLinearAbsolute →
    b ≡ pointwise int_eq t.path.targets w.targets →
    IsTrue b ↔ IsToward g.group.active (on_path g.track)
toward_by g w t b active track line is = (
  λ h v on e k p.
      let one : w ≡ v = (let z : Some w ≡ Some v = sym active ∙ e in cc) in
      let two : track_of t ≡ on = (let z : Some (track_of t) ≡ Some on = sym (ap on_path track) ∙ p in cc) in
      ap (λ (x : OnPath). x.way.targets) (sym two)
      ∙ (signed_items t.path.targets w.targets).0 (sym is ∙ h) ∙ ap (λ (x : Wanted). x.targets) one,
  λ h. let same = h w (track_of t) active line (ap on_path track) in
      is ∙ (signed_items t.path.targets w.targets).1 same,
)
