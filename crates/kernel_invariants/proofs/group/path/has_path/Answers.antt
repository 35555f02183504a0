-- The path is the one that was looked at.
use Rattle.std.proofs.Common.{◌≡◌, ◌↔◌, IsTrue, Bool, ap, subst}
use Rattle.std.specs.Prelude.{Option, Some}
use Rattle.group_core.specs.Seen.{on_path}
use Rattle.group_core.specs.Tracks.{OnPath}
use Rattle.group_core.specs.declared.group.Track.{Track}
use Rattle.linear_path.specs.declared.line.LinePath.{LinePath}
use Rattle.kernel_invariants.specs.Parts.{track_of}
use Rattle.kernel_invariants.proofs.group.path.has_path.Goals as goal

of_path : (P : OnPath → Type 0) (o : Option (Track LinePath)) (t : Track LinePath) (b : Bool) → o ≡ Some t →
    IsTrue b ↔ P (track_of t) → IsTrue b ↔ ((p : OnPath) → on_path o ≡ Some p → P p)
of_path P o t b is law =
    let there : on_path o ≡ Some (track_of t) = ap on_path is in
    (λ yes p e. let same : track_of t ≡ p = cc in subst P same (law.0 yes), λ h. law.1 (h (track_of t) there))

pub returns-in-Some : goal.returns-in-Some
returns-in-Some c = of_path _ _ _ _ c.in-Some.is c.is_path_of.ensures
