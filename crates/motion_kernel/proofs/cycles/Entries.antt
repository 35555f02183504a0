-- A cycle as an entry of a history.
-- for: cycle
use Rattle.std.specs.Prelude.{◌≡◌, ℕ, List, length}
use Rattle.std.specs.List.{All}
use Rattle.std.proofs.Common.{ap, sym, subst}
use Rattle.plc_types.specs.Counts.{IsCount}
use Rattle.plc_types.specs.declared.drive.DriveIn.{DriveIn}
use Rattle.motion_history.specs.Entries.{cycle}
use Rattle.motion_history.specs.Setup.{Setup}
use Rattle.motion_kernel.specs.cycles.Cycles.{after_cycle, cycled}
use Rattle.motion_kernel.specs.Histories.{IsCycleOf, after, inputs_of}
use Rattle.motion_kernel.specs.Machine.{Machine}

-- the cycle's rows show the answers of which they were made
pub is_cycle : (s : Setup) (m : Machine) (ins : List DriveIn) → inputs_of (cycled s m ins).axes ≡ ins → length (cycled s m ins).axes ≡ length m.axes →
    All (λ (d : DriveIn). IsCount d.actual) ins → IsCycleOf s m (cycled s m ins).axes (cycled s m ins).groups
is_cycle s m ins shown long counts = record {
  answers = long;
  counts = subst (All (λ (d : DriveIn). IsCount d.actual)) (sym shown) counts;
  axes = ap (λ x. (cycled s m x).axes) (sym shown);
  groups = ap (λ x. (cycled s m x).groups) (sym shown);
}

-- and lead to the machine after the cycle
pub after_is : (s : Setup) (m : Machine) (ins : List DriveIn) (n : ℕ) → inputs_of (cycled s m ins).axes ≡ ins →
    after s m (cycle n (cycled s m ins).axes (cycled s m ins).groups) ≡ after_cycle s m ins
after_is s m ins n shown = ap (after_cycle s m) shown
