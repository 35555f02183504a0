-- What drives took, and where they are, can be held by a trace.
-- for: crates above
use Rattle.std.proofs.Common.{ℕ, ◌<◌, ◌≤◌, List, [], ◌∷◌, map, arith}
use Rattle.std.specs.Prelude.{All}
use Rattle.std.specs.List.{AllByRecursion}
use Rattle.std.proofs.lemmas.List.Elements.{All-from_recursion, recursion_from_All}
use Rattle.plc_types.specs.Counts.{IsCount}
use Rattle.drive_sim.specs.Sim.{DriveSim}
use Rattle.machine_drives.specs.Drives.{drive_end}
use Rattle.trace_text.specs.RowRanges.{IsDriveEnd}

below-most : (n : ℕ) → n < 4294967296 → n ≤ 4294967295
below-most n few = omega (arith, few)

-- the positions of drives have 32 bits, so what each took has its bits
ends-held-each : (cycles : ℕ) (drives : List DriveSim) → cycles < 4294967296 →
    AllByRecursion (λ (d : DriveSim). IsCount d.actual) drives →
    AllByRecursion IsDriveEnd (map (drive_end cycles) drives)
ends-held-each cycles [] few h = tt
ends-held-each cycles (d ∷ ds) few h = (
  record { taken = below-most cycles few; least = h.0.least; most = h.0.most },
  ends-held-each cycles ds few h.1,
)

pub ends-held : (cycles : ℕ) (drives : List DriveSim) → cycles < 4294967296 →
    All (λ (d : DriveSim). IsCount d.actual) drives → All IsDriveEnd (map (drive_end cycles) drives)
ends-held cycles drives few h =
    All-from_recursion IsDriveEnd (map (drive_end cycles) drives)
    (ends-held-each cycles drives few (recursion_from_All (λ (d : DriveSim). IsCount d.actual) drives h))
