-- Shares are put together, axis by axis and block by block. This project's profile.
use Rattle.std.specs.Prelude.{◌≡◌, ◌+◌, ◌^◌, ◌<◌, ℕ, List, length, slice_index_or}
use Rattle.scope_report.specs.Counting.{CanAdd, added}
use Rattle.scope_report.specs.Merging.{merged}
use Rattle.scope_report.specs.Parts.{PartState}
use Rattle.scope_report.specs.declared.counts.Counts.{Counts}

-- the rows of each axis fit 64 bits
abbrev pub CanMerge : List PartState → List PartState → Type 0
CanMerge old others = (a : ℕ) (d : PartState) → a < length old →
    (slice_index_or old a d).rows + (slice_index_or others a d).rows < 2 ^ 64

-- the part of each axis has that of the others after it
pub record Merges (old others new : List PartState) : Type 0 where
  pub len : length new ≡ length old
  pub each : (a : ℕ) (d : PartState) → a < length old →
      slice_index_or new a d ≡ merged (slice_index_or old a d) (slice_index_or others a d)

-- the sums for each block fit 64 bits
abbrev pub CanSum : List Counts → List Counts → Type 0
CanSum old others = (b : ℕ) (d : Counts) → b < length old →
    CanAdd (slice_index_or old b d) (slice_index_or others b d)

-- the counts of each block have those of the others added
pub record Sums (old others new : List Counts) : Type 0 where
  pub len : length new ≡ length old
  pub each : (b : ℕ) (d : Counts) → b < length old →
      slice_index_or new b d ≡ added (slice_index_or old b d) (slice_index_or others b d)
