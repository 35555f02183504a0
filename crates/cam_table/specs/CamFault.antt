-- What is wrong with points that make no cam table.
use Rattle.std.specs.Prelude.{◌≡◌, ℕ, ◌-◌, ◌<◌, ◌≤◌, ℤ, ◌≤ℤ◌, List, length}
use Rattle.cam_table.specs.declared.table.TheConstants.{MOST_POINTS}
use Rattle.motion_numbers.specs.declared.TheConstants.{MOST_PLACE}
use Rattle.cam_table.specs.declared.fault.CamFault.{CamFault}
use Rattle.cam_table.specs.declared.fault.CamFault.TheVariants.{TooFew, TooMany, BadRow, NotRising, OutOfMemory}
use Rattle.cam_table.specs.CamTable.{point_of, size_of, IsGoodRow}

-- the row has a coordinate beyond 10^15. This project's profile
abbrev pub IsBeyond : List (ℤ × ℤ) → ℕ → Type 0
IsBeyond points row = MOST_PLACE < size_of (point_of points row)

-- the row is within 10^15, but its master position isn't above that of the row before. This
-- project's profile
pub record IsFalling (points : List (ℤ × ℤ)) (row : ℕ) : Type 0 where
  pub within : size_of (point_of points row) ≤ MOST_PLACE
  pub second : 1 < row
  pub falls : (point_of points row).0 ≤ℤ (point_of points (row - 1)).0

-- the points are neither too few nor too many, and every row before this one is good. This
-- project's profile
pub record IsReached (points : List (ℤ × ℤ)) (row : ℕ) : Type 0 where
  pub enough : 2 ≤ length points
  pub few : length points ≤ MOST_POINTS
  pub first : 1 ≤ row
  pub last : row ≤ length points
  pub before : (earlier : ℕ) → 1 ≤ earlier → earlier < row → IsGoodRow points earlier

-- what is wrong with the points: their number, or the first row that isn't good. This project's
-- profile
abbrev pub IsFault : List (ℤ × ℤ) → CamFault → Type 0
IsFault points TooFew = length points < 2
IsFault points TooMany = MOST_POINTS < length points
IsFault points (BadRow row) = IsReached points row × IsBeyond points row
IsFault points (NotRising row) = IsReached points row × IsFalling points row
IsFault points OutOfMemory = ⊥

-- what is wrong with one row
abbrev pub IsRowFault : List (ℤ × ℤ) → ℕ → CamFault → Type 0
IsRowFault points row (BadRow told) = (told ≡ row) × IsBeyond points row
IsRowFault points row (NotRising told) = (told ≡ row) × IsFalling points row
IsRowFault points row TooFew = ⊥
IsRowFault points row TooMany = ⊥
IsRowFault points row OutOfMemory = ⊥
