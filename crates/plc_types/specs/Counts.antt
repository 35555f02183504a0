-- Places of an axis in the increments of its drive.
use Rattle.std.specs.Prelude.{◌^◌, ◌-◌, ℤ, pos, neg_ℤ, ◌+ℤ◌, ◌-ℤ◌, ◌*ℤ◌, ◌≤ℤ◌, ◌&&◌, int_lt, if◌then◌else◌}
use Rattle.std.specs.Int.{int_div_euclid}
use Rattle.plc_types.specs.declared.limits.Limits.{Limits}

-- the drive's count of a place: what lies between it and the offset, in whole increments, rounded
-- down. IEC 61800-7-201, object 607Ah
unfoldable pub count_of : ℤ → ℤ → ℤ → ℤ
count_of place offset inc = int_div_euclid (place -ℤ offset) inc

-- the place of a count: as many increments from the offset, or the lowest place of the axis where
-- that lies less than an increment below it. IEC 61800-7-201, object 6064h; the lowest place is
-- this project's profile
unfoldable pub place_of : ℤ → ℤ → ℤ → ℤ → ℤ
place_of lo count offset inc =
    let counted = (count *ℤ inc) +ℤ offset in
    if int_lt (lo -ℤ inc) counted && int_lt counted lo then lo else counted

-- a count has 32 bits. IEC 61800-7-201, objects 607Ah and 6064h
pub record IsCount (count : ℤ) : Type 0 where
  pub least : neg_ℤ (pos (2 ^ 31)) ≤ℤ count
  pub most : count ≤ℤ pos (2 ^ 31 - 1)

-- the places within the limits have counts of 32 bits. IEC 61800-7-201, object 607Ah
pub record HasCounts (limits : Limits) (offset inc : ℤ) : Type 0 where
  pub lowest : neg_ℤ (pos (2 ^ 31)) ≤ℤ count_of limits.lo offset inc
  pub highest : count_of limits.hi offset inc ≤ℤ pos (2 ^ 31 - 1)
