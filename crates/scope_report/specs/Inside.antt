-- How a part is kept. This project's profile.
use Rattle.std.specs.Prelude.{◌≡◌, ◌-◌, ◌*◌, ◌^◌, ◌≤◌, ◌<◌, None}
use Rattle.scope_report.specs.Parts.{PartState}
use Rattle.scope_report.specs.declared.part.Part.TheInside.{Inside}

-- what is reported, by the fields
abbrev pub part_view : Inside → PartState
part_view p = record {
  rows = p.rows;
  driven = p.driven;
  least = p.least;
  greatest = p.greatest;
  still = p.still;
  travel = p.travel;
  first = p.first;
  last = p.last;
}

-- there are a first and a last row only where there are rows; no count is above the number of rows,
-- and each row after the first adds less than 2^64 to the travel
pub record IsPart (p : Inside) : Type 0 where
  pub few : p.rows < 2 ^ 64
  pub first : p.rows ≡ 0 → p.first ≡ None
  pub last : p.rows ≡ 0 → p.last ≡ None
  pub driven : p.driven ≤ p.rows
  pub still : p.still ≤ p.rows - 1
  pub travel : p.travel ≤ (p.rows - 1) * 2 ^ 64
