-- What is reported of rows, by what is reported of those before and of those after. This project's
-- profile.
use Rattle.std.specs.Prelude.{ℤ, ◌+◌, Option, Some, None, List, [], ◌∷◌, length}
use Rattle.std.specs.Int.{int_min, int_max}
use Rattle.plc_types.specs.declared.axis.AxisRow.{AxisRow}
use Rattle.scope_report.specs.Parts.{PartState}
use Rattle.scope_report.specs.Setpoints.{driven_of, greatest_of, least_of, neighbours_of, picked, setpoints_of, still_of, travel_of}

-- the first number
abbrev pub first_of : List ℤ → Option ℤ
first_of [] = None
first_of (x ∷ xs) = Some x

-- the last number
abbrev pub last_from : ℤ → List ℤ → ℤ
last_from x [] = x
last_from x (y ∷ ys) = last_from y ys

abbrev pub last_of : List ℤ → Option ℤ
last_of [] = None
last_of (x ∷ xs) = Some (last_from x xs)

-- what is reported of some rows
abbrev pub part_of : List AxisRow → PartState
part_of rows = record {
  rows = length rows;
  driven = length (driven_of rows);
  least = least_of (setpoints_of (driven_of rows));
  greatest = greatest_of (setpoints_of (driven_of rows));
  still = still_of (neighbours_of (setpoints_of rows));
  travel = travel_of (neighbours_of (setpoints_of rows));
  first = first_of (setpoints_of rows);
  last = last_of (setpoints_of rows);
}

-- the neighbours that the last of some numbers and the first of those after are
abbrev pub between : Option ℤ → Option ℤ → List (ℤ × ℤ)
between None b = []
between (Some a) None = []
between (Some a) (Some b) = (a, b) ∷ []

-- the first of two numbers that is there
abbrev pub first_there : Option ℤ → Option ℤ → Option ℤ
first_there None b = b
first_there (Some a) b = Some a

-- what is reported of two parts, one after the other
abbrev pub merged : PartState → PartState → PartState
merged a b = record {
  rows = a.rows + b.rows;
  driven = a.driven + b.driven;
  least = picked int_min a.least b.least;
  greatest = picked int_max a.greatest b.greatest;
  still = a.still + still_of (between a.last b.first) + b.still;
  travel = a.travel + travel_of (between a.last b.first) + b.travel;
  first = first_there a.first b.first;
  last = first_there b.last a.last;
}
