-- What is reported of the setpoints of an axis. This project's profile.
use Rattle.std.specs.Prelude.{ℕ, ℤ, Option, Some, None, List, [], ◌∷◌, map, filter, count_by, ◌-ℤ◌, unsigned_abs}
use Rattle.std.specs.List.{sum_by}
use Rattle.std.specs.Int.{int_min, int_max}
use Rattle.std.specs.Ordering.{int_eq}
use Rattle.plc_types.specs.declared.axis.AxisRow.{AxisRow}

-- the setpoint of each row
abbrev pub setpoints_of : List AxisRow → List ℤ
setpoints_of rows = map (λ (r : AxisRow). r.setpoint) rows

-- the rows in which the axis is driven
abbrev pub driven_of : List AxisRow → List AxisRow
driven_of rows = filter (λ (r : AxisRow). r.driven) rows

-- what a choice takes of two numbers, where both are there; else the one that is there
abbrev pub picked : (ℤ → ℤ → ℤ) → Option ℤ → Option ℤ → Option ℤ
picked choice None b = b
picked choice (Some a) None = Some a
picked choice (Some a) (Some b) = Some (choice a b)

-- what a choice takes of all numbers, if there is one
abbrev pub pick_of : (ℤ → ℤ → ℤ) → List ℤ → Option ℤ
pick_of choice [] = None
pick_of choice (x ∷ xs) = picked choice (Some x) (pick_of choice xs)

-- the least and the greatest number
abbrev pub least_of : List ℤ → Option ℤ
least_of xs = pick_of int_min xs

abbrev pub greatest_of : List ℤ → Option ℤ
greatest_of xs = pick_of int_max xs

-- each number with the one after it
abbrev pub pairs_from : ℤ → List ℤ → List (ℤ × ℤ)
pairs_from x [] = []
pairs_from x (y ∷ ys) = (x, y) ∷ pairs_from y ys

abbrev pub neighbours_of : List ℤ → List (ℤ × ℤ)
neighbours_of [] = []
neighbours_of (x ∷ xs) = pairs_from x xs

-- how many neighbours are equal
abbrev pub still_of : List (ℤ × ℤ) → ℕ
still_of pairs = count_by (λ (p : ℤ × ℤ). int_eq p.0 p.1) pairs

-- the way from each neighbour to the next, in all
abbrev pub travel_of : List (ℤ × ℤ) → ℕ
travel_of pairs = sum_by (λ (p : ℤ × ℤ). unsigned_abs (p.1 -ℤ p.0)) pairs
