-- Positions of an electronic cam.
use Rattle.std.specs.Prelude.{ℤ, pos, ◌+ℤ◌, ◌-ℤ◌, ◌*ℤ◌, int_lt, if◌then◌else◌, List, [], ◌∷◌}
use Rattle.follow_plan.specs.Floor.{floor_of}

-- the position on the line between two points, rounded down: y0 + floor((y1 - y0) * (master - x0) /
-- (x1 - x0)). This project's profile
unfoldable pub position_between : ℤ × ℤ → ℤ × ℤ → ℤ → ℤ
position_between p q master =
    p.1 +ℤ floor_of ((q.1 -ℤ p.1) *ℤ (master -ℤ p.0)) (q.0 -ℤ p.0)

-- the position for a master that has passed the point p, before the points that follow it
unfoldable pub position_after : ℤ × ℤ → List (ℤ × ℤ) → ℤ → ℤ
position_after p [] master = p.1
position_after p (q ∷ more) master =
    if int_lt master q.0 then position_between p q master else position_after q more master

-- the position that the points give for the master's position: before the first point that of the
-- first. PLCopen Motion Control Part 1, MC_CamIn; the line between points is this project's profile
unfoldable pub cam_position_of : List (ℤ × ℤ) → ℤ → ℤ
cam_position_of [] master = pos 0
cam_position_of (p ∷ more) master =
    if int_lt master p.0 then p.1 else position_after p more master
