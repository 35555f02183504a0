-- The wanted step of a velocity command.
use Rattle.std.specs.Prelude.{ℕ, ◌+◌, ◌-◌, Bool, ℤ, pos, neg_ℤ, int_lt, nat_lt, ◌&&◌, ◌||◌, min, max, unsigned_abs, if◌then◌else◌}
use Rattle.std.specs.Ordering.{int_eq}
use Rattle.command_pool.specs.declared.rates.Rates.{Rates}
use Rattle.kin_core.specs.Toward.{toward_zero}

-- whether v and w are both positive or both negative
abbrev pub is_same_sign : ℤ → ℤ → Bool
is_same_sign v w = (int_lt (pos 0) v && int_lt (pos 0) w) || (int_lt v (pos 0) && int_lt w (pos 0))

-- the number of size n with the sign of w
abbrev pub with_sign_of : ℤ → ℕ → ℤ
with_sign_of w n = if int_lt w (pos 0) then neg_ℤ (pos n) else pos n

-- the step toward the step w after the step v: from rest or with w's sign faster by the
-- acceleration and at most w, with w's sign slower by the deceleration and at least w, at w the
-- same, else v moved by the deceleration toward zero. This project's profile, for MoveVelocity of
-- PLCopen Motion Control Part 1
unfoldable pub velocity_step_of : ℤ → ℤ → Rates → ℤ
velocity_step_of w v rates =
    if (is_same_sign v w || int_eq v (pos 0)) && nat_lt (unsigned_abs v) (unsigned_abs w)
    then with_sign_of w (min (unsigned_abs v + unsigned_abs rates.a) (unsigned_abs w))
    else (if is_same_sign v w && nat_lt (unsigned_abs w) (unsigned_abs v)
    then with_sign_of w (max (unsigned_abs v - unsigned_abs rates.d) (unsigned_abs w))
    else (if int_eq v w then v else toward_zero v rates.d))
