-- The steps of a scan. This project's profile: a statement is one, an IF and a CASE have those of
-- all in it besides, and a FOR has for each turn one and those of its body.
use Rattle.std.specs.Prelude.{ℕ, ◌+◌, ◌*◌, min, nat_lt, Bool, false, Option, Some, None, List, [], ◌∷◌}
use Rattle.iec_costs.specs.declared.steps.Frame.{Frame}

-- the FORs that hold what is read, the innermost first, and the steps of the program before the
-- outermost
pub record Counted : Type 0 where
  pub frames : List Frame
  pub before : ℕ

-- no step yet
abbrev pub none_counted : Counted
none_counted = record { frames = []; before = 0 }

-- a number of steps; all that are more than a program may have count as one more than that
unfoldable pub capped : ℕ → ℕ
capped n = min n 1000001

-- so many steps more: of the innermost FOR's body, or of the program
abbrev pub more_in : ℕ → List Frame → ℕ → Counted
more_in n [] before = record { frames = []; before = capped (before + n) }
more_in n (f ∷ frames) before =
    record { frames = record f { body = capped (f.body + n) } ∷ frames; before = before }

unfoldable pub with_steps : ℕ → Counted → Counted
with_steps n c = more_in n c.frames c.before

-- the turns of a FOR with those of its body
unfoldable pub steps_of : Frame → ℕ
steps_of f = capped (f.turns * (f.body + 1))

-- a FOR begins in a line, whose body runs so often
abbrev pub opened : ℕ → ℕ → Counted → Counted
opened turns line c =
    record c { frames = record { turns = turns; body = 0; line = line } ∷ c.frames }

-- the innermost FOR ends
abbrev pub ended_in : List Frame → ℕ → Counted
ended_in [] before = record { frames = []; before = before }
ended_in (f ∷ frames) before = with_steps (steps_of f) (record { frames = frames; before = before })

unfoldable pub closed : Counted → Counted
closed c = ended_in c.frames c.before

-- the line of the innermost FOR
abbrev pub line_of : List Frame → Option ℕ
line_of [] = None
line_of (f ∷ frames) = Some f.line

-- a program has more than a million, which shows outside of all FORs
abbrev pub beyond_in : List Frame → ℕ → Bool
beyond_in [] before = nat_lt 1000000 before
beyond_in (f ∷ frames) before = false

unfoldable pub is_beyond : Counted → Bool
is_beyond c = beyond_in c.frames c.before
