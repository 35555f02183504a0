-- The calls of a standard function block so far, the latest first. IEC 61131-3, 2.5.2.3, in this
-- project's profile.
use Rattle.std.specs.Prelude.{ℕ, Bool, false, not, ◌&&◌, if◌then◌else◌, List, [], ◌∷◌, Option, None, Some}
use Rattle.iec_blocks.specs.declared.call.Call.{Call}

-- the signal of the latest call; FALSE before the first
abbrev pub signal_of : List Call → Bool
signal_of [] = false
signal_of (call ∷ earlier) = call.signal

-- whether the signal rose at the latest call
abbrev pub rises : List Call → Bool
rises [] = false
rises (call ∷ earlier) = call.signal && not (signal_of earlier)

-- whether it fell
abbrev pub falls : List Call → Bool
falls [] = false
falls (call ∷ earlier) = signal_of earlier && not call.signal

-- the time of the latest call at which something came about; None where it never did
abbrev pub latest_time : (List Call → Bool) → List Call → Option ℕ
latest_time test [] = None
latest_time test (call ∷ earlier) =
    if test (call ∷ earlier) then Some call.time else latest_time test earlier
