-- On-delay and off-delay timers. IEC 61131-3, 2.5.2.3.4, in this project's profile.
use Rattle.std.specs.Prelude.{ℕ, ◌-◌, min, pos, unsigned_abs, nat_lt, Bool, false, not, ◌&&◌, ◌||◌, if◌then◌else◌, List, [], ◌∷◌, Option, None, Some}
use Rattle.std.specs.Int.{int_max}
use Rattle.iec_blocks.specs.Calls.{signal_of, rises, falls, latest_time}
use Rattle.iec_blocks.specs.declared.call.Call.{Call}
use Rattle.iec_blocks.specs.declared.call.Reply.{Reply}
use Rattle.iec_blocks.specs.declared.timer.Timer.{Timer}

-- PT at a call; a negative one counts as 0
unfoldable pub preset_of : Call → ℕ
preset_of call = unsigned_abs (int_max call.preset (pos 0))

-- whether a call comes before PT has passed since a begin; never where nothing began
unfoldable pub is_before_end : Option ℕ → Call → Bool
is_before_end None call = false
is_before_end (Some begin) call = nat_lt (call.time - begin) (preset_of call)

-- the time from a begin to a call, at most PT; 0 where nothing began
unfoldable pub elapsed_of : Option ℕ → Call → ℕ
elapsed_of None call = 0
elapsed_of (Some begin) call = min (call.time - begin) (preset_of call)

-- TON: its delay begins where IN rises. Q is TRUE where IN is and the delay has passed; ET is what
-- has passed of it while IN is TRUE
abbrev pub on_delay_of : List Call → Reply
on_delay_of [] = record { flag = false; value = pos 0 }
on_delay_of (call ∷ earlier) =
    let begin = latest_time rises (call ∷ earlier) in
    record {
      flag = call.signal && not (is_before_end begin call);
      value = if call.signal then pos (elapsed_of begin call) else pos 0;
    }

-- TOF: its delay begins where IN falls. Q is TRUE where IN is or the delay has not passed; ET is
-- what has passed of it while IN is FALSE
abbrev pub off_delay_of : List Call → Reply
off_delay_of [] = record { flag = false; value = pos 0 }
off_delay_of (call ∷ earlier) =
    let begin = latest_time falls (call ∷ earlier) in
    record {
      flag = call.signal || is_before_end begin call;
      value = if not call.signal then pos (elapsed_of begin call) else pos 0;
    }

-- a timer after its calls, by what its delay begins with
abbrev pub timer_after : (List Call → Bool) → List Call → Timer
timer_after test calls = record { signal = signal_of calls; begin = latest_time test calls }
