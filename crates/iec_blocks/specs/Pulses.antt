-- Pulse timers. IEC 61131-3, 2.5.2.3.4, in this project's profile.
use Rattle.std.specs.Prelude.{ℕ, pos, Bool, false, not, ◌&&◌, ◌||◌, if◌then◌else◌, List, [], ◌∷◌, Option, None, Some}
use Rattle.std.specs.List.{list_all}
use Rattle.iec_blocks.specs.Calls.{signal_of, rises}
use Rattle.iec_blocks.specs.Timers.{is_before_end, elapsed_of}
use Rattle.iec_blocks.specs.declared.call.Call.{Call}
use Rattle.iec_blocks.specs.declared.call.Reply.{Reply}
use Rattle.iec_blocks.specs.declared.pulse.Pulse.{Pulse}

-- when the pulse with these calls began: at the first of them
abbrev pub begin_of : List Call → Option ℕ
begin_of [] = None
begin_of (call ∷ []) = Some call.time
begin_of (call ∷ before ∷ more) = begin_of (before ∷ more)

-- whether it still runs: each of its calls came before PT had passed, with that call's PT
abbrev pub is_running : List Call → Bool
is_running [] = false
is_running (call ∷ more) = list_all (is_before_end (begin_of (call ∷ more))) (call ∷ more)

-- a pulse with one more call, where there is one
abbrev pub pulse_with : Call → List Call → List Call
pulse_with call [] = []
pulse_with call (before ∷ more) = call ∷ before ∷ more

-- the calls of the latest pulse, from its begin on: IN rises there while no pulse runs
abbrev pub latest_pulse : List Call → List Call
latest_pulse [] = []
latest_pulse (call ∷ earlier) =
    if rises (call ∷ earlier) && not (is_running (pulse_with call (latest_pulse earlier)))
    then call ∷ [] else pulse_with call (latest_pulse earlier)

-- TP: Q is TRUE while the pulse runs; ET is what has passed of it, 0 once it is over and IN is
-- FALSE
abbrev pub pulse_reply_of : List Call → Reply
pulse_reply_of [] = record { flag = false; value = pos 0 }
pulse_reply_of (call ∷ earlier) =
    let pulse = latest_pulse (call ∷ earlier) in
    record {
      flag = is_running pulse;
      value = if call.signal || is_running pulse then pos (elapsed_of (begin_of pulse) call)
          else pos 0;
    }

-- a pulse timer after its calls
abbrev pub pulse_after : List Call → Pulse
pulse_after calls = record {
  signal = signal_of calls;
  begin = begin_of (latest_pulse calls);
  running = is_running (latest_pulse calls);
}
