-- What a call does to the latest pulse.
-- for: Pulse.pulse
use Rattle.std.proofs.Common.{◌≡◌, ◌∙◌, refl, ap, sym, subst, ℕ, Bool, true, false, List, [], ◌∷◌, Option, Some}
use Rattle.std.proofs.Math.Bool.{and-true}
use Rattle.std.specs.Prelude.{if◌then◌else◌, not, ◌&&◌}
use Rattle.iec_blocks.specs.Calls.{signal_of}
use Rattle.iec_blocks.specs.Pulses.{begin_of, is_running, pulse_with, latest_pulse, pulse_after}
use Rattle.iec_blocks.specs.Timers.{is_before_end}
use Rattle.iec_blocks.specs.declared.call.Call.{Call}
use Rattle.iec_blocks.specs.declared.pulse.Pulse.{Pulse}

-- a pulse with one more call still runs where it ran and the call comes before its end
running-with : (call : Call) (pulse : List Call) →
    is_running (pulse_with call pulse) ≡ (is_before_end (begin_of pulse) call && is_running pulse)
unfolding is_before_end
running-with call [] = refl
running-with call (before ∷ more) = refl

-- when the latest pulse began, where one begins and where none does
begin-next : (begins : Bool) (call : Call) (pulse : List Call) →
    begin_of (if begins then call ∷ [] else pulse_with call pulse) ≡
    (if begins then Some call.time else begin_of pulse)
begin-next true call pulse = refl
begin-next false call [] = refl
begin-next false call (before ∷ more) = refl

-- whether it runs
running-next : (begins : Bool) (call : Call) (pulse : List Call) →
    is_running (if begins then call ∷ [] else pulse_with call pulse) ≡
    (if begins then is_before_end (Some call.time) call
    else (is_before_end (begin_of pulse) call && is_running pulse))
running-next true call pulse = and-true (is_before_end (Some call.time) call)
running-next false call pulse = running-with call pulse

-- a pulse timer of these parts
abbrev made : Bool → Option ℕ → Bool → Pulse
made signal begin running = record { signal = signal; begin = begin; running = running }

-- a pulse timer after one more call
next-after : (call : Call) (calls : List Call) (begins running : Bool) →
    running ≡ (is_before_end (begin_of (latest_pulse calls)) call && is_running (latest_pulse calls)) →
    begins ≡ ((call.signal && not (signal_of calls)) && not running) →
    pulse_after (call ∷ calls) ≡
    made call.signal (if begins then Some call.time else begin_of (latest_pulse calls))
    (if begins then is_before_end (Some call.time) call else running)
next-after call calls begins running r b =
    let p : List Call = latest_pulse calls in
    let rise : Bool = call.signal && not (signal_of calls) in
    let test : (rise && not (is_running (pulse_with call p))) ≡ begins =
    ap (λ x. rise && not x) (running-with call p ∙ sym r) ∙ sym b in
    ap (λ x. made call.signal (begin_of (if x then call ∷ [] else pulse_with call p))
    (is_running (if x then call ∷ [] else pulse_with call p))) test
    ∙ ap (λ x. made call.signal x (is_running (if begins then call ∷ [] else pulse_with call p)))
    (begin-next begins call p)
    ∙ ap (made call.signal (if begins then Some call.time else begin_of p))
    (running-next begins call p
    ∙ ap (λ x. if begins then is_before_end (Some call.time) call else x) (sym r))

-- the same of one that is known to be after the calls
pub next_pulse : (old : Pulse) (call : Call) (calls : List Call) (begins running : Bool) →
    old ≡ pulse_after calls → running ≡ (is_before_end old.begin call && old.running) →
    begins ≡ ((call.signal && not old.signal) && not running) →
    made call.signal (if begins then Some call.time else old.begin)
    (if begins then is_before_end (Some call.time) call else running) ≡
    pulse_after (call ∷ calls)
next_pulse old call calls begins running e =
    let P : Pulse → Type 0 = λ o.
    running ≡ (is_before_end o.begin call && o.running) →
    begins ≡ ((call.signal && not o.signal) && not running) →
    made call.signal (if begins then Some call.time else o.begin)
    (if begins then is_before_end (Some call.time) call else running) ≡
    pulse_after (call ∷ calls) in
    subst P (sym e) (λ r b. sym (next-after call calls begins running r b))
