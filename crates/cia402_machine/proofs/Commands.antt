-- The kernel's controlwords bring a drive to Operation enabled, and out of Fault.
-- for: commanded_drives_become_enabled, fault_resets_leave_fault
use Rattle.std.specs.Prelude.{ℕ, suc, ◌≡◌, ◌≤◌, Bool, true, false, not, ◌&&◌, List, [], ◌∷◌, length, Some, if◌then◌else◌}
use Rattle.std.proofs.Common.{refl, ◌∙◌, ap, arith}
use Rattle.cia402_machine.specs.Statusword.{state_of_word, status_of_state}
use Rattle.cia402_machine.specs.Controlword.{has_reset_bit, command_of_words, next_controlword_of}
use Rattle.cia402_machine.specs.Steps.{causes_of, stepped_by, drive_step_of}
use Rattle.cia402_machine.specs.Transitions.{is_faulty}
use Rattle.cia402_machine.specs.Commanded.{Commanded, Wishes, answered, commanded, commanded_on}
use Rattle.cia402_machine.proofs.Given.{given, command_of_words-given}
use Rattle.cia402_machine.specs.declared.command.Command.TheVariants.{DisableVoltage, FaultReset}
use Rattle.plc_types.specs.declared.drive.DriveState.{DriveState}
use Rattle.plc_types.specs.declared.drive.DriveState.TheVariants.{NotReady, SwitchOnDisabled, ReadyToSwitchOn, SwitchedOn, OperationEnabled, QuickStopActive, FaultReactionActive, Fault}

-- a statusword is read back
pub read-back : (state : DriveState) → state_of_word (status_of_state state) ≡ Some state
unfolding state_of_word
read-back NotReady = refl
read-back SwitchOnDisabled = refl
read-back ReadyToSwitchOn = refl
read-back SwitchedOn = refl
read-back OperationEnabled = refl
read-back QuickStopActive = refl
read-back FaultReactionActive = refl
read-back Fault = refl

-- the state one step nearer to Operation enabled
abbrev nearer : DriveState → DriveState
nearer NotReady = SwitchOnDisabled
nearer SwitchOnDisabled = ReadyToSwitchOn
nearer ReadyToSwitchOn = SwitchedOn
nearer SwitchedOn = OperationEnabled
nearer OperationEnabled = OperationEnabled
nearer QuickStopActive = SwitchOnDisabled
nearer state = state

-- how many steps Operation enabled is away
abbrev away : DriveState → ℕ
away NotReady = 4
away SwitchOnDisabled = 3
away ReadyToSwitchOn = 2
away SwitchedOn = 1
away OperationEnabled = 0
away QuickStopActive = 4
away state = 0

-- a step with power on and no fault
on-step : (state : DriveState) (last : ℕ) (reset : Bool) → is_faulty state ≡ false →
    drive_step_of state last (next_controlword_of (Some state) true reset last) false ≡ nearer state
unfolding drive_step_of command_of_words
on-step NotReady last reset whole = refl
on-step SwitchOnDisabled last reset whole = refl
on-step ReadyToSwitchOn last reset whole = refl
on-step SwitchedOn last reset whole = refl
on-step OperationEnabled last reset whole = refl
on-step QuickStopActive last reset whole = refl
on-step FaultReactionActive last reset whole = absurd (cc)
on-step Fault last reset whole = absurd (cc)

nearer-whole : (state : DriveState) → is_faulty state ≡ false → is_faulty (nearer state) ≡ false
nearer-whole NotReady whole = refl
nearer-whole SwitchOnDisabled whole = refl
nearer-whole ReadyToSwitchOn whole = refl
nearer-whole SwitchedOn whole = refl
nearer-whole OperationEnabled whole = refl
nearer-whole QuickStopActive whole = refl
nearer-whole FaultReactionActive whole = whole
nearer-whole Fault whole = whole

nearer-away : (state : DriveState) (n : ℕ) → is_faulty state ≡ false → away state ≤ suc n → away (nearer state) ≤ n
nearer-away NotReady n whole h = omega arith
nearer-away SwitchOnDisabled n whole h = omega arith
nearer-away ReadyToSwitchOn n whole h = omega arith
nearer-away SwitchedOn n whole h = omega arith
nearer-away OperationEnabled n whole h = omega arith
nearer-away QuickStopActive n whole h = omega arith
nearer-away FaultReactionActive n whole h = absurd (cc)
nearer-away Fault n whole h = absurd (cc)

away-none : (state : DriveState) → is_faulty state ≡ false → away state ≤ 0 → state ≡ OperationEnabled
away-none NotReady whole h = absurd (omega arith)
away-none SwitchOnDisabled whole h = absurd (omega arith)
away-none ReadyToSwitchOn whole h = absurd (omega arith)
away-none SwitchedOn whole h = absurd (omega arith)
away-none OperationEnabled whole h = refl
away-none QuickStopActive whole h = absurd (omega arith)
away-none FaultReactionActive whole h = absurd (cc)
away-none Fault whole h = absurd (cc)

away-most : (state : DriveState) → away state ≤ 4
away-most NotReady = omega arith
away-most SwitchOnDisabled = omega arith
away-most ReadyToSwitchOn = omega arith
away-most SwitchedOn = omega arith
away-most OperationEnabled = omega arith
away-most QuickStopActive = omega arith
away-most FaultReactionActive = omega arith
away-most Fault = omega arith

on-state : (drive : Commanded) (reset : Bool) → is_faulty drive.state ≡ false →
    (commanded (record { power = true; reset = reset; fault = false }) drive).state ≡ nearer drive.state
on-state drive reset whole =
    ap (λ o. drive_step_of drive.state drive.last (next_controlword_of o true reset drive.last) false) (read-back drive.state)
    ∙ on-step drive.state drive.last reset whole

-- as many steps as it is away bring a drive to Operation enabled, and more keep it there
enabled-after : (resets : List Bool) (drive : Commanded) → is_faulty drive.state ≡ false → away drive.state ≤ length resets →
    (commanded_on resets drive).state ≡ OperationEnabled
enabled-after [] drive whole near = away-none drive.state whole near
enabled-after (reset ∷ resets) drive whole near =
    let after = commanded (record { power = true; reset = reset; fault = false }) drive in
    let e : after.state ≡ nearer drive.state = on-state drive reset whole in
    let closer : away (nearer drive.state) ≤ length resets = nearer-away drive.state (length resets) whole near in
    enabled-after resets after (rw e (nearer-whole drive.state whole)) (rw e closer)

pub enabled : (drive : Commanded) (resets : List Bool) → is_faulty drive.state ≡ false → 4 ≤ length resets →
    (commanded_on resets drive).state ≡ OperationEnabled
enabled drive resets whole enough = let most = away-most drive.state in enabled-after resets drive whole (omega arith)

-- what a drive in Fault is given
answered-fault : (drive : Commanded) (wishes : Wishes) → drive.state ≡ Fault →
    answered wishes drive ≡ (if wishes.reset && not (has_reset_bit drive.last) then 128 else 0)
answered-fault drive wishes faulty =
    ap (λ o. next_controlword_of o wishes.power wishes.reset drive.last) (read-back drive.state)
    ∙ ap (λ s. next_controlword_of (Some s) wishes.power wishes.reset drive.last) faulty

given-reset : (last : ℕ) → has_reset_bit last ≡ false → command_of_words last 128 ≡ Some FaultReset
unfolding given
given-reset last fresh = command_of_words-given last 128 ∙ ap (λ before. given before 128) fresh

given-none : (last : ℕ) → command_of_words last 0 ≡ Some DisableVoltage
unfolding given
given-none last = command_of_words-given last 0

leaves : (fault : Bool) → stepped_by Fault (causes_of fault (Some FaultReset)) ≡ SwitchOnDisabled
leaves true = refl
leaves false = refl

stays : (fault : Bool) → stepped_by Fault (causes_of fault (Some DisableVoltage)) ≡ Fault
stays true = refl
stays false = refl

reset-step : (last : ℕ) (fault : Bool) → has_reset_bit last ≡ false → drive_step_of Fault last 128 fault ≡ SwitchOnDisabled
unfolding drive_step_of
reset-step last fault fresh = ap (λ o. stepped_by Fault (causes_of fault o)) (given-reset last fresh) ∙ leaves fault

none-step : (last : ℕ) (fault : Bool) → drive_step_of Fault last 0 fault ≡ Fault
unfolding drive_step_of
none-step last fault = ap (λ o. stepped_by Fault (causes_of fault o)) (given-none last) ∙ stays fault

none_of : (reset before : Bool) → before ≡ true → ◌≡◌ {A = ℕ} (if reset && not before then 128 else 0) 0
none_of true before used = rw used refl
none_of false before used = refl

both : (drive : Commanded) (state : DriveState) (last : ℕ) → drive.state ≡ state → drive.last ≡ last → drive ≡ record { state = state; last = last }
both drive state last a b =
    let of_state : DriveState → Commanded = λ s. record { state = s; last = drive.last } in
    let of_last : ℕ → Commanded = λ n. record { state = state; last = n } in
    ap of_state a ∙ ap of_last b

-- a fault reset that rises leaves Fault
pub leaves-fault : (drive : Commanded) (wishes : Wishes) → drive.state ≡ Fault → wishes.reset ≡ true → has_reset_bit drive.last ≡ false →
    (commanded wishes drive).state ≡ SwitchOnDisabled
leaves-fault drive wishes faulty wished fresh =
    let word : answered wishes drive ≡ 128 = answered-fault drive wishes faulty ∙ rw (wished, fresh) refl in
    rw (word, faulty) (reset-step drive.last wishes.fault fresh)

-- the word after a fault reset has its bit zero
pub drops-reset : (drive : Commanded) (wishes : Wishes) → drive.state ≡ Fault → has_reset_bit drive.last ≡ true →
    commanded wishes drive ≡ record { state = Fault; last = 0 }
drops-reset drive wishes faulty used =
    let word : answered wishes drive ≡ 0 = answered-fault drive wishes faulty ∙ none_of wishes.reset (has_reset_bit drive.last) used in
    let state : drive_step_of drive.state drive.last (answered wishes drive) wishes.fault ≡ Fault =
    rw (word, faulty) (none-step drive.last wishes.fault) in
    both (commanded wishes drive) Fault 0 state word

-- after it the next fault reset leaves Fault
pub leaves-after : (drive : Commanded) (first second : Wishes) → drive.state ≡ Fault → has_reset_bit drive.last ≡ true → second.reset ≡ true →
    (commanded second (commanded first drive)).state ≡ SwitchOnDisabled
leaves-after drive first second faulty used wished =
    let between : Commanded = record { state = Fault; last = 0 } in
    ap (λ (d : Commanded). (commanded second d).state) (drops-reset drive first faulty used)
    ∙ leaves-fault between second refl wished refl
