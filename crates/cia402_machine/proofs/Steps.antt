-- A step makes one transition at most, and a fault comes first.
-- for: steps_are_single_transitions
use Rattle.std.specs.Prelude.{ℕ, zero, suc, ◌≡◌, ◌<◌, Bool, true, false, List, [], ◌∷◌, length, Option, None, Some, Contains}
use Rattle.std.specs.Option.{unwrap_or}
use Rattle.std.proofs.Common.{refl, ◌⊎◌, inl, inr, arith}
use Rattle.cia402_machine.specs.Controlword.{command_of_words}
use Rattle.cia402_machine.specs.Transitions.{Cause, transition_of, IsTransition, is_faulty}
use Rattle.cia402_machine.specs.Steps.{causes_of, stepped_by, drive_step_of}
use Rattle.cia402_machine.specs.declared.command.Command.{Command}
use Rattle.plc_types.specs.declared.drive.DriveState.{DriveState}
use Rattle.plc_types.specs.declared.drive.DriveState.TheVariants.{NotReady, SwitchOnDisabled, ReadyToSwitchOn, SwitchedOn, OperationEnabled, QuickStopActive, FaultReactionActive, Fault}

-- a state is that before, or the end of a transition by one of some causes
abbrev pub IsSingle : DriveState → List Cause → DriveState → Type 0
IsSingle state causes next = (next ≡ state) ⊎ ((cause : Cause) × Contains causes cause × IsTransition state cause next)

-- a cause further on in a list
later : (state next : DriveState) (first : Cause) (causes : List Cause) → IsSingle state causes next → IsSingle state (first ∷ causes) next
later state next first causes (inl e) = inl e
later state next first causes (inr (cause, place, leads)) =
    let below : suc place.0 < length (first ∷ causes) = let h = place.1 in omega arith in
    inr (cause, (suc place.0, below, place.2), leads)

single-by : (state : DriveState) (first : Cause) (causes : List Cause) (o : Option DriveState) → transition_of state first ≡ o →
    IsSingle state causes (stepped_by state causes) → IsSingle state (first ∷ causes) (unwrap_or o (stepped_by state causes))
single-by state first causes None e others = later state (stepped_by state causes) first causes others
single-by state first causes (Some next) e others =
    let below : zero < length (first ∷ causes) = omega arith in
    inr (first, (zero, below, refl), e)

single : (state : DriveState) (causes : List Cause) → IsSingle state causes (stepped_by state causes)
single state [] = inl refl
single state (first ∷ causes) = single-by state first causes (transition_of state first) refl (single state causes)

-- a step leaves the state or makes one transition
pub step-single : (state : DriveState) (last word : ℕ) (fault : Bool) →
    IsSingle state (causes_of fault (command_of_words last word)) (drive_step_of state last word fault)
unfolding drive_step_of
step-single state last word fault = single state (causes_of fault (command_of_words last word))

reaction : (state : DriveState) (command : Option Command) → is_faulty state ≡ false → stepped_by state (causes_of true command) ≡ FaultReactionActive
reaction NotReady None whole = refl
reaction NotReady (Some command) whole = refl
reaction SwitchOnDisabled None whole = refl
reaction SwitchOnDisabled (Some command) whole = refl
reaction ReadyToSwitchOn None whole = refl
reaction ReadyToSwitchOn (Some command) whole = refl
reaction SwitchedOn None whole = refl
reaction SwitchedOn (Some command) whole = refl
reaction OperationEnabled None whole = refl
reaction OperationEnabled (Some command) whole = refl
reaction QuickStopActive None whole = refl
reaction QuickStopActive (Some command) whole = refl
reaction FaultReactionActive command whole = absurd (cc)
reaction Fault command whole = absurd (cc)

-- a fault leads to the fault reaction
pub fault-reaction : (state : DriveState) (last word : ℕ) → is_faulty state ≡ false → drive_step_of state last word true ≡ FaultReactionActive
unfolding drive_step_of
fault-reaction state last word whole = reaction state (command_of_words last word) whole

ended : (command : Option Command) (fault : Bool) → stepped_by FaultReactionActive (causes_of fault command) ≡ Fault
ended None true = refl
ended None false = refl
ended (Some command) true = refl
ended (Some command) false = refl

-- the fault reaction ends in Fault
pub reaction-ends : (last word : ℕ) (fault : Bool) → drive_step_of FaultReactionActive last word fault ≡ Fault
unfolding drive_step_of
reaction-ends last word fault = ended (command_of_words last word) fault

ignored : (command : Option Command) (fault : Bool) → stepped_by Fault (causes_of fault command) ≡ stepped_by Fault (causes_of false command)
ignored None true = refl
ignored None false = refl
ignored (Some command) true = refl
ignored (Some command) false = refl

-- in Fault a further fault makes no difference
pub fault-ignored : (last word : ℕ) (fault : Bool) → drive_step_of Fault last word fault ≡ drive_step_of Fault last word false
unfolding drive_step_of
fault-ignored last word fault = ignored (command_of_words last word) fault
