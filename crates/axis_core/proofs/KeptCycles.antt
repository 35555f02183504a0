-- What a cycle keeps of an axis.
-- for: power, command, calls_move_no_axis and others
use Rattle.std.specs.Prelude.{◌≡◌, refl, ◌⊎◌, ℕ, ◌≤◌, Bool, true, false, not, ◌&&◌, ◌||◌, nat_eq, ℤ, pos, ◌≤ℤ◌, ◌-ℤ◌, unsigned_abs, Option, Some, None, is_some, List, [], ◌++◌, slice_get, if◌then◌else◌}
use Rattle.std.proofs.lemmas.Bool.{and_parts, not-true, or_left}
use Rattle.std.specs.Ordering.{int_eq}
use Rattle.std.proofs.Common.{◌∙◌, sym, ap, subst, arith, inl, inr}
use Rattle.std.proofs.lemmas.Int.{ints}
use Rattle.plc_types.specs.Counts.{IsCount}
use Rattle.plc_types.specs.declared.axis_state.AxisState.{AxisState}
use Rattle.plc_types.specs.declared.axis_state.AxisState.TheVariants as state
use Rattle.cia402_machine.specs.Statusword.{state_of_word}
use Rattle.plc_types.specs.declared.drive.TheConstants.{CYCLIC_SYNCHRONOUS_POSITION}
use Rattle.plc_types.specs.declared.drive.DriveIn.{DriveIn}
use Rattle.plc_types.specs.declared.drive.DriveState.{DriveState}
use Rattle.plc_types.specs.declared.drive.DriveState.TheVariants as drive
use Rattle.command_pool.specs.Waiting.{queue_of}
use Rattle.command_pool.specs.declared.notes.Note.{Note}
use Rattle.command_pool.specs.declared.wanted.Wanted.{Wanted}
use Rattle.plc_types.specs.Limits.{AreLimits}
use Rattle.kin_core.specs.Admissible.{IsKept, IsSafe}
use Rattle.plc_types.specs.declared.limits.Limits.{Limits}
use Rattle.axis_core.specs.AxisKept.{AreWaiting, IsActive, IsBased, IsCoreKept, IsInState, IsLook, IsRunning, IsSet, MayQueue}
use Rattle.axis_core.specs.Cores.{Core, core_at, core_after_error}
use Rattle.axis_core.specs.Cycles.{advance_in_cycle, advance_without_error, core_after_answer, axis_after_braking, core_after_cycle, axis_after_word, core_after_going_on, core_after_advance, core_after_reset, core_after_step}
use Rattle.axis_core.specs.Drives.{actual_of, answer_error_of, has_fault, is_driven, is_enabled, is_operational, is_within, new_error_of, reads_fault, axis_at_drive}
use Rattle.axis_core.specs.Kept.{HasDrive, MayGoOn}
use Rattle.motion_numbers.specs.Ranges.{is_outside}
use Rattle.axis_state.specs.States.{is_error_stop, is_stopping}
use Rattle.buffer_modes.specs.Owners.{is_released}
use Rattle.axis_core.specs.blocks.Halts.{is_at_rest, axis_after_stop}
use Rattle.axis_core.specs.blocks.Path.{is_on_path, place_on_path}
use Rattle.axis_core.specs.blocks.Power.{state_when_driven, is_powered}
use Rattle.axis_core.specs.blocks.Reset.{after_reset, may_reset, reset_axis, state_after_reset, reset_notes}
use Rattle.axis_core.specs.declared.axis.Axis.{Axis}
use Rattle.buffer_modes.specs.declared.reset.PendingReset.{PendingReset}
use Rattle.axis_core.specs.declared.look.AxisLook.{AxisLook}
use Rattle.axis_core.proofs.KeptMoves.{Laws, OffsetsAreSmall, by-command, concluded, takes-place, brakes, stopped-idle, idle-of, eq-of}
use Rattle.axis_core.proofs.KeptRanges.{go-on-of}
use Rattle.axis_core.proofs.KeptParts.{Based, Runs, IsGoing, failed-kept, not-outside}

-- what a cycle brings, with a drive's count of 32 bits
pub record IsSeen (a : Axis) (look : AxisLook) : Type 0 where
  pub brought : IsLook a look
  pub actual : IsCount look.input.actual

-- a place that is safe after the axis's setpoints is kept
kept-place : (l : Limits) (previous setpoint place : ℤ) → IsSafe l previous setpoint place → IsKept l setpoint place
kept-place l previous setpoint place s = record {
  above = s.admissible.above;
  below = s.admissible.below;
  speed = s.admissible.speed;
  stoppable = s.stoppable;
}

-- a place that is given is on the path
pub on-place : (on : Bool) (path : Option ℤ) (place : ℤ) → (if on then path else None) ≡ Some place → (on ≡ true) × (path ≡ Some place)
on-place true path place h = (refl, h)
on-place false path place h = absurd (cc)

-- an axis that no error stops
placed-going : Laws → (o : Option ℤ) (look : AxisLook) (c : Core) → IsLook c.axis look → IsCoreKept c → Runs c.axis → place_on_path c.axis look ≡ o →
    IsGoing (concluded (advance_without_error o (slice_get c.waiting 0) look c.axis) c)
placed-going g None look c i k r e = by-command g look c k r
placed-going g (Some place) look c i k r e =
    let p = on-place (is_on_path c.axis) look.path place e in
    takes-place g place look.path_ends c k r p.0 (kept-place c.axis.limits c.axis.previous c.axis.setpoint place (i.place p.0 place p.1)) (i.ends p.0 place p.1)

-- the step of a cycle
moved-going : Laws → (look : AxisLook) (c : Core) → IsLook c.axis look → IsCoreKept c → Runs c.axis → IsGoing (core_after_advance look c)
unfolding advance_in_cycle
moved-going g look c i k r =
    elim (is_error_stop c.axis.state) as (λ b. is_error_stop c.axis.state ≡ b →
    IsGoing (concluded (if b then record { axis = axis_after_braking c.axis; ending = None } else advance_without_error (place_on_path c.axis look) (slice_get c.waiting 0) look c.axis) c))
    [ true ↦ λ h. brakes g c k r h | false ↦ λ h. placed-going g (place_on_path c.axis look) look c i k r refl ] refl

stopping-empty : (s : AxisState) (active : Option Wanted) (ws : List Wanted) → is_stopping s ≡ true → (ws ≡ []) ⊎ MayQueue s active → ws ≡ []
stopping-empty s active ws h (inl e) = e
stopping-empty state.Stopping active ws h (inr q) = absurd q
stopping-empty _ active ws h (inr q) = absurd (cc)

-- an axis that leaves Stopping
stop_left-going : (look : AxisLook) (c : Core) → IsGoing c → IsGoing (record c { axis = axis_after_stop look c.axis })
stop_left-going look c going =
    let a = c.axis in
    elim (is_stopping a.state && not (is_some a.active) && is_at_rest a && is_released a.hold look.stop_held) as
    (λ b. (is_stopping a.state && not (is_some a.active) && is_at_rest a && is_released a.hold look.stop_held) ≡ b →
    IsGoing (record c { axis = (if b then record a { state = state.Standstill; hold = None } else a) })) [
      | true ↦ λ h.
          let p = and_parts (is_stopping a.state && not (is_some a.active) && is_at_rest a) (is_released a.hold look.stop_held) h in
          let q = and_parts (is_stopping a.state && not (is_some a.active)) (is_at_rest a) p.0 in
          let t = and_parts (is_stopping a.state) (not (is_some a.active)) q.0 in
          record {
            runs = going.runs;
            kept = record {
              axis = record {
                base = going.kept.axis.base;
                state = record { running = going.runs; stands = sym (eq-of a.setpoint a.previous q.1); idle = idle-of a.active t.1 };
                active = λ w e. absurd (let idle = idle-of a.active t.1 in cc);
              };
              waiting = going.kept.waiting;
              queue = inl (stopping-empty a.state a.active c.waiting t.0 going.kept.queue);
            };
          }
      | false ↦ λ h. going
    ] refl

-- a driven spell that goes on
pub gone_on-going : Laws → (look : AxisLook) (c : Core) → IsLook c.axis look → IsCoreKept c → Runs c.axis → IsGoing (core_after_going_on look c)
gone_on-going g look c i k r = stop_left-going look (core_after_advance look c) (moved-going g look c i k r)

-- an axis after a cycle is kept, and power is on where it is driven
pub record IsRun (c : Core) : Type 0 where
  pub kept : IsCoreKept c
  pub power : c.axis.driven ≡ true → is_powered c.axis ≡ true

-- what being driven says
pub driven-says : (a : Axis) (input : DriveIn) → is_driven a input ≡ true → (is_powered a ≡ true) × (is_operational input ≡ true) × ((a.driven || is_within a input) ≡ true)
driven-says a input h =
    let p = and_parts (is_powered a && is_operational input) (a.driven || is_within a input) h in
    let q = and_parts (is_powered a) (is_operational input) p.0 in
    (q.0, q.1, p.1)

-- the drive's place is small
actual-small : Laws → (a : Axis) (input : DriveIn) → Based a → IsCount input.actual → unsigned_abs (actual_of a input) ≤ 5000000000000000000
actual-small g a input b count =
    let lo = b.limits.lo_in_range in
    let n = g.near a.limits.lo input.actual a.offset a.inc b.least b.most count in
    let o = g.offsets a.limits a.offset a.inc b.least b.most (omega (arith, ints, lo)) b.limits.ordered b.top b.counts in
    omega (arith, ints, n, o)

standing-set : Laws → (driven : Bool) (a : Axis) (input : DriveIn) → Based a → IsCount input.actual → (driven ≡ true → is_within a input ≡ true) →
    IsSet driven a.limits (actual_of a input) (actual_of a input)
standing-set g true a input b count within =
    let inside = not-outside a.limits.lo (actual_of a input) a.limits.hi (not-true (is_outside a.limits.lo (actual_of a input) a.limits.hi) (within refl)) in
    g.standing a.limits (actual_of a input) b.limits inside.above inside.below
standing-set g false a input b count within = record { stands = refl; small = actual-small g a input b count }

-- an axis that stands where its drive does
standing-based : Laws → (driven : Bool) (a : Axis) (input : DriveIn) → Based a → IsCount input.actual → (driven ≡ true → is_within a input ≡ true) →
    IsBased a.limits a.inc a.offset (actual_of a input) (actual_of a input) driven
standing-based g driven a input b count within = record {
  limits = b.limits;
  top = b.top;
  least = b.least;
  most = b.most;
  counts = b.counts;
  count = subst IsCount (sym (g.read_back a.limits.lo input.actual a.offset a.inc b.least)) count;
  set = standing-set g driven a input b count within;
}

-- the states in which an axis stands where its drive does
abbrev pub IsStill : AxisState → Type 0
IsStill state.Disabled = Unit {0}
IsStill state.ErrorStop = Unit {0}
IsStill s = ⊥

still-in : (s : AxisState) (driven powered off : Bool) (p : ℤ) (active : Option Wanted) → IsStill s → (driven ≡ true → powered ≡ true) → active ≡ None →
    IsInState (state_when_driven driven s) driven powered off p p active
still-in state.Disabled true powered off p active h power none = record { running = record { on = refl; power = power refl }; stands = refl; idle = none }
still-in state.Disabled false powered off p active h power none = record { idle = none; off = λ e. absurd (cc) }
still-in state.ErrorStop true powered off p active h power none = none
still-in state.ErrorStop false powered off p active h power none = none
still-in _ driven powered off p active h power none = absurd h

-- the axis stands, Disabled or in ErrorStop
pub standing-run : Laws → (driven : Bool) (input : DriveIn) (c : Core) → Based c.axis → IsCount input.actual → (driven ≡ true → is_within c.axis input ≡ true) →
    (driven ≡ true → is_powered c.axis ≡ true) → c.axis.active ≡ None → c.waiting ≡ [] → (s : AxisState) → c.axis.state ≡ s → IsStill s → IsRun (record c { axis = axis_at_drive driven input c.axis })
standing-run g driven input c b count within power none empty s e still = record {
  power = power;
  kept = record {
    axis = record {
      base = standing-based g driven c.axis input b count within;
      state = let P : AxisState → Type 0 = λ x. IsInState (state_when_driven driven x) driven (is_powered c.axis) c.axis.was_off (actual_of c.axis input) (actual_of c.axis input) c.axis.active in
          subst P (sym e) (still-in s driven (is_powered c.axis) c.axis.was_off (actual_of c.axis input) c.axis.active still power none);
      active = λ w h. absurd (cc);
    };
    waiting = let P : List Wanted → Type 0 = AreWaiting c.axis.limits in subst P (sym empty) tt;
    queue = inl empty;
  };
}

-- a drive with a fault is not operational
fault-stops : (o : Option DriveState) (mode : Bool) → reads_fault o ≡ true → (is_enabled o && mode) ≡ false
fault-stops None mode h = absurd (cc)
fault-stops (Some drive.OperationEnabled) mode h = absurd (cc)
fault-stops (Some _) mode h = refl

-- an error that comes ends a driven spell
error-ends : (stop fault powered operational driven within : Bool) → (fault ≡ true → operational ≡ false) →
    nat_eq (if stop then 0 else if fault then 101 else if powered && driven && not operational then 102
    else if powered && operational && not driven && not within then 105 else 0) 0 ≡ false →
    ((powered && operational && (driven || within)) && driven) ≡ false
error-ends true fault powered operational driven within f h = absurd (cc)
error-ends false fault false operational driven within f h = refl
error-ends false fault true false driven within f h = refl
error-ends false fault true true false true f h = refl
error-ends false fault true true false false f h = refl
error-ends false true true true true within f h = absurd (let x : true ≡ false = f refl in cc)
error-ends false false true true true within f h = absurd (cc)

-- without an error a drive that was driven with power on is operational
operational-of : (fault powered operational driven within : Bool) → powered ≡ true → driven ≡ true →
    nat_eq (if fault then 101 else if powered && driven && not operational then 102 else if powered && operational && not driven && not within then 105 else 0) 0 ≡ true →
    operational ≡ true
operational-of fault powered true driven within p d h = refl
operational-of true true false true within p d h = absurd (cc)
operational-of false true false true within p d h = absurd (cc)
operational-of fault false false driven within p d h = absurd (cc)
operational-of fault true false false within p d h = absurd (cc)

pub error-not-driven : (a : Axis) (input : DriveIn) → nat_eq (answer_error_of a input) 0 ≡ false → (is_driven a input && a.driven) ≡ false
unfolding answer_error_of
error-not-driven a input h =
    error-ends (is_error_stop a.state) (has_fault input) (is_powered a) (is_operational input) a.driven (is_within a input)
    (fault-stops (state_of_word input.statusword) (int_eq input.mode_display CYCLIC_SYNCHRONOUS_POSITION)) h

pub driven-without-error : (a : Axis) (input : DriveIn) → is_error_stop a.state ≡ false → is_powered a ≡ true → a.driven ≡ true → nat_eq (answer_error_of a input) 0 ≡ true →
    is_operational input ≡ true
unfolding answer_error_of
driven-without-error a input s p d h =
    let new : nat_eq (new_error_of a input) 0 ≡ true = rw s at h in
    operational-of (has_fault input) (is_powered a) (is_operational input) a.driven (is_within a input) p d new

-- an axis that does not run is still
still-of : (s : AxisState) (driven powered off : Bool) (p q : ℤ) (active : Option Wanted) → IsInState s driven powered off p q active →
    (is_error_stop s ≡ false → IsRunning driven powered → ⊥) → IsStill s × (active ≡ None)
still-of state.Disabled driven powered off p q active i never = (tt, i.idle)
still-of state.ErrorStop driven powered off p q active i never = (tt, i)
still-of state.Standstill driven powered off p q active i never = absurd (never refl i.running)
still-of state.Homing driven powered off p q active i never = absurd (never refl i.running)
still-of state.Stopping driven powered off p q active i never = absurd (never refl i)
still-of state.DiscreteMotion driven powered off p q active i never = absurd (never refl i)
still-of state.ContinuousMotion driven powered off p q active i never = absurd (never refl i)
still-of state.SynchronizedMotion driven powered off p q active i never = absurd (never refl i)

still-empty : (s : AxisState) (active : Option Wanted) (ws : List Wanted) → IsStill s → (ws ≡ []) ⊎ MayQueue s active → ws ≡ []
still-empty s active ws h (inl e) = e
still-empty state.Disabled active ws h (inr q) = absurd q
still-empty state.ErrorStop active ws h (inr q) = absurd q
still-empty _ active ws h (inr q) = absurd h

-- a spell that begins stands within the limits
pub begins-within : (driven before within : Bool) → (driven && before) ≡ false → driven ≡ true → (before || within) ≡ true → within ≡ true
begins-within driven before true h d w = refl
begins-within driven true false h d w = absurd (cc)
begins-within driven false false h d w = absurd (cc)

-- all three say that the axis is driven
pub all-three : (x y z : Bool) → x ≡ true → y ≡ true → z ≡ true → (x && y && z) ≡ true
all-three true true true a b c = refl
all-three false y z a b c = absurd (cc)
all-three true false z a b c = absurd (cc)
all-three true true false a b c = absurd (cc)

-- an axis without an error that doesn't go on is still
pub still-cycle : (look : AxisLook) (c : Core) → IsCoreKept c → nat_eq (answer_error_of c.axis look.input) 0 ≡ true →
    (is_driven c.axis look.input && c.axis.driven) ≡ false → IsStill c.axis.state × (c.axis.active ≡ None)
still-cycle look c k none h =
    let a = c.axis in
    let d = is_driven a look.input in
    still-of a.state a.driven (is_powered a) a.was_off a.previous a.setpoint a.active k.axis.state (λ s r.
    let op = driven-without-error a look.input s r.power r.on none in
    let on : d ≡ true = all-three (is_powered a) (is_operational look.input) (a.driven || is_within a look.input) r.power op (or_left a.driven (is_within a look.input) r.on) in
    let whole : (d && a.driven) ≡ true = rw (on, r.on) refl in
    let bad : true ≡ false = sym whole ∙ h in absurd (cc))

-- an axis without an error runs, or stands
run-without-error : Laws → (look : AxisLook) (c : Core) → IsSeen c.axis look → IsCoreKept c → nat_eq (answer_error_of c.axis look.input) 0 ≡ true →
    IsRun (core_after_step look (is_driven c.axis look.input) c)
run-without-error g look c i k none =
    let a = c.axis in
    let d = is_driven a look.input in
    elim (d && a.driven) as (λ b. (d && a.driven) ≡ b → IsRun (if b then core_after_going_on look c else record c { axis = axis_at_drive d look.input a })) [
      | true ↦ λ h.
          let p = and_parts d a.driven h in
          let going = gone_on-going g look c i.brought k (record { on = p.1; power = (driven-says a look.input p.0).0 }) in
          record { kept = going.kept; power = λ on. going.runs.power }
      | false ↦ λ h.
          let still = still-cycle look c k none h in
          standing-run g d look.input c k.axis.base i.actual (λ on. begins-within d a.driven (is_within a look.input) h on (driven-says a look.input on).2)
          (λ on. (driven-says a look.input on).0) still.1 (still-empty a.state a.active c.waiting still.0 k.queue) a.state refl still.0
    ] refl

-- an axis with an error stands
run-with-error : Laws → (n : ℕ) (look : AxisLook) (c : Core) → IsSeen c.axis look → IsCoreKept c → (is_driven c.axis look.input && c.axis.driven) ≡ false →
    IsRun (core_after_step look (is_driven c.axis look.input) (core_after_error n c))
unfolding core_after_error
run-with-error g n look c i k h =
    let a = c.axis in
    let d = is_driven a look.input in
    rw h (standing-run g d look.input (core_after_error n c) k.axis.base i.actual (λ on. begins-within d a.driven (is_within a look.input) h on (driven-says a look.input on).2)
    (λ on. (driven-says a look.input on).0) refl refl state.ErrorStop refl tt)

pub run-of : Laws → (look : AxisLook) (c : Core) → IsSeen c.axis look → IsCoreKept c → IsRun (core_after_step look (is_driven c.axis look.input) (core_after_answer look.input c))
run-of g look c i k =
    elim (nat_eq (answer_error_of c.axis look.input) 0) as (λ b. nat_eq (answer_error_of c.axis look.input) 0 ≡ b →
    IsRun (core_after_step look (is_driven c.axis look.input) (if b then c else core_after_error (answer_error_of c.axis look.input) c))) [
      | true ↦ λ h. run-without-error g look c i k h
      | false ↦ λ h. run-with-error g (answer_error_of c.axis look.input) look c i k (error-not-driven c.axis look.input h)
    ] refl

-- an axis whose drive's answer is read is kept
pub answered-kept : (input : DriveIn) (c : Core) → IsCoreKept c → IsCoreKept (core_after_answer input c)
answered-kept input c k =
    elim (nat_eq (answer_error_of c.axis input) 0) as (λ b. IsCoreKept (if b then c else core_after_error (answer_error_of c.axis input) c))
    [ true ↦ k | false ↦ failed-kept (answer_error_of c.axis input) c k.axis.base ]

-- what a Reset leaves of the state
reset-in : (s : AxisState) (driven powered off : Bool) (p q : ℤ) (active : Option Wanted) → (driven ≡ true → powered ≡ true) → (is_error_stop s ≡ true → driven ≡ true → p ≡ q) →
    IsInState s driven powered off p q active → IsInState (state_after_reset driven s) driven powered off p q active
reset-in state.ErrorStop true powered off p q active on rest i = record { running = record { on = refl; power = on refl }; stands = rest refl refl; idle = i }
reset-in state.ErrorStop false powered off p q active on rest i = record { idle = i; off = λ d. absurd (cc) }
reset-in state.Disabled true powered off p q active on rest i = i
reset-in state.Disabled false powered off p q active on rest i = i
reset-in state.Standstill true powered off p q active on rest i = i
reset-in state.Standstill false powered off p q active on rest i = i
reset-in state.Homing true powered off p q active on rest i = i
reset-in state.Homing false powered off p q active on rest i = i
reset-in state.Stopping true powered off p q active on rest i = i
reset-in state.Stopping false powered off p q active on rest i = i
reset-in state.DiscreteMotion true powered off p q active on rest i = i
reset-in state.DiscreteMotion false powered off p q active on rest i = i
reset-in state.ContinuousMotion true powered off p q active on rest i = i
reset-in state.ContinuousMotion false powered off p q active on rest i = i
reset-in state.SynchronizedMotion true powered off p q active on rest i = i
reset-in state.SynchronizedMotion false powered off p q active on rest i = i

-- outside ErrorStop a Reset leaves the state
pub reset-same : (s : AxisState) (driven : Bool) → is_error_stop s ≡ false → state_after_reset driven s ≡ s
reset-same state.ErrorStop driven h = absurd (cc)
reset-same state.Disabled true h = refl
reset-same state.Disabled false h = refl
reset-same state.Standstill true h = refl
reset-same state.Standstill false h = refl
reset-same state.Homing true h = refl
reset-same state.Homing false h = refl
reset-same state.Stopping true h = refl
reset-same state.Stopping false h = refl
reset-same state.DiscreteMotion true h = refl
reset-same state.DiscreteMotion false h = refl
reset-same state.ContinuousMotion true h = refl
reset-same state.ContinuousMotion false h = refl
reset-same state.SynchronizedMotion true h = refl
reset-same state.SynchronizedMotion false h = refl

-- an active command is so after a Reset
reset-active : (s : AxisState) (driven powered off : Bool) (p q : ℤ) (active : Option Wanted) (l : Limits) (inc offset setpoint : ℤ) (w : Wanted) → active ≡ Some w →
    IsInState s driven powered off p q active → IsActive s l inc offset setpoint w → IsActive (state_after_reset driven s) l inc offset setpoint w
reset-active s driven powered off p q active l inc offset setpoint w e i a =
    elim (is_error_stop s) as (λ b. is_error_stop s ≡ b → IsActive (state_after_reset driven s) l inc offset setpoint w) [
      | true ↦ λ h. absurd (let idle = stopped-idle s driven powered off p q active h i in cc)
      | false ↦ λ h. let P : AxisState → Type 0 = λ x. IsActive x l inc offset setpoint w in subst P (sym (reset-same s driven h)) a
    ] refl

no-queue : (s : AxisState) (active : Option Wanted) → is_error_stop s ≡ true → MayQueue s active → ⊥
no-queue state.ErrorStop active h q = q
no-queue _ active h q = absurd (cc)

reset-queue : (s : AxisState) (driven : Bool) (active : Option Wanted) (ws : List Wanted) → (ws ≡ []) ⊎ MayQueue s active → (ws ≡ []) ⊎ MayQueue (state_after_reset driven s) active
reset-queue s driven active ws (inl e) = inl e
reset-queue state.ErrorStop driven active ws (inr q) = absurd q
reset-queue s driven active ws (inr q) =
    elim (is_error_stop s) as (λ b. is_error_stop s ≡ b → (ws ≡ []) ⊎ MayQueue (state_after_reset driven s) active) [
      | true ↦ λ h. absurd (no-queue s active h q)
      | false ↦ λ h. let P : AxisState → Type 0 = λ x. (ws ≡ []) ⊎ MayQueue x active in subst P (sym (reset-same s driven h)) (inr q)
    ] refl

third : (stop fault driven rest : Bool) → (not stop || (not fault && (not driven || rest))) ≡ true → stop ≡ true → driven ≡ true → rest ≡ true
third stop fault driven true h s d = refl
third true false true false h s d = absurd (cc)
third true true true false h s d = absurd (cc)
third false fault driven false h s d = absurd (cc)
third true fault false false h s d = absurd (cc)

-- the axis rests where a Reset may be done in ErrorStop
rest-to-reset : (input : DriveIn) (a : Axis) → may_reset input a ≡ true → is_error_stop a.state ≡ true → a.driven ≡ true → a.previous ≡ a.setpoint
rest-to-reset input a h s d =
    let rest : is_at_rest a ≡ true = third (is_error_stop a.state) (has_fault input) a.driven (is_at_rest a) h s d in
    sym (eq-of a.setpoint a.previous rest)

-- an axis after its Reset
after_reset-run : (input : DriveIn) (c : Core) → IsRun c → may_reset input c.axis ≡ true → IsRun (record c { axis = after_reset c.axis })
after_reset-run input c r may =
    let a = c.axis in
    let k = r.kept in
    record {
      power = r.power;
      kept = record {
        axis = record {
          base = k.axis.base;
          state = reset-in a.state a.driven (is_powered a) a.was_off a.previous a.setpoint a.active r.power (rest-to-reset input a may) k.axis.state;
          active = λ w h. reset-active a.state a.driven (is_powered a) a.was_off a.previous a.setpoint a.active a.limits a.inc a.offset a.setpoint w h k.axis.state (k.axis.active w h);
        };
        waiting = k.waiting;
        queue = reset-queue a.state a.driven a.active c.waiting k.queue;
      };
    }

reset-run-by : (o : Option PendingReset) (input : DriveIn) (c : Core) → IsRun c → IsRun (record c { axis = reset_axis o input c.axis })
reset-run-by None input c r = r
reset-run-by (Some p) input c r =
    elim (may_reset input c.axis) as (λ b. may_reset input c.axis ≡ b → IsRun (record c { axis = (if b then after_reset c.axis else c.axis) }))
    [ true ↦ λ h. after_reset-run input c r h | false ↦ λ h. r ] refl

-- notes are of no account
run-noted : (c d : Core) → IsRun c → d.axis ≡ c.axis → d.waiting ≡ c.waiting → IsRun d
run-noted c d r a w =
    let P : Axis → Type 0 = λ x. IsRun (record { axis = x; waiting = c.waiting; notes = d.notes }) in
    let Q : List Wanted → Type 0 = λ x. IsRun (record { axis = d.axis; waiting = x; notes = d.notes }) in
    subst Q (sym w) (subst P (sym a) (record { kept = record { axis = r.kept.axis; waiting = r.kept.waiting; queue = r.kept.queue }; power = r.power }))

reset-run : (input : DriveIn) (c : Core) → IsRun c → IsRun (core_after_reset input c)
reset-run input c r = run-noted (record c { axis = reset_axis c.axis.reset input c.axis }) (core_after_reset input c) (reset-run-by c.axis.reset input c r) refl refl

-- what is on stays on
given-in : (s : AxisState) (driven powered off now : Bool) (p q : ℤ) (active : Option Wanted) → (powered ≡ true → now ≡ true) → (driven ≡ true → powered ≡ true) → (off ≡ true → powered ≡ false) →
    IsInState s driven powered off p q active → IsInState s driven now false p q active
given-in state.Disabled driven powered off now p q active up on barred i = record { idle = i.idle; off = λ d. absurd (let x = barred (i.off d) in let y = on d in cc) }
given-in state.ErrorStop driven powered off now p q active up on barred i = i
given-in state.Standstill driven powered off now p q active up on barred i = record { running = record { on = i.running.on; power = up i.running.power }; stands = i.stands; idle = i.idle }
given-in state.Homing driven powered off now p q active up on barred i = record { running = record { on = i.running.on; power = up i.running.power }; stands = i.stands }
given-in state.Stopping driven powered off now p q active up on barred i = record { on = i.on; power = up i.power }
given-in state.DiscreteMotion driven powered off now p q active up on barred i = record { on = i.on; power = up i.power }
given-in state.ContinuousMotion driven powered off now p q active up on barred i = record { on = i.on; power = up i.power }
given-in state.SynchronizedMotion driven powered off now p q active up on barred i = record { on = i.on; power = up i.power }

still-on : (power off : Bool) → (power && not off) ≡ true → (power && true) ≡ true
still-on true off h = refl
still-on false off h = absurd (cc)

off-stops : (power off : Bool) → off ≡ true → (power && not off) ≡ false
off-stops true true h = refl
off-stops false true h = refl
off-stops power false h = absurd (cc)

given-kept : (input : DriveIn) (c : Core) → IsRun c → IsCoreKept (record c { axis = axis_after_word input c.axis })
given-kept input c r =
    let a = c.axis in
    record {
      axis = record {
        base = r.kept.axis.base;
        state = given-in a.state a.driven (is_powered a) a.was_off (a.power && true) a.previous a.setpoint a.active (still-on a.power a.was_off) r.power (off-stops a.power a.was_off) r.kept.axis.state;
        active = r.kept.axis.active;
      };
      waiting = r.kept.waiting;
      queue = r.kept.queue;
    }

-- a cycle keeps the axis
pub cycled-kept : Laws → (look : AxisLook) (c : Core) → IsSeen c.axis look → IsCoreKept c → IsCoreKept (core_after_cycle look c)
unfolding core_after_cycle
cycled-kept g look c i k =
    given-kept look.input (core_after_reset look.input (core_after_step look (is_driven c.axis look.input) (core_after_answer look.input c)))
    (reset-run look.input (core_after_step look (is_driven c.axis look.input) (core_after_answer look.input c)) (run-of g look c i k))

-- the numbers from which the drive's counts are places
pub drive-by : OffsetsAreSmall → (a : Axis) → Based a → HasDrive a
drive-by offsets a b =
    let lo = b.limits.lo_in_range in
    let o = offsets a.limits a.offset a.inc b.least b.most (omega (arith, ints, lo)) b.limits.ordered b.top b.counts in
    record { least = b.least; most = b.most; lowest = lo; offset = omega (arith, o) }

pub drive-of : Laws → (a : Axis) → Based a → HasDrive a
drive-of g a b = drive-by g.offsets a b

-- the setpoint of an axis is small
small-set : (driven : Bool) (l : Limits) (p q : ℤ) → AreLimits l → l.hi ≤ℤ pos 1000000000000000 → IsSet driven l p q → unsigned_abs q ≤ 5000000000000000000
small-set true l p q are top k = let a = k.above in let b = k.below in let lo = are.lo_in_range in omega (arith, ints)
small-set false l p q are top k = k.small

pub setpoint-of : (a : Axis) → Based a → unsigned_abs a.setpoint ≤ 5000000000000000000
setpoint-of a b = small-set a.driven a.limits a.previous a.setpoint b.limits b.top b.set

pub distance-by : OffsetsAreSmall → (a : Axis) → Based a → unsigned_abs (a.setpoint -ℤ a.offset) ≤ 9000000000000000000
distance-by offsets a b =
    let s = setpoint-of a b in
    let lo = b.limits.lo_in_range in
    let o = offsets a.limits a.offset a.inc b.least b.most (omega (arith, ints, lo)) b.limits.ordered b.top b.counts in
    omega (arith, ints, s, o)

-- a kept axis that is driven in this cycle may go on after its drive's answer
pub may-go-on : Laws → (look : AxisLook) (c : Core) → IsLook c.axis look → IsCoreKept c → (is_driven c.axis look.input && (core_after_answer look.input c).axis.driven) ≡ true →
    MayGoOn (core_after_answer look.input c).axis (core_after_answer look.input c).waiting look
may-go-on g look c i k h =
    let input = look.input in
    let after = answered-kept input c k in
    let p = and_parts (is_driven c.axis input) (core_after_answer input c).axis.driven h in
    go-on-of look (core_after_answer input c) i.cam after p.1 (drive-of g (core_after_answer input c).axis after.axis.base).offset

-- a cycle, from what its parts made
pub cycle-made : (look : AxisLook) (c : Core) (lists : List (List Wanted)) (list : ℕ) (a2 a3 a4 : Axis) (n2 n3 : List Note) →
    core_at a2 lists list n2 ≡ core_after_step look (is_driven c.axis look.input) (core_after_answer look.input c) →
    a3 ≡ reset_axis a2.reset look.input a2 → n3 ≡ n2 ++ reset_notes a2.reset look.input a2 → a4 ≡ axis_after_word look.input a3 →
    core_at a4 lists list n3 ≡ core_after_cycle look c
unfolding core_after_cycle
cycle-made look c lists list a2 a3 a4 n2 n3 ran e3 en e4 =
    let F : Core → Core = λ x. record (core_after_reset look.input x) { axis = axis_after_word look.input (core_after_reset look.input x).axis } in
    let made : core_at a4 lists list n3 ≡ F (core_at a2 lists list n2) =
    (λ t. record { axis = (e4 ∙ ap (axis_after_word look.input) e3) t; waiting = queue_of lists list; notes = en t }) in
    made ∙ ap F ran
