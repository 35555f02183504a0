-- Axes: what is written of one is read as it, and what is read is spelled so.
-- for: headers_are_read_back, records_are_read_back
use Rattle.std.specs.Prelude.{◌≡◌, refl, ℕ, ◌<◌, ℤ, Bool, Option, Some, IfSome, List, ◌∷◌, decimal, drop}
use Rattle.std.specs.Fmt.{signed_decimal}
use Rattle.std.proofs.Common.{subst, sym}
use Rattle.line_text.specs.Numbers.{◌>>=◌}
use Rattle.axis_core.specs.declared.axis.Axis.{Axis}
use Rattle.plc_types.specs.declared.axis.AxisDef.{AxisDef}
use Rattle.plc_types.specs.declared.axis_state.AxisState.{AxisState}
use Rattle.buffer_modes.specs.declared.reset.PendingReset.{PendingReset}
use Rattle.command_pool.specs.declared.wanted.Wanted.{Wanted}
use Rattle.segment_text.specs.Fields.{owner_text, reset_text}
use Rattle.segment_text.specs.Held.{IsAxisOf, IsWanted, IsWide, IsWord}
use Rattle.segment_text.specs.Records.{axis_fields}
use Rattle.segment_text.specs.WantedFields.{active_fields}
use Rattle.segment_text.specs.reading.Axes.{axis_by, axis_of, with_commands, with_places, with_power, with_state}
use Rattle.segment_text.specs.reading.Columns.{owner_of, reset_of, word_of}
use Rattle.segment_text.specs.reading.Commands.{active_of}
use Rattle.segment_text.proofs.back.Columns.{IsPending, axis_state-only, flag-only, hex-only, owner-back, owner-only, reset-back, reset-only, unsigned-only, wide-only, word-back}
use Rattle.segment_text.proofs.back.Commands.{active-back, active-only}
use Rattle.trace_columns.specs.Columns.{axis_state_of, flag_of, hex_of, wide_number_of}
use Rattle.trace_columns.specs.Fields.{axis_state_text, flag_text, hex_text}
use Rattle.trace_columns.proofs.BackLaws.{axes-back, flags-back, wide-back, words-back}
use Rattle.trace_text.proofs.read.ColumnRanges.{opt-both}

pub axis-back : (d : AxisDef) (n : ℕ) (a : Axis) → IsAxisOf d a → axis_of d (drop 2 (axis_fields n a)) ≡ Some a
unfolding axis_of axis_by with_state with_power with_places with_commands axis_fields
axis-back d n a is =
    rw (
      axes-back a.state,
      word-back a.error is.bits.error,
      flags-back a.reached,
      flags-back a.power,
      flags-back a.was_off,
      flags-back a.driven,
      words-back a.controlword is.bits.controlword,
      wide-back a.previous is.bits.previous,
      wide-back a.setpoint is.bits.setpoint,
      wide-back a.offset is.bits.offset,
      reset-back a.reset is.bits.reset,
      owner-back a.hold is.bits.hold,
      active-back a.active is.bits.active,
      ← is.limits,
      ← is.inc,
    ) refl

record ReadState (a : Axis) (all : List (List ℕ)) (r : Axis × List (List ℕ)) : Type 0 where
  state : AxisState
  error : ℕ
  reached : Bool
  behind : List (List ℕ)
  spelled : axis_state_text state ∷ decimal error ∷ flag_text reached ∷ behind ≡ all
  is : IsWord error
  whole : (record a { state = state; error = error; reached = reached }, behind) ≡ r

state-only : (a : Axis) (all : List (List ℕ)) (r : Axis × List (List ℕ)) → with_state a all ≡ Some r → ReadState a all r
unfolding with_state
state-only a (s ∷ e ∷ t ∷ behind) r h =
    let x = opt-both (axis_state_of s) _ r h in
    let y = opt-both (word_of e) _ r x.2 in
    let z = opt-both (flag_of t) _ r y.2 in
    let w = unsigned-only 65535 e y.0 y.1 in
    record {
      state = x.0;
      error = y.0;
      reached = z.0;
      behind = behind;
      spelled = rw (axis_state-only s x.0 x.1, w.spelled, flag-only t z.0 z.1) refl;
      is = w.is;
      whole = cc z.2;
    }
state-only a _ r h = absurd (cc h)

record ReadPower (a : Axis) (all : List (List ℕ)) (r : Axis × List (List ℕ)) : Type 0 where
  power : Bool
  was_off : Bool
  driven : Bool
  controlword : ℕ
  behind : List (List ℕ)
  spelled : flag_text power ∷ flag_text was_off ∷ flag_text driven ∷ hex_text controlword ∷ behind ≡ all
  is : controlword < 65536
  whole : (record a { power = power; was_off = was_off; driven = driven; controlword = controlword }, behind) ≡ r

power-only : (a : Axis) (all : List (List ℕ)) (r : Axis × List (List ℕ)) → with_power a all ≡ Some r → ReadPower a all r
unfolding with_power
power-only a (p ∷ o ∷ d ∷ c ∷ behind) r h =
    let x = opt-both (flag_of p) _ r h in
    let y = opt-both (flag_of o) _ r x.2 in
    let z = opt-both (flag_of d) _ r y.2 in
    let w = opt-both (hex_of c) _ r z.2 in
    let v = hex-only c w.0 w.1 in
    record {
      power = x.0;
      was_off = y.0;
      driven = z.0;
      controlword = w.0;
      behind = behind;
      spelled = rw (flag-only p x.0 x.1, flag-only o y.0 y.1, flag-only d z.0 z.1, v.spelled) refl;
      is = v.is;
      whole = cc w.2;
    }
power-only a _ r h = absurd (cc h)

record ReadPlaces (a : Axis) (all : List (List ℕ)) (r : Axis × List (List ℕ)) : Type 0 where
  previous : ℤ
  setpoint : ℤ
  offset : ℤ
  behind : List (List ℕ)
  spelled : signed_decimal previous ∷ signed_decimal setpoint ∷ signed_decimal offset ∷ behind ≡ all
  previous_is : IsWide previous
  setpoint_is : IsWide setpoint
  offset_is : IsWide offset
  whole : (record a { previous = previous; setpoint = setpoint; offset = offset }, behind) ≡ r

places-only : (a : Axis) (all : List (List ℕ)) (r : Axis × List (List ℕ)) → with_places a all ≡ Some r → ReadPlaces a all r
unfolding with_places
places-only a (p ∷ s ∷ o ∷ behind) r h =
    let x = opt-both (wide_number_of p) _ r h in
    let y = opt-both (wide_number_of s) _ r x.2 in
    let z = opt-both (wide_number_of o) _ r y.2 in
    let u = wide-only p x.0 x.1 in
    let v = wide-only s y.0 y.1 in
    let w = wide-only o z.0 z.1 in
    record {
      previous = x.0;
      setpoint = y.0;
      offset = z.0;
      behind = behind;
      spelled = rw (u.spelled, v.spelled, w.spelled) refl;
      previous_is = u.is;
      setpoint_is = v.is;
      offset_is = w.is;
      whole = cc z.2;
    }
places-only a _ r h = absurd (cc h)

record ReadCommands (a : Axis) (all : List (List ℕ)) (b : Axis) : Type 0 where
  reset : Option PendingReset
  hold : Option ℕ
  active : Option Wanted
  spelled : reset_text reset ∷ owner_text hold ∷ active_fields active ≡ all
  reset_is : IfSome reset IsPending
  hold_is : IfSome hold IsWord
  active_is : IfSome active IsWanted
  whole : record a { reset = reset; hold = hold; active = active } ≡ b

commands-only : (a : Axis) (all : List (List ℕ)) (b : Axis) → with_commands a all ≡ Some b → ReadCommands a all b
unfolding with_commands
commands-only a (s ∷ o ∷ behind) b h =
    let x = opt-both (reset_of s) _ b h in
    let y = opt-both (owner_of o) _ b x.2 in
    let z = opt-both (active_of behind) _ b y.2 in
    let u = reset-only s x.0 x.1 in
    let v = owner-only o y.0 y.1 in
    let w = active-only behind z.0 z.1 in
    record {
      reset = x.0;
      hold = y.0;
      active = z.0;
      spelled = rw (u.spelled, v.spelled, w.spelled) refl;
      reset_is = u.is;
      hold_is = v.is;
      active_is = w.is;
      whole = cc z.2;
    }
commands-only a _ b h = absurd (cc h)

-- the fields after the number of an axis are read as it alone
pub record IsAxisRead (d : AxisDef) (all : List (List ℕ)) (a : Axis) : Type 0 where
  pub spelled : (n : ℕ) → drop 2 (axis_fields n a) ≡ all
  pub is : IsAxisOf d a

pub axis-only : (d : AxisDef) (all : List (List ℕ)) (a : Axis) → axis_of d all ≡ Some a → IsAxisRead d all a
unfolding axis_of axis_by axis_fields
axis-only d all a h =
    let x = opt-both (with_state (axis_by d) all) _ a h in
    let s = state-only (axis_by d) all x.0 x.1 in
    let h1 = subst (λ r. (with_power r.0 r.1 >>= λ b. with_places b.0 b.1 >>= λ c. with_commands c.0 c.1) ≡ Some a) (sym s.whole) x.2 in
    let y = opt-both (with_power _ s.behind) (λ b. with_places b.0 b.1 >>= λ c. with_commands c.0 c.1) a h1 in
    let p = power-only _ _ y.0 y.1 in
    let h2 = subst (λ r. (with_places r.0 r.1 >>= λ c. with_commands c.0 c.1) ≡ Some a) (sym p.whole) y.2 in
    let z = opt-both (with_places _ p.behind) (λ c. with_commands c.0 c.1) a h2 in
    let q = places-only _ _ z.0 z.1 in
    let h3 = subst (λ r. with_commands r.0 r.1 ≡ Some a) (sym q.whole) z.2 in
    let c = commands-only _ _ a h3 in
    subst (IsAxisRead d all) c.whole (record {
      spelled = λ n. rw (c.spelled, q.spelled, p.spelled, s.spelled) refl;
      is = record {
        limits = refl;
        inc = refl;
        bits = record {
          error = s.is;
          previous = q.previous_is;
          setpoint = q.setpoint_is;
          offset = q.offset_is;
          active = c.active_is;
          reset = c.reset_is;
          hold = c.hold_is;
          controlword = p.is;
        };
      };
    })
