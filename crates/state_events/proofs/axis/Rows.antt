-- Which rows of the diagram lead where.
-- for: axes_change_by_their_events
use Rattle.std.specs.Prelude.{◌≡◌, refl, true, false, List, [], ◌∷◌, ◌++◌}
use Rattle.std.proofs.Common.{subst}
use Rattle.axis_state.specs.Diagram.{IsFrom, next_of}
use Rattle.axis_state.specs.declared.diagram.AxisEvent.{AxisEvent}
use Rattle.axis_state.specs.declared.diagram.AxisEvent.TheVariants as event
use Rattle.plc_types.specs.declared.axis_state.AxisState.{AxisState}
use Rattle.plc_types.specs.declared.axis_state.AxisState.TheVariants as state
use Rattle.state_events.specs.Axis.{Lead, state_by}
use Rattle.axis_state.specs.States.{is_error_stop, is_stopping, is_synchronized}

-- where events lead
pub led-to : (s t : AxisState) (es : List AxisEvent) → Lead s es t → t ≡ state_by s es
led-to s t [] h = h
led-to s t (e ∷ es) h = led-to (next_of e) t es h.1

-- events one after another
pub lead-on : (s t u : AxisState) (es fs : List AxisEvent) → Lead s es t → Lead t fs u → Lead s (es ++ fs) u
lead-on s t u [] fs h k = let P : AxisState → Type 0 = λ x. Lead x fs u in subst P h k
lead-on s t u (e ∷ es) fs h k = (h.0, lead-on (next_of e) t u es fs h.1 k)

-- an axis on its path may leave it, one in Stopping may be released, and power may go off outside
-- ErrorStop
pub synchronized : (s : AxisState) → is_synchronized s ≡ true → IsFrom s event.PathRest
synchronized state.SynchronizedMotion h = (state.Standstill, (refl, refl))
synchronized _ h = absurd (cc)

pub stopping : (s : AxisState) → is_stopping s ≡ true → IsFrom s event.StopReleased
stopping state.Stopping h = (state.Standstill, (refl, refl))
stopping _ h = absurd (cc)

pub off-from : (s : AxisState) → is_error_stop s ≡ false → IsFrom s event.PowerOff
off-from state.ErrorStop h = absurd (cc)
off-from state.Disabled h = (state.Disabled, (λ e. absurd (cc), refl))
off-from state.Standstill h = (state.Disabled, (λ e. absurd (cc), refl))
off-from state.Homing h = (state.Disabled, (λ e. absurd (cc), refl))
off-from state.Stopping h = (state.Disabled, (λ e. absurd (cc), refl))
off-from state.DiscreteMotion h = (state.Disabled, (λ e. absurd (cc), refl))
off-from state.ContinuousMotion h = (state.Disabled, (λ e. absurd (cc), refl))
off-from state.SynchronizedMotion h = (state.Disabled, (λ e. absurd (cc), refl))
