-- Calls between cycles move no axis.
-- for: calls_move_no_axis
use Rattle.std.specs.Prelude.{◌≡◌, refl, ℕ, Bool, true, false, ◌-ℤ◌, Option, Some, None, if◌then◌else◌}
use Rattle.std.proofs.Common.{ap}
use Rattle.buffer_modes.specs.Queue.{is_active_at_once}
use Rattle.command_pool.specs.declared.wanted.Wanted.{Wanted}
use Rattle.command_pool.specs.Waiting.{last_of}
use Rattle.axis_core.specs.Calls.{core_after_command, core_after_verdict, axis_without_owner, core_after_disabling, core_after_joining, core_after_leaving, core_after_power, queue_in, core_with_queued, core_entered_in}
use Rattle.axis_core.specs.Cores.{Core, axis_under, axis_under_by}
use Rattle.axis_core.specs.Refusals.{Asked, refusal_of}
use Rattle.axis_core.specs.Rows.{Stays}
use Rattle.axis_state.specs.States.{is_error_stop}
use Rattle.axis_core.specs.blocks.Moves.{known_target_of, with_target}
use Rattle.axis_core.specs.blocks.Path.{axis_on_path}
use Rattle.axis_core.specs.declared.axis.Axis.{Axis}
use Rattle.axis_core.specs.declared.reason.Reason.{Reason}
use Rattle.axis_core.proofs.KeptRows.{Place, place_of, place-begun}
use Rattle.axis_core.specs.declared.profile.Entry.{Entry}
use Rattle.axis_core.specs.declared.profile.Entry.TheVariants.{Joins, Leaves, Awaits}
use Rattle.axis_core.specs.Profiles.{profile_of}

-- an axis that stands at the same place stays
stays-at : (a b : Axis) → place_of b ≡ place_of a → Stays a b
stays-at a b e = record {
  limits = ap (λ (p : Place). p.limits) e;
  spell = ap (λ (p : Place). if p.driven then Some (record { before = p.previous -ℤ p.offset; now = p.setpoint -ℤ p.offset }) else None) e;
}

place-joined : (w : Wanted) (c : Core) → place_of (core_after_joining w c).axis ≡ place_of c.axis
place-joined w c =
    elim (is_active_at_once (queue_in c) w) as (λ b. place_of (if b then record (core_with_queued w c) { axis = axis_under w (core_with_queued w c).axis } else core_with_queued w c).axis ≡ place_of c.axis)
    [ true ↦ place-begun w (core_with_queued w c).axis | false ↦ refl ]

place-left : (w : Wanted) (c : Core) → place_of (core_after_leaving w c).axis ≡ place_of c.axis
unfolding axis_under_by
place-left w c = refl

place-entered : (x : Entry) (w : Wanted) (c : Core) → place_of (core_entered_in x w c).axis ≡ place_of c.axis
place-entered Awaits w c = refl
place-entered Leaves w c = place-left w c
place-entered Joins w c = place-joined w c

place-commanded : (o : Option Reason) (w : Wanted) (c : Core) → place_of (core_after_verdict o w c).axis ≡ place_of c.axis
place-commanded None w c = place-entered (profile_of w.kind).entry (with_target (known_target_of c.axis (last_of c.waiting) w) w) c
place-commanded (Some r) w c = refl

pub stays-commanded : (q : Asked) (c : Core) → Stays c.axis (core_after_command q c).axis
unfolding core_after_command
stays-commanded q c = stays-at c.axis _ (place-commanded (refusal_of q) q.wanted c)

place-powered : (enable : Bool) (c : Core) → place_of (core_after_power enable c).axis ≡ place_of c.axis
unfolding core_after_power
place-powered true c = refl
place-powered false c =
    let wished : Core = record c { axis = record c.axis { power = false; was_off = true } } in
    elim (is_error_stop c.axis.state) as (λ b. place_of (if b then wished else core_after_disabling wished).axis ≡ place_of c.axis) [ true ↦ refl | false ↦ refl ]

pub stays-powered : (enable : Bool) (c : Core) → Stays c.axis (core_after_power enable c).axis
stays-powered enable c = stays-at c.axis _ (place-powered enable c)

pub stays-detached : (owner : ℕ) (a : Axis) → Stays a (axis_without_owner owner a)
unfolding axis_without_owner
stays-detached owner a = stays-at a _ refl

pub stays-on_path : (on : Bool) (a : Axis) → Stays a (axis_on_path on a)
unfolding axis_on_path
stays-on_path on a = stays-at a _ refl
