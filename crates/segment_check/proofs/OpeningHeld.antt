-- A header can hold the machine at opening.
-- for: texts_by_headers_tell_pasts
use Rattle.std.specs.Prelude.{◌≡◌, refl, ℕ, zero, suc, ◌+◌, ◌<◌, Bool, true, false, List, [], ◌∷◌, length, map, replicate, slice_index_or}
use Rattle.std.specs.List.{AllByRecursion, AllZip}
use Rattle.std.proofs.Common.{arith}
use Rattle.std.proofs.lemmas.Int.{ints}
use Rattle.axis_core.specs.AxisKept.{IsAxisKept, IsSet}
use Rattle.axis_core.specs.Cycles.{axis_at_opening}
use Rattle.axis_core.specs.declared.axis.Axis.{Axis}
use Rattle.motion_history.specs.Setup.{Setup}
use Rattle.motion_kernel.proofs.Sizes.{by_if}
use Rattle.motion_kernel.specs.Machine.{group_at_opening, instance_at_opening_of, machine_at_opening, no_axis}
use Rattle.motion_kernel.specs.kept.Machine.{IsMachineKept}
use Rattle.segment_text.specs.Held.{AreWaiting, IsAxisOf, IsGroupOf, IsInstanceOf, IsMachineOf, IsWide}

-- the setpoint of an axis has 64 bits
wide_by : (b : Bool) (a : Axis) → b ≡ a.driven → IsAxisKept a → IsSet b a.limits a.previous a.setpoint →
    IsWide a.setpoint
wide_by true a e h k =
    let limits = h.base.limits in
    let lo = limits.lo_in_range in
    let top = h.base.top in
    let above = k.above in
    let below = k.below in
    omega (arith, ints)
wide_by false a e h k = let small = k.small in omega (arith, ints)

wide_now : (a : Axis) → IsAxisKept a → IsWide a.setpoint
wide_now a h = wide_by a.driven a refl h h.base.set

-- what is made of each definition is of it
zip_map : {D X : Type 0} (R : D → X → Type 0) (Q : X → Type 0) (f : D → X) (none : X) →
    ((d : D) → Q (f d) → R d (f d)) → (ds : List D) →
    ((n : ℕ) → n < length ds → Q (slice_index_or (map f ds) n none)) → AllZip R ds (map f ds)
zip_map R Q f none each [] h = tt
zip_map R Q f none each (d ∷ ds) h =
    (each d (h zero (omega arith)), zip_map R Q f none each ds (λ n l. h (suc n) (omega arith)))

zip_each : {D X : Type 0} (R : D → X → Type 0) (f : D → X) → ((d : D) → R d (f d)) →
    (ds : List D) → AllZip R ds (map f ds)
zip_each R f each [] = tt
zip_each R f each (d ∷ ds) = (each d, zip_each R f each ds)

queues_held : (n : ℕ) → AllByRecursion AreWaiting (replicate n [])
queues_held zero = tt
queues_held (suc n) = (record { few = omega arith; each = tt }, queues_held n)

pub opening_held : (s : Setup) → IsMachineKept s (machine_at_opening s) →
    IsMachineOf s (machine_at_opening s)
unfolding axis_at_opening instance_at_opening_of
opening_held s kept =
    let sizes = kept.sized in
    let axes_are = sizes.axes in
    record {
      sized = kept.sized;
      axes = zip_map IsAxisOf (λ (a : Axis). IsAxisKept a) axis_at_opening no_axis
          (λ d is. let wide = wide_now (axis_at_opening d) is in record {
            limits = refl;
            inc = refl;
            bits = record {
              error = omega arith;
              previous = wide;
              setpoint = wide;
              offset = omega (arith, ints);
              active = tt;
              reset = tt;
              hold = tt;
              controlword = by_if (λ w. w < 65536) d.ready _ _ (omega arith) (omega arith);
            };
          }) s.axes (λ n l. (kept.axes n (omega arith)).core.axis);
      groups = zip_each IsGroupOf group_at_opening (λ d. record {
        axes = refl;
        bits = record {
          error = omega arith;
          active = tt;
          reset = tt;
          hold = tt;
          path = tt;
        };
      }) s.groups;
      queues = queues_held (length s.axes + length s.groups);
      instances = zip_each IsInstanceOf (instance_at_opening_of s.axes)
          (λ d. record { kind = refl; progress = tt }) s.blocks;
    }
