-- The machine after a past is of its configuration, and a header can hold it where its numbers have
-- the bits of their types.
-- for: texts_by_headers_tell_pasts
use Rattle.std.specs.Prelude.{◌≡◌, refl, ℕ, zero, suc, ◌+◌, ◌<◌, Some, List, [], ◌∷◌, length, slice_get, slice_index_or}
use Rattle.std.specs.List.{AllByRecursion, AllZip}
use Rattle.std.proofs.Common.{◌∙◌, ap, arith, subst}
use Rattle.std.proofs.lemmas.List.{get_or-map}
use Rattle.std.proofs.lemmas.Option.{get_or_from_slice_get, slice_get_within}
use Rattle.axis_core.specs.Along.{KeepsDefinition}
use Rattle.axis_core.specs.Cycles.{axis_at_opening}
use Rattle.axis_core.specs.declared.axis.Axis.{Axis}
use Rattle.plc_types.specs.declared.axis.AxisDef.{AxisDef}
use Rattle.plc_types.specs.declared.drive.DriveIn.{DriveIn}
use Rattle.fb_outputs.specs.InstanceState.{InstanceState}
use Rattle.fb_outputs.specs.Replies as happening
use Rattle.fb_outputs.specs.Replies.{Happening, after_all, happened}
use Rattle.fb_outputs.specs.Steps.{opened}
use Rattle.plc_types.specs.declared.inputs.Inputs.{Inputs}
use Rattle.motion_history.specs.Entries.{Entry, call, cycle, cycle_count, end_of}
use Rattle.motion_history.specs.Members.{members_of}
use Rattle.motion_history.specs.Setup.{Setup, IsSetup}
use Rattle.motion_history.specs.declared.config.GroupDef.{GroupDef}
use Rattle.motion_kernel.proofs.calls.AxesLeft.{call_left, calls_leave_definitions}
use Rattle.motion_kernel.proofs.cycles.OneAxis.{goes_through}
use Rattle.motion_kernel.proofs.kept.Laws.{AxesKeepDefinitions}
use Rattle.motion_kernel.proofs.kept.Machine.{MachinesStayKept, kept_by_cycle}
use Rattle.motion_kernel.specs.Histories.{Follows, IsPast, inputs_of, machine_from, replay}
use Rattle.motion_kernel.specs.Machine.{Machine, axis_at, axis_core_at, machine_at_opening, no_axis, no_group, no_instance}
use Rattle.motion_kernel.specs.members.Members.{members_in}
use Rattle.motion_laws.specs.entries.Replies.{AreOfBlocks}
use Rattle.motion_kernel.specs.calls.Calls.{after_call}
use Rattle.motion_kernel.specs.cycles.Cycles.{after_cycle, look_of_axis}
use Rattle.motion_kernel.specs.kept.Machine.{AreWhole, IsMachineKept, no_def}
use Rattle.segment_text.specs.Held.{HasAxisBits, HasGroupBits, HasMachineBits, IsAxisOf, IsGroupOf, IsInstanceOf, IsMachineOf, IsProgress}

-- the increment of each axis is its configured one
abbrev pub AreConfigured : Setup → Machine → Type 0
AreConfigured s m = (n : ℕ) → n < length s.axes →
    (axis_at m n).inc ≡ (slice_index_or s.axes n no_def).inc

-- of an instance nothing changes its kind
kind_stays : (i : InstanceState) (hs : List Happening) → (after_all i hs).kind ≡ i.kind
kind_stays i [] = refl
kind_stays i (happening.call execute ∷ hs) = kind_stays (happened i (happening.call execute)) hs
kind_stays i (happening.start active ∷ hs) = kind_stays (happened i (happening.start active)) hs
kind_stays i (happening.ending f ∷ hs) = kind_stays (happened i (happening.ending f)) hs
kind_stays i (happening.cycle reached ∷ hs) = kind_stays (happened i (happening.cycle reached)) hs
kind_stays i (happening.reply ∷ hs) = kind_stays (happened i happening.reply) hs

-- the laws on which it rests
pub record ConfiguredLaws : Type 0 where
  pub machines : MachinesStayKept
  pub definitions : AxesKeepDefinitions
  pub opened : (s : Setup) → AreOfBlocks s (machine_at_opening s).instances
  pub call : (s : Setup) (m : Machine) (k : ℕ) (i : Inputs) → AreOfBlocks s m.instances →
      AreOfBlocks s (after_call s m k i).instances
  pub cycle : (s : Setup) (m : Machine) (ins : List DriveIn) → AreOfBlocks s m.instances →
      AreOfBlocks s (after_cycle s m ins).instances

-- a machine stays that of its configuration
record Stays (s : Setup) (m : Machine) : Type 0 where
  kept : IsMachineKept s m
  axes : AreConfigured s m
  blocks : AreOfBlocks s m.instances

opening_stays : ConfiguredLaws → (s : Setup) → IsSetup s → AreWhole s → Stays s (machine_at_opening s)
unfolding axis_at_opening
opening_stays laws s setup whole = record {
  kept = laws.machines.opened s setup whole;
  axes = λ n l. ap (λ (a : Axis). a.inc) (get_or-map axis_at_opening s.axes n no_def no_axis l);
  blocks = laws.opened s;
}

cycle_stays : ConfiguredLaws → (s : Setup) (m : Machine) (ins : List DriveIn) →
    IsMachineKept s m → AreConfigured s m → AreConfigured s (after_cycle s m ins)
cycle_stays laws s m ins kept h n l =
    let size = kept.sized.axes in
    let look = look_of_axis s m ins n in
    let through = goes_through s m ins n kept (laws.machines.may_go_on s m ins kept) (omega (arith, size, l)) in
    ap (λ (a : Axis). a.inc) through.after ∙ (laws.definitions.cycle look (axis_core_at m n)).inc ∙ h n l

stays_from : ConfiguredLaws → (s : Setup) (cycles : ℕ) (m : Machine) (es : List Entry) →
    AreWhole s → Stays s m → Follows s cycles m es → Stays s (replay s m es)
stays_from laws s cycles m [] whole h f = h
stays_from laws s cycles m (call k i reply ∷ es) whole h f =
    stays_from laws s (cycles + cycle_count (call k i reply)) (after_call s m k i) es whole
    (record {
      kept = laws.machines.call s m k i whole f.0.0 h.kept;
      axes = λ n l.
          (call_left KeepsDefinition (calls_leave_definitions laws.definitions) s m k i n).inc ∙ h.axes n l;
      blocks = laws.call s m k i h.blocks;
    }) f.1
stays_from laws s cycles m (cycle c rows grows ∷ es) whole h f =
    stays_from laws s (cycles + cycle_count (cycle c rows grows)) (after_cycle s m (inputs_of rows)) es whole
    (record {
      kept = kept_by_cycle laws.machines s m rows grows h.kept f.0.1;
      axes = cycle_stays laws s m (inputs_of rows) h.kept h.axes;
      blocks = laws.cycle s m (inputs_of rows) h.blocks;
    }) f.1
stays_from laws s cycles m (end_of task ∷ es) whole h f =
    stays_from laws s (cycles + cycle_count (end_of task)) m es whole h f.1

-- what holds of the definition and the item of each place holds of the lists
zip_of : {D X : Type 0} (R : D → X → Type 0) (P : X → Type 0) (none : X) (ds : List D)
    (xs : List X) → length xs ≡ length ds → AllByRecursion P xs →
    ((n : ℕ) (d : D) → slice_get ds n ≡ Some d → P (slice_index_or xs n none) →
    R d (slice_index_or xs n none)) → AllZip R ds xs
zip_of R P none [] [] e all h = tt
zip_of R P none [] (x ∷ xs) e all h = absurd (omega arith)
zip_of R P none (d ∷ ds) [] e all h = absurd (omega arith)
zip_of R P none (d ∷ ds) (x ∷ xs) e all h =
    (h zero d refl all.0, zip_of R P none ds xs (omega arith) all.1 (λ n c at. h (suc n) c at))

each_at : {X : Type 0} (P : X → Type 0) (xs : List X) (n : ℕ) (x : X) → AllByRecursion P xs →
    slice_get xs n ≡ Some x → P x
each_at P [] n x h at = absurd (cc at)
each_at P (y ∷ xs) zero x h at = let same : y ≡ x = cc at in subst P same h.0
each_at P (y ∷ xs) (suc n) x h at = each_at P xs n x h.1 at

-- so a header can hold it where its numbers have the bits of their types
held_by : (s : Setup) (m : Machine) → AreWhole s → Stays s m → HasMachineBits m → IsMachineOf s m
held_by s m whole is bits =
    let sizes = is.kept.sized in
    let axes = sizes.axes in
    let groups = sizes.groups in
    let instances = sizes.instances in
    record {
      sized = sizes;
      axes = zip_of IsAxisOf HasAxisBits no_axis s.axes m.axes axes bits.axes (λ n d at b.
          let l : n < length s.axes = slice_get_within s.axes n d at in
          let def : slice_index_or s.axes n no_def ≡ d = get_or_from_slice_get s.axes n d no_def at in
          record {
            limits = (is.kept.axes n (omega (arith, axes, l))).limits ∙ ap (λ (x : AxisDef). x.limits) def;
            inc = is.axes n l ∙ ap (λ (x : AxisDef). x.inc) def;
            bits = b;
          });
      groups = zip_of IsGroupOf HasGroupBits no_group s.groups m.groups groups bits.groups (λ j d at b.
          let l : j < length s.groups = slice_get_within s.groups j d at in
          record {
            axes = (is.kept.groups j (omega (arith, groups, l))).count ∙ ap (λ o. length (members_in o)) at
                ∙ each_at (λ (x : GroupDef). length (members_of x) ≡ x.count) s.groups j d whole at;
            bits = b;
          });
      queues = bits.queues;
      instances = zip_of IsInstanceOf (λ (i : InstanceState). IsProgress i.progress) no_instance s.blocks m.instances instances bits.instances (λ k d at b.
          let happened = is.blocks k d at in
          record {
            kind = ap (λ (i : InstanceState). i.kind) happened.is ∙ kind_stays (opened d.kind) happened.happenings;
            progress = b;
          });
    }

-- the machine after a past
pub past_held : ConfiguredLaws → (s : Setup) (es : List Entry) → IsSetup s → AreWhole s → IsPast s es →
    HasMachineBits (machine_from s (machine_at_opening s) es) →
    IsMachineOf s (machine_from s (machine_at_opening s) es)
unfolding machine_from
past_held laws s es setup whole past bits =
    held_by s (replay s (machine_at_opening s) es) whole
    (stays_from laws s 0 (machine_at_opening s) es whole (opening_stays laws s setup whole) past.follows) bits
