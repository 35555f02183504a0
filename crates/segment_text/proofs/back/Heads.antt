-- The header of a trace segment is read as what was written.
-- for: headers_are_read_back
use Rattle.std.specs.Prelude.{◌≡◌, refl, ℕ, suc, ◌+◌, ◌≤◌, ◌<◌, ◌^◌, Some, Ok, List, [], ◌∷◌, ◌++◌, drop, length, slice_get}
use Rattle.std.specs.List.{AllZip}
use Rattle.std.proofs.Common.{◌∙◌, ap, append_assoc, arith, sym}
use Rattle.std.proofs.lemmas.List.{append-nil, length-append}
use Rattle.axis_core.specs.declared.axis.Axis.{Axis}
use Rattle.plc_types.specs.declared.axis.AxisDef.{AxisDef}
use Rattle.command_pool.specs.declared.wanted.Wanted.{Wanted}
use Rattle.fb_outputs.specs.InstanceState.{InstanceState}
use Rattle.line_text.specs.Texts.{says}
use Rattle.motion_history.specs.Setup.{Setup}
use Rattle.motion_history.specs.declared.config.BlockDef.{BlockDef}
use Rattle.motion_history.specs.declared.config.GroupDef.{GroupDef}
use Rattle.motion_kernel.specs.Machine.{Machine, PlacedGroup}
use Rattle.segment_text.specs.Held.{IsAxisOf, IsGroupOf, IsInstanceOf}
use Rattle.segment_text.specs.Records.{axis_fields, group_fields, instance_fields}
use Rattle.segment_text.specs.reading.Lines.{axis_meaning, fields_in, group_meaning, instance_meaning, record_meaning}
use Rattle.segment_text.proofs.back.Axes.{axis-back}
use Rattle.segment_text.proofs.back.Columns.{number-back}
use Rattle.segment_text.proofs.back.Groups.{group-back}
use Rattle.segment_text.proofs.back.Instances.{instance-back}
use Rattle.segment_text.proofs.back.Leads.{Leads, ReadsObjects, get-there, leads-more, leads-none, length-at, length-push}
use Rattle.segment_text.proofs.back.Lines.{fields-back, unended}
use Rattle.segment_text.proofs.back.Shorts.{axis-short, group-short, instance-short}
use Rattle.segment_text.proofs.back.Plain.{axis-plain, group-plain, instance-plain}
use Rattle.trace_text.specs.Trace.{numbered}

-- axes alone are read
abbrev pub axes_at : List Axis → List (List Wanted) → Machine
axes_at axes lists = record { axes = axes; groups = []; queues = lists; instances = [] }

axis-line : (d : AxisDef) (n : ℕ) (a : Axis) → n < 2 ^ 64 → IsAxisOf d a → fields_in (unended (axis_fields n a)) ≡ axis_fields n a
unfolding axis_fields
axis-line d n a l is = fields-back _ _ (axis-plain d n a l is) (axis-short d n a is)

axis-step : (s : Setup) (d : AxisDef) (done : List Axis) (a : Axis) (lists : List (List Wanted)) → slice_get s.axes (length done) ≡ Some d → IsAxisOf d a →
    record_meaning s (axes_at done lists) (axis_fields (length done) a) ≡ Ok (axes_at (done ++ a ∷ []) lists)
unfolding record_meaning axis_meaning says axis_fields
axis-step s d done a lists there is = rw (there, number-back (length done) (drop 2 (axis_fields (length done) a)), axis-back d (length done) a is) refl

pub reads-axes : (s : Setup) → ReadsObjects s s.axes axis_fields IsAxisOf axes_at 0
reads-axes s = record {
  same = λ done l k. refl;
  line = axis-line;
  step = axis-step s;
  stands = λ done a before queue behind b. record {
    queues = refl;
    objects = let n = length-append done (a ∷ []) in omega (arith, n, b);
    instances = refl;
  };
}

-- groups after all axes
abbrev pub groups_at : List Axis → List PlacedGroup → List (List Wanted) → Machine
groups_at axes groups lists = record { axes = axes; groups = groups; queues = lists; instances = [] }

group-line : (d : GroupDef) (n : ℕ) (g : PlacedGroup) → n < 2 ^ 64 → IsGroupOf d g → fields_in (unended (group_fields n g)) ≡ group_fields n g
unfolding group_fields
group-line d n g l is = fields-back _ _ (group-plain d n g l is) (group-short d n g is)

group-step : (s : Setup) (axes : List Axis) (d : GroupDef) (done : List PlacedGroup) (g : PlacedGroup) (lists : List (List Wanted)) → slice_get s.groups (length done) ≡ Some d → IsGroupOf d g →
    record_meaning s (groups_at axes done lists) (group_fields (length done) g) ≡ Ok (groups_at axes (done ++ g ∷ []) lists)
unfolding record_meaning group_meaning says group_fields
group-step s axes d done g lists there is = rw (there, number-back (length done) (drop 2 (group_fields (length done) g)), group-back d (length done) g is) refl

pub reads-groups : (s : Setup) (axes : List Axis) → ReadsObjects s s.groups group_fields IsGroupOf (groups_at axes) (length axes)
reads-groups s axes = record {
  same = λ done l k. refl;
  line = group-line;
  step = group-step s axes;
  stands = λ done g before queue behind b. record {
    queues = refl;
    objects = let n = length-append done (g ∷ []) in omega (arith, n, b);
    instances = refl;
  };
}

-- instances after all axes and groups
abbrev pub instances_at : Machine → List InstanceState → Machine
instances_at m instances = record m { instances = instances }

instance-line : (d : BlockDef) (n : ℕ) (i : InstanceState) → n < 2 ^ 64 → IsInstanceOf d i → fields_in (unended (instance_fields n i)) ≡ instance_fields n i
unfolding instance_fields
instance-line d n i l is = fields-back _ _ (instance-plain d n i l is) (instance-short n i)

instance-step : (s : Setup) (m : Machine) (d : BlockDef) (done : List InstanceState) (i : InstanceState) → slice_get s.blocks (length done) ≡ Some d → IsInstanceOf d i →
    record_meaning s (instances_at m done) (instance_fields (length done) i) ≡ Ok (instances_at m (done ++ i ∷ []))
unfolding record_meaning instance_meaning says instance_fields
instance-step s m d done i there is = rw (there, number-back (length done) (drop 2 (instance_fields (length done) i)), instance-back d (length done) i is) refl

pub instances-lead : (s : Setup) (m : Machine) → length s.blocks < 2 ^ 63 → (past defs : List BlockDef) (done is : List InstanceState) → s.blocks ≡ past ++ defs → length past ≡ length done → AllZip IsInstanceOf defs is →
    Leads s (numbered instance_fields (length done) is) (instances_at m done) (instances_at m (done ++ is))
instances-lead s m few past [] done [] e l h = rw (append-nil done) (leads-none s (instances_at m done))
instances-lead s m few past (d ∷ defs) done (i ∷ is) e l h =
    let n : ℕ = length done in
    let there : slice_get s.blocks n ≡ Some d = rw e (get-there past d defs n (sym l)) in
    let small : n < 2 ^ 64 = let k = length-at past d defs in let k' : length past + 1 ≤ length s.blocks = rw e k in omega (arith, few, l, k') in
    let here : length (done ++ i ∷ []) ≡ suc n = length-push done i in
    let more = instances-lead s m few (past ++ d ∷ []) defs (done ++ i ∷ []) is
    (e ∙ sym (append_assoc past (d ∷ []) defs))
    (length-push past d ∙ ap suc l ∙ sym (length-push done i))
    h.1 in
    let more' = rw (here, append_assoc done (i ∷ []) is) at more in
    leads-more s (instance_fields n i) _ (instances_at m done) (instances_at m (done ++ i ∷ [])) _ (instance-line d n i small h.0) (instance-step s m d done i there h.0) more'
instances-lead s m few past [] done (i ∷ is) e l h = absurd h
instances-lead s m few past (d ∷ defs) done [] e l h = absurd h
