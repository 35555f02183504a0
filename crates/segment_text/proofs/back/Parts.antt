-- Record by record: what is read so far of a header can be held, and is spelled so.
-- for: headers_are_read_back
use Rattle.std.specs.Prelude.{◌≡◌, refl, ℕ, zero, suc, ◌+◌, ◌-◌, ◌≤◌, ◌<◌, ◌==◌, ◌&&◌, nat_le, not, if◌then◌else◌, Bool, true, false, None, Some, Result, Ok, Err, List, [], ◌∷◌, ◌++◌, codes, decimal, drop, length, map, replicate, slice_get, slice_set}
use Rattle.std.specs.List.{AllByRecursion, flat_map}
use Rattle.std.specs.Option.{ok_or}
use Rattle.std.proofs.Common.{◌∙◌, ap, append_assoc, arith, inl, inr, subst, sym}
use Rattle.std.proofs.lemmas.Bool.{and_parts, cases_lt, eq-eqb, eqb-true, leb-true}
use Rattle.std.proofs.lemmas.List.{append-nil}
use Rattle.axis_core.specs.declared.axis.Axis.{Axis}
use Rattle.plc_types.specs.declared.axis.AxisDef.{AxisDef}
use Rattle.command_pool.specs.Waiting.{queue_of}
use Rattle.command_pool.specs.declared.wanted.Wanted.{Wanted}
use Rattle.fb_outputs.specs.InstanceState.{InstanceState}
use Rattle.line_text.proofs.Results.{bind_ok, found, holds, line-ok}
use Rattle.line_text.specs.Reading.{at_line}
use Rattle.line_text.specs.Rules.{broken_unless}
use Rattle.line_text.specs.Texts.{says}
use Rattle.line_text.specs.declared.reader.LineRefused.{LineRefused}
use Rattle.motion_history.proofs.DistinctLemmas.{each-append}
use Rattle.motion_history.specs.Setup.{Setup}
use Rattle.motion_history.specs.declared.config.BlockDef.{BlockDef}
use Rattle.motion_history.specs.declared.config.GroupDef.{GroupDef}
use Rattle.motion_kernel.specs.Machine.{Machine, PlacedGroup}
use Rattle.segment_text.specs.Held.{AreWaiting, IsAxisOf, IsGroupOf, IsInstanceOf, IsWanted}
use Rattle.segment_text.specs.Records.{axis_fields, group_fields, instance_fields}
use Rattle.segment_text.specs.TraceSegment.{axis_records, group_queue, group_records, instance_records, lines_text, object_records}
use Rattle.segment_text.specs.WantedFields.{waiting_fields}
use Rattle.segment_text.specs.reading.Axes.{axis_of}
use Rattle.segment_text.specs.reading.Columns.{behind_number}
use Rattle.segment_text.specs.reading.Commands.{wanted_of}
use Rattle.segment_text.specs.reading.Groups.{group_of}
use Rattle.segment_text.specs.reading.Instances.{instance_of}
use Rattle.segment_text.specs.reading.Lines.{axis_meaning, fields_in, group_meaning, has_list, instance_meaning, last_list, lines_meaning, may_read_axis, may_read_group, objects_in, record_meaning, unread, waiting_meaning}
use Rattle.segment_text.specs.reading.RuleNumbers.{no_value, out_of_place, too_many}
use Rattle.segment_text.specs.Texts.{line_of}
use Rattle.segment_text.proofs.back.Axes.{axis-only}
use Rattle.segment_text.proofs.back.Columns.{number-only}
use Rattle.segment_text.proofs.back.Commands.{wanted-only}
use Rattle.segment_text.proofs.back.Groups.{group-only}
use Rattle.segment_text.proofs.back.Instances.{instance-only}
use Rattle.segment_text.proofs.back.Leads.{length-push}
use Rattle.segment_text.proofs.back.Lists.{AllFirst, each-empty, copies-long, first-more, joined-one, joined-two, none-waits, numbered-push, objects-grown, objects-push, objects-same, set-each, set-here, set-long, set-other}
use Rattle.segment_text.proofs.back.Text.{ended, line-spelled, pick}
use Rattle.segment_text.proofs.back.Whole.{queues-waiting}
use Rattle.trace_columns.proofs.NumberLaws.{same-bytes}
use Rattle.trace_text.specs.Trace.{numbered}

-- the records of what is read
abbrev pub read_records : Machine → List (List (List ℕ))
read_records m = axis_records m ++ (group_records m ++ instance_records m)

-- what is read so far of a machine
pub record IsPart (s : Setup) (m : Machine) : Type 0 where
  pub axes : AllFirst IsAxisOf s.axes m.axes
  pub groups : AllFirst IsGroupOf s.groups m.groups
  pub instances : AllFirst IsInstanceOf s.blocks m.instances
  pub queues : AllByRecursion AreWaiting m.queues
  pub lists : length m.queues ≡ length s.axes + length s.groups
  pub empty : (i : ℕ) → objects_in m ≤ i → queue_of m.queues i ≡ []

-- one record more is read
record IsNextPart (s : Setup) (m : Machine) (fields : List (List ℕ)) (n : Machine) : Type 0 where
  part : IsPart s n
  records : read_records n ≡ read_records m ++ fields ∷ []

none_there : {X : Type 0} (xs : List X) → (length xs == 0) ≡ true → xs ≡ []
none_there [] e = refl
none_there (x ∷ xs) e = absurd (let n = eqb-true (suc (length xs)) 0 e in omega (arith, n))

-- ---- an axis

axis-added : (s : Setup) (m : Machine) (d : AxisDef) (a : Axis) (fields : List (List ℕ)) → IsPart s m → m.groups ≡ [] → m.instances ≡ [] → slice_get s.axes (length m.axes) ≡ Some d → IsAxisOf d a →
    axis_fields (length m.axes) a ≡ fields → IsNextPart s m fields (record m { axes = m.axes ++ a ∷ [] })
unfolding axis_records group_records instance_records
axis-added s m d a fields is groups instances at held spelled =
    let none : length m.groups ≡ 0 = ap length groups in
    let long = length-push m.axes a in
    let pushed = objects-push axis_fields (queue_of m.queues) 0 m.axes a (length m.axes) (omega arith) (is.empty (length m.axes) (omega (arith, none))) in
    let old : List (List (List ℕ)) = object_records axis_fields (queue_of m.queues) 0 m.axes in
    let no_groups : (k : ℕ) → object_records group_fields (λ j. queue_of m.queues (k + j)) 0 m.groups ≡ [] = λ k. ap (object_records group_fields (λ j. queue_of m.queues (k + j)) 0) groups in
    let no_instances : numbered instance_fields 0 m.instances ≡ [] = ap (numbered instance_fields 0) instances in
    record {
      part = record {
        axes = first-more IsAxisOf s.axes m.axes d a is.axes at held;
        groups = is.groups;
        instances = is.instances;
        queues = is.queues;
        lists = is.lists;
        empty = λ i l. is.empty i (omega (arith, long, l));
      };
      records = joined-one _ _ _ (no_groups (length (m.axes ++ a ∷ []))) no_instances ∙ pushed ∙ ap (λ t. old ++ t ∷ []) spelled
          ∙ ap (λ t. t ++ fields ∷ []) (sym (joined-one old _ _ (no_groups (length m.axes)) no_instances));
    }

axis-next : (s : Setup) (m : Machine) (fields : List (List ℕ)) (n : Machine) → IsPart s m → axis_meaning s m fields ≡ Ok n → IsNextPart s m (codes "axis" ∷ fields) n
unfolding axis_meaning axis_fields
axis-next s m fields n is h =
    let may = bind_ok (broken_unless (may_read_axis m) out_of_place) _ n h in
    let d = bind_ok (ok_or (slice_get s.axes (length m.axes)) too_many) _ n may.2 in
    let b = bind_ok (ok_or (behind_number (length m.axes) fields) no_value) _ n d.2 in
    let a = bind_ok (ok_or (axis_of d.0 b.0) no_value) _ n b.2 in
    let first = and_parts (length m.groups == 0) (length m.instances == 0) (holds (may_read_axis m) out_of_place may.0 may.1) in
    let number = number-only (length m.axes) fields b.0 (found (behind_number (length m.axes) fields) no_value b.0 b.1) in
    let axis = axis-only d.0 b.0 a.0 (found (axis_of d.0 b.0) no_value a.0 a.1) in
    let spelled : axis_fields (length m.axes) a.0 ≡ codes "axis" ∷ fields = ap (λ t. codes "axis" ∷ decimal (length m.axes) ∷ t) (axis.spelled (length m.axes)) ∙ ap (λ t. codes "axis" ∷ t) number in
    let same : record m { axes = m.axes ++ a.0 ∷ [] } ≡ n = cc a.2 in
    subst (IsNextPart s m (codes "axis" ∷ fields)) same
    (axis-added s m d.0 a.0 (codes "axis" ∷ fields) is (none_there m.groups first.0) (none_there m.instances first.1) (found (slice_get s.axes (length m.axes)) too_many d.0 d.1) axis.is spelled)

-- ---- a group

group-added : (s : Setup) (m : Machine) (d : GroupDef) (g : PlacedGroup) (fields : List (List ℕ)) → IsPart s m → m.instances ≡ [] → slice_get s.groups (length m.groups) ≡ Some d → IsGroupOf d g →
    group_fields (length m.groups) g ≡ fields → IsNextPart s m fields (record m { groups = m.groups ++ g ∷ [] })
unfolding axis_records group_records instance_records
group-added s m d g fields is instances at held spelled =
    let long = length-push m.groups g in
    let pushed = objects-push group_fields (group_queue m) 0 m.groups g (length m.groups) (omega arith) (is.empty (length m.axes + length m.groups) (omega arith)) in
    let axes : List (List (List ℕ)) = object_records axis_fields (queue_of m.queues) 0 m.axes in
    let before : List (List (List ℕ)) = object_records group_fields (group_queue m) 0 m.groups in
    let no_instances : numbered instance_fields 0 m.instances ≡ [] = ap (numbered instance_fields 0) instances in
    record {
      part = record {
        axes = is.axes;
        groups = first-more IsGroupOf s.groups m.groups d g is.groups at held;
        instances = is.instances;
        queues = is.queues;
        lists = is.lists;
        empty = λ i l. is.empty i (omega (arith, long, l));
      };
      records = joined-two axes _ _ no_instances ∙ ap (λ t. axes ++ t) (pushed ∙ ap (λ t. before ++ t ∷ []) spelled)
          ∙ sym (append_assoc axes before (fields ∷ [])) ∙ ap (λ t. t ++ fields ∷ []) (sym (joined-two axes before _ no_instances));
    }

group-next : (s : Setup) (m : Machine) (fields : List (List ℕ)) (n : Machine) → IsPart s m → group_meaning s m fields ≡ Ok n → IsNextPart s m (codes "group" ∷ fields) n
unfolding group_meaning group_fields
group-next s m fields n is h =
    let may = bind_ok (broken_unless (may_read_group m) out_of_place) _ n h in
    let d = bind_ok (ok_or (slice_get s.groups (length m.groups)) too_many) _ n may.2 in
    let b = bind_ok (ok_or (behind_number (length m.groups) fields) no_value) _ n d.2 in
    let g = bind_ok (ok_or (group_of d.0 b.0) no_value) _ n b.2 in
    let none = holds (may_read_group m) out_of_place may.0 may.1 in
    let number = number-only (length m.groups) fields b.0 (found (behind_number (length m.groups) fields) no_value b.0 b.1) in
    let group = group-only d.0 b.0 g.0 (found (group_of d.0 b.0) no_value g.0 g.1) in
    let spelled : group_fields (length m.groups) g.0 ≡ codes "group" ∷ fields = ap (λ t. codes "group" ∷ decimal (length m.groups) ∷ t) (group.spelled (length m.groups)) ∙ ap (λ t. codes "group" ∷ t) number in
    let same : record m { groups = m.groups ++ g.0 ∷ [] } ≡ n = cc g.2 in
    subst (IsNextPart s m (codes "group" ∷ fields)) same
    (group-added s m d.0 g.0 (codes "group" ∷ fields) is (none_there m.instances none) (found (slice_get s.groups (length m.groups)) too_many d.0 d.1) group.is spelled)

-- ---- an instance

instance-added : (s : Setup) (m : Machine) (d : BlockDef) (i : InstanceState) (fields : List (List ℕ)) → IsPart s m → slice_get s.blocks (length m.instances) ≡ Some d → IsInstanceOf d i →
    instance_fields (length m.instances) i ≡ fields → IsNextPart s m fields (record m { instances = m.instances ++ i ∷ [] })
unfolding axis_records group_records instance_records
instance-added s m d i fields is at held spelled =
    let pushed = numbered-push instance_fields 0 m.instances i (length m.instances) (omega arith) in
    let a : List (List (List ℕ)) = object_records axis_fields (queue_of m.queues) 0 m.axes in
    let g : List (List (List ℕ)) = object_records group_fields (group_queue m) 0 m.groups in
    let b : List (List (List ℕ)) = numbered instance_fields 0 m.instances in
    record {
      part = record {
        axes = is.axes;
        groups = is.groups;
        instances = first-more IsInstanceOf s.blocks m.instances d i is.instances at held;
        queues = is.queues;
        lists = is.lists;
        empty = is.empty;
      };
      records = ap (λ t. a ++ (g ++ t)) (pushed ∙ ap (λ t. b ++ t ∷ []) spelled)
          ∙ ap (λ t. a ++ t) (sym (append_assoc g b (fields ∷ []))) ∙ sym (append_assoc a (g ++ b) (fields ∷ []));
    }

instance-next : (s : Setup) (m : Machine) (fields : List (List ℕ)) (n : Machine) → IsPart s m → instance_meaning s m fields ≡ Ok n → IsNextPart s m (codes "instance" ∷ fields) n
unfolding instance_meaning instance_fields
instance-next s m fields n is h =
    let d = bind_ok (ok_or (slice_get s.blocks (length m.instances)) too_many) _ n h in
    let b = bind_ok (ok_or (behind_number (length m.instances) fields) no_value) _ n d.2 in
    let i = bind_ok (ok_or (instance_of d.0.kind b.0) no_value) _ n b.2 in
    let number = number-only (length m.instances) fields b.0 (found (behind_number (length m.instances) fields) no_value b.0 b.1) in
    let instance = instance-only d.0 b.0 i.0 (found (instance_of d.0.kind b.0) no_value i.0 i.1) in
    let spelled : instance_fields (length m.instances) i.0 ≡ codes "instance" ∷ fields = ap (λ t. codes "instance" ∷ decimal (length m.instances) ∷ t) (instance.spelled (length m.instances)) ∙ ap (λ t. codes "instance" ∷ t) number in
    let same : record m { instances = m.instances ++ i.0 ∷ [] } ≡ n = cc i.2 in
    subst (IsNextPart s m (codes "instance" ∷ fields)) same
    (instance-added s m d.0 i.0 (codes "instance" ∷ fields) is (found (slice_get s.blocks (length m.instances)) too_many d.0 d.1) instance.is spelled)

-- ---- a command that waits

-- the records of axes and groups
objects : List Axis → List PlacedGroup → List (List Wanted) → List (List (List ℕ))
objects axes groups lists =
    object_records axis_fields (queue_of lists) 0 axes ++ object_records group_fields (λ j. queue_of lists (length axes + j)) 0 groups

-- a list with a command more
longer : List (List Wanted) → ℕ → Wanted → List (List Wanted)
longer lists i w = slice_set lists i (queue_of lists i ++ w ∷ [])

objects-wait : (axes : List Axis) (groups : List PlacedGroup) (lists : List (List Wanted)) (i : ℕ) (w : Wanted) → suc i ≡ length axes + length groups → i < length lists →
    objects axes groups (longer lists i w) ≡ objects axes groups lists ++ waiting_fields w ∷ []
unfolding objects longer
objects-wait axes (g ∷ gs) lists i w e l =
    let v : List Wanted = queue_of lists i ++ w ∷ [] in
    let here : i ≡ length axes + length gs = omega arith in
    let first = objects-same axis_fields (queue_of lists) (queue_of (slice_set lists i v)) 0 axes (λ j a b. set-other lists i j v (λ k. omega (arith, k, here, b))) in
    let second = objects-grown group_fields (λ j. queue_of lists (length axes + j)) (λ j. queue_of (slice_set lists i v) (length axes + j)) 0 g gs w (length gs) (omega arith)
    (λ j a b. set-other lists i (length axes + j) v (λ k. omega (arith, k, here, b)))
    (subst (λ z. queue_of (slice_set lists i v) z ≡ queue_of lists z ++ w ∷ []) here (set-here lists i v l)) in
    let led : List (List (List ℕ)) = object_records group_fields (λ j. queue_of lists (length axes + j)) 0 (g ∷ gs) in
    let old : List (List (List ℕ)) = object_records axis_fields (queue_of lists) 0 axes in
    ap (λ t. t ++ object_records group_fields (λ j. queue_of (slice_set lists i v) (length axes + j)) 0 (g ∷ gs)) first
    ∙ ap (λ t. old ++ t) second ∙ sym (append_assoc old led (waiting_fields w ∷ []))
objects-wait [] [] lists i w e l = absurd (omega arith)
objects-wait (x ∷ xs) [] lists i w e l =
    let v : List Wanted = queue_of lists i ++ w ∷ [] in
    let before : List (List (List ℕ)) = object_records axis_fields (queue_of lists) 0 (x ∷ xs) in
    let grown = objects-grown axis_fields (queue_of lists) (queue_of (slice_set lists i v)) 0 x xs w i (omega arith) (λ j a b. set-other lists i j v (λ k. omega (arith, k, b))) (set-here lists i v l) in
    ap (λ t. t ++ []) grown ∙ append-nil (before ++ waiting_fields w ∷ []) ∙ ap (λ t. t ++ waiting_fields w ∷ []) (sym (append-nil before))

waiting-added : (s : Setup) (m : Machine) (w : Wanted) (i : ℕ) → IsPart s m → suc i ≡ objects_in m → i < length m.queues → m.instances ≡ [] → IsWanted w → length (queue_of m.queues i) < 8 →
    IsNextPart s m (waiting_fields w) (record m { queues = slice_set m.queues i (queue_of m.queues i ++ w ∷ []) })
unfolding axis_records group_records instance_records objects longer
waiting-added s m w i is last there instances wanted few =
    let v : List Wanted = queue_of m.queues i ++ w ∷ [] in
    let long = length-push (queue_of m.queues i) w in
    let old = queues-waiting m.queues is.queues i in
    let wait = objects-wait m.axes m.groups m.queues i w last there in
    let no_instances : numbered instance_fields 0 m.instances ≡ [] = ap (numbered instance_fields 0) instances in
    record {
      part = record {
        axes = is.axes;
        groups = is.groups;
        instances = is.instances;
        queues = set-each AreWaiting m.queues i v is.queues (record {
          few = omega (arith, long, few);
          each = each-append IsWanted (queue_of m.queues i) (w ∷ []) old.each (wanted, tt);
        });
        lists = set-long m.queues i v ∙ is.lists;
        empty = λ j l. set-other m.queues i j v (λ e. omega (arith, e, l, last)) ∙ is.empty j l;
      };
      records = joined-two _ _ _ no_instances ∙ wait ∙ ap (λ t. t ++ waiting_fields w ∷ []) (sym (joined-two _ _ _ no_instances));
    }

-- another one has room
below_eight : (n : ℕ) → n ≤ 8 → not (n == 8) ≡ true → n < 8
below_eight n l h = elim (cases_lt n 8) [
  | inl below ↦ below
  | inr at ↦ let same : (n == 8) ≡ true = eq-eqb n 8 (omega arith) in absurd (let no : false ≡ true = rw same at h in cc no)
]

waiting-next : (s : Setup) (m : Machine) (fields : List (List ℕ)) (n : Machine) → IsPart s m → waiting_meaning m fields ≡ Ok n → IsNextPart s m (codes "waiting" ∷ fields) n
unfolding waiting_meaning
waiting-next s m fields n is h =
    let list = bind_ok (ok_or (last_list m) out_of_place) _ n h in
    let w = bind_ok (ok_or (wanted_of fields) no_value) _ n list.2 in
    let few = bind_ok (broken_unless (not (length (queue_of m.queues list.0) == 8)) too_many) _ n w.2 in
    let i : ℕ = list.0 in
    let wanted = wanted-only fields w.0 (found (wanted_of fields) no_value w.0 w.1) in
    let same : record m { queues = slice_set m.queues i (queue_of m.queues i ++ w.0 ∷ []) } ≡ n = cc few.2 in
    let spelled : waiting_fields w.0 ≡ codes "waiting" ∷ fields = ap (λ t. codes "waiting" ∷ t) wanted.spelled in
    let held = queues-waiting m.queues is.queues i in
    let room = below_eight (length (queue_of m.queues i)) held.few (holds (not (length (queue_of m.queues i) == 8)) too_many few.0 few.1) in
    pick (has_list m (objects_in m)) (Some (objects_in m - 1)) None (Some i) (found (last_list m) out_of_place i list.1)
    (λ yes e.
    let tests = and_parts (nat_le 1 (objects_in m) && nat_le (objects_in m) (length m.queues)) (length m.instances == 0) yes in
    let sizes = and_parts (nat_le 1 (objects_in m)) (nat_le (objects_in m) (length m.queues)) tests.0 in
    let low = leb-true 1 (objects_in m) sizes.0 in
    let high = leb-true (objects_in m) (length m.queues) sizes.1 in
    let at : objects_in m - 1 ≡ i = cc e in
    subst (IsNextPart s m (codes "waiting" ∷ fields)) same
    (subst (λ f. IsNextPart s m f (record m { queues = slice_set m.queues i (queue_of m.queues i ++ w.0 ∷ []) })) spelled
    (waiting-added s m w.0 i is (omega (arith, low, at)) (omega (arith, low, high, at)) (none_there m.instances tests.1) wanted.is room)))
    (λ _ e. absurd (cc e))

-- ---- any record

said : (word text : List ℕ) → says word text ≡ true → text ≡ word
unfolding says
said word text h = sym (same-bytes word text h)

record-next : (s : Setup) (m : Machine) (fields : List (List ℕ)) (n : Machine) → IsPart s m → record_meaning s m fields ≡ Ok n → IsNextPart s m fields n
unfolding record_meaning
record-next s m [] n is h = absurd (cc h)
record-next s m (kind ∷ fields) n is h =
    let of : List ℕ → Type 0 = λ k. IsNextPart s m (k ∷ fields) n in
    pick (says kind (codes "axis")) (axis_meaning s m fields) _ (Ok n) h
    (λ yes r. subst of (said kind (codes "axis") yes) (axis-next s m fields n is r))
    (λ _ h1. pick (says kind (codes "group")) (group_meaning s m fields) _ (Ok n) h1
    (λ yes r. subst of (said kind (codes "group") yes) (group-next s m fields n is r))
    (λ _ h2. pick (says kind (codes "waiting")) (waiting_meaning m fields) _ (Ok n) h2
    (λ yes r. subst of (said kind (codes "waiting") yes) (waiting-next s m fields n is r))
    (λ _ h3. pick (says kind (codes "instance")) (instance_meaning s m fields) (Err out_of_place) (Ok n) h3
    (λ yes r. subst of (said kind (codes "instance") yes) (instance-next s m fields n is r))
    (λ _ r. absurd (cc r)))))

-- a record has a kind
some-fields : (s : Setup) (m : Machine) (fields : List (List ℕ)) (n : Machine) → record_meaning s m fields ≡ Ok n → fields ≡ [] → ⊥
unfolding record_meaning
some-fields s m [] n h e = cc h
some-fields s m (kind ∷ fields) n h e = cc e

-- ---- lines

-- lines of records are read, after which this is read of the machine
pub record AreRead (s : Setup) (m : Machine) (lines : List (List ℕ)) (n : Machine) : Type 0 where
  pub part : IsPart s n
  pub records : read_records n ≡ read_records m ++ map fields_in lines
  pub spelled : flat_map ended lines ≡ lines_text (map fields_in lines)

pub lines-next : (s : Setup) (k : ℕ) (lines : List (List ℕ)) (m n : Machine) → IsPart s m → lines_meaning s k m lines ≡ Ok n → AreRead s m lines n
unfolding lines_text
lines-next s k [] m n is h =
    let same : m ≡ n = cc h in
    subst (AreRead s m []) same (record { part = is; records = sym (append-nil (read_records m)); spelled = refl })
lines-next s k (line ∷ lines) m n is h =
    let one = bind_ok (at_line (k + 1) (record_meaning s m (fields_in line))) _ n h in
    let read = line-ok (record_meaning s m (fields_in line)) (k + 1) one.0 one.1 in
    let step = record-next s m (fields_in line) one.0 is read in
    let more = lines-next s (k + 1) lines one.0 n step.part one.2 in
    let first = line-spelled line (some-fields s m (fields_in line) one.0 read) in
    record {
      part = more.part;
      records = more.records ∙ ap (λ t. t ++ map fields_in lines) step.records ∙ append_assoc (read_records m) (fields_in line ∷ []) (map fields_in lines);
      spelled = ap (λ t. t ++ flat_map ended lines) first ∙ ap (λ t. line_of (fields_in line) ++ t) more.spelled;
    }

-- nothing is read yet
pub nothing-read : (s : Setup) → IsPart s (unread s)
unfolding unread
nothing-read s = record {
  axes = tt;
  groups = tt;
  instances = tt;
  queues = each-empty AreWaiting (length s.axes + length s.groups) (record { few = omega arith; each = tt });
  lists = copies-long [] (length s.axes + length s.groups);
  empty = λ i l. none-waits (length s.axes + length s.groups) i;
}

pub none-read : (s : Setup) → read_records (unread s) ≡ []
unfolding axis_records group_records instance_records unread
none-read s = refl
