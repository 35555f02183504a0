-- What a refused call shows, and leaves of its instance.
-- for: refusals_change_nothing, refusals_are_the_first, replies_tell_one_result and others
use Rattle.std.specs.Prelude.{◌≡◌, refl, ℕ, zero, suc, Bool, true, false, ◌&&◌, if◌then◌else◌, Ok, Err, List, [], ◌∷◌, map, slice_set}
use Rattle.std.proofs.lemmas.List.{set-get_or}
use Rattle.std.proofs.Common.{ap, sym, subst, ◌∙◌}
use Rattle.axis_core.specs.Calls.{axis_without_owner}
use Rattle.command_pool.specs.Waiting.{detached}
use Rattle.command_pool.specs.declared.ending.Finish.TheVariants as finish
use Rattle.plc_types.specs.declared.kind.BlockKind.{BlockKind}
use Rattle.fb_outputs.specs.InstanceState.{InstanceState}
use Rattle.fb_outputs.specs.Steps as instance
use Rattle.fb_outputs.specs.Steps.{edge_of, is_power, is_stop, nothing, outputs_by, outputs_of, reached_after}
use Rattle.plc_types.specs.declared.inputs.Inputs.{Inputs}
use Rattle.fb_outputs.specs.declared.instance.Edge.TheVariants as edge
use Rattle.fb_outputs.specs.declared.instance.Progress.{Progress}
use Rattle.fb_outputs.specs.declared.instance.Progress.TheVariants.{Waiting, Active, Ended}
use Rattle.plc_types.specs.declared.outputs.Outputs.{Outputs}
use Rattle.group_core.specs.Calls.{group_without}
use Rattle.motion_kernel.specs.calls.Asking.{is_done_at_once}
use Rattle.motion_kernel.specs.calls.Calls.{after_reply, answered_instance, with_answer, with_axis_core, with_execute, with_group_core, without_owner}
use Rattle.motion_kernel.specs.Machine.{Machine, PlacedGroup, axis_core_at, group_core_at, instance_at, list_of, no_group, no_axis}
use Rattle.motion_kernel.proofs.Sizes.{by_if}
use Rattle.motion_laws.specs.entries.Refusals.{IsRefusalNumber, machine_refused, refused_instance}

-- an axis and a group that stay as they are leave the machine so
pub axis_as_it_is : (m : Machine) (n : ℕ) → with_axis_core m n (axis_core_at m n) ≡ m
axis_as_it_is m n =
    let a = set-get_or m.axes n no_axis in
    let w = set-get_or m.queues n [] in
    λ i. record { axes = a i; groups = m.groups; queues = w i; instances = m.instances }

pub group_as_it_is : (m : Machine) (j : ℕ) → with_group_core m j (group_core_at m j) ≡ m
group_as_it_is m j =
    let g = set-get_or m.groups j no_group in
    let w = set-get_or m.queues (list_of m j) [] in
    λ i. record { axes = m.axes; groups = g i; queues = w i; instances = m.instances }

-- an instance without a result of error shows none
pub shows_no_error : (b stop execute reached : Bool) (p : Progress) (o : Outputs) → o.error ≡ false →
    (outputs_by stop execute reached p).error ≡ false →
    (if b then o else outputs_by stop execute reached p).error ≡ false
shows_no_error true stop execute reached p o h k = h
shows_no_error false stop execute reached p o h k = k

admitted_shows : (kind : BlockKind) (active : Bool) (i : InstanceState) →
    (outputs_of (answered_instance kind (Ok active) i)).error ≡ false
admitted_shows kind true i = shows_no_error (is_power i.kind)
    (is_stop i.kind) i.execute false Active _ refl refl
admitted_shows kind false i =
    by_if (λ (j : InstanceState). (outputs_of j).error ≡ false) (is_done_at_once kind) _ _
    (shows_no_error (is_power i.kind) (is_stop i.kind) i.execute i.reached
    (Ended finish.Done false) _ refl refl)
    (shows_no_error (is_power i.kind) (is_stop i.kind) i.execute false Waiting _ refl refl)

-- nor does the place of it in a list
pub written_shows : (is : List InstanceState) (k : ℕ) (j : InstanceState) →
    (outputs_of j).error ≡ false → (outputs_of (instance_at (slice_set is k j) k)).error ≡ false
written_shows [] k j h = refl
written_shows (i ∷ is) zero j h = h
written_shows (i ∷ is) (suc k) j h = written_shows is k j h

-- a rising edge is one from false to true
pub record IsRise (before now : Bool) : Type 0 where
  pub was : before ≡ false
  pub is : now ≡ true

pub rise_of : (before now : Bool) → edge_of before now ≡ edge.Rising → IsRise before now
rise_of false true e = record { was = refl; is = refl }
rise_of true true e = absurd (cc)
rise_of true false e = absurd (cc)
rise_of false false e = absurd (cc)

-- what an instance shows of an error: a Power shows none
record ShowsError (power : Bool) (number id : ℕ) : Type 0 where
  no_power : power ≡ false
  same : id ≡ number

error_shown : (power : Bool) (o : Outputs) (number : ℕ) → o.error ≡ false →
    (if power then o else record nothing { error = true; error_id = number }).error ≡ true →
    ShowsError power number
    (if power then o else record nothing { error = true; error_id = number }).error_id
error_shown true o number h e = absurd (cc)
error_shown false o number h e = record { no_power = refl; same = refl }

-- the instance of a refused call before its reply
abbrev refusing : Bool → ℕ → InstanceState → InstanceState
refusing execute number i = instance.finished (instance.called i execute) (finish.Error number)

-- what a refused call leaves of its instance
record IsInstanceRefused (number : ℕ) (before after : InstanceState) (id : ℕ) : Type 0 where
  same : id ≡ number
  left : instance.shown after ≡ refused_instance id before

instance_refused : (i : InstanceState) (execute : Bool) (number : ℕ) → edge_of i.execute execute
    ≡ edge.Rising →
    (outputs_of (refusing execute number i)).error ≡ true →
    IsInstanceRefused number i (refusing execute number i)
    (outputs_of (refusing execute number i)).error_id
instance_refused i execute number e shows =
    let rise = rise_of i.execute execute e in
    let error = error_shown (is_power i.kind) _ number refl shows in
    let now = rise.is in
    let none : reached_after i.kind (edge_of i.execute execute) i.reached ≡ false =
    ap (λ x. reached_after i.kind x i.reached) e ∙ ap (λ p. p && i.reached) error.no_power in
    record {
      same = error.same;
      left = λ x. record {
        kind = i.kind;
        execute = now x;
        reached = none x;
        progress = Ended
            (finish.Error (sym error.same x)) true;
      };
    }

-- the same in its place in a list
abbrev refused_in : Bool → ℕ → List InstanceState → ℕ → List InstanceState
refused_in execute number is k =
    let told = slice_set is k (instance.called (instance_at is k) execute) in
    slice_set told k (instance.finished (instance_at told k) (finish.Error number))

abbrev pub id_shown : List InstanceState → ℕ → ℕ
id_shown is k = (outputs_of (instance_at is k)).error_id

pub record AreRefused (number : ℕ) (before after : List InstanceState) (k : ℕ) : Type 0 where
  pub same : id_shown after k ≡ number
  left : slice_set after k (instance.shown (instance_at after k)) ≡ slice_set before k
      (refused_instance (id_shown after k) (instance_at before k))

pub are_refused : (is : List InstanceState) (k : ℕ) (execute : Bool) (number : ℕ) → edge_of
    (instance_at is k).execute execute ≡ edge.Rising →
    (outputs_of (instance_at (refused_in execute number is k) k)).error ≡ true →
    AreRefused number is (refused_in execute number is k) k
are_refused [] k execute number e shows = absurd (cc)
are_refused (i ∷ is) zero execute number e shows =
    let one = instance_refused i execute number e shows in
    record { same = one.same; left = ap (λ j. j ∷ is) one.left }
are_refused (i ∷ is) (suc k) execute number e shows =
    let rest = are_refused is k execute number e shows in
    record { same = rest.same; left = ap (λ js. i ∷ js) rest.left }

-- what holds of a machine after a call, before its reply: where that shows an error, the call has
-- changed nothing
pub record ChangesNothing (k : ℕ) (m x : Machine) : Type 0 where
  pub left : after_reply k x ≡ machine_refused k (id_shown x.instances k) m
  pub number : IsRefusalNumber (id_shown x.instances k)

abbrev pub RefusesWell : ℕ → Machine → Machine → Type 0
RefusesWell k m x = (outputs_of (instance_at x.instances k)).error ≡ true → ChangesNothing k m x

-- a call that is admitted shows no error
pub admitted_never : (k : ℕ) (kind : BlockKind) (active : Bool) (y : Machine) →
    (outputs_of (instance_at (with_answer k kind (Ok active) y).instances k)).error ≡ true → ⊥
admitted_never k kind active y shows =
    let none = written_shows y.instances k
    (answered_instance kind (Ok active) (instance_at y.instances k))
    (admitted_shows kind active (instance_at y.instances k)) in
    cc

pub admitted_well : (k : ℕ) (kind : BlockKind) (active : Bool) (m y : Machine) → RefusesWell k m
    (with_answer k kind (Ok active) y)
admitted_well k kind active m y shows = absurd (admitted_never k kind active y shows)

-- the machine in which a call asks
abbrev pub asking_machine : ℕ → Inputs → Machine → Machine
asking_machine k i m = without_owner k (with_execute k i m)

-- a refused one has changed nothing
refused_here : (k : ℕ) (kind : BlockKind) (i : Inputs) (m : Machine) (number : ℕ) → edge_of
    (instance_at m.instances k).execute i.execute ≡ edge.Rising →
    IsRefusalNumber number → RefusesWell k m (with_answer k kind (Err (record { number = number }))
    (asking_machine k i m))
unfolding without_owner
refused_here k kind i m number e is shows =
    let all = are_refused m.instances k i.execute number e shows in
    record {
      left = ap (λ js. record {
        axes = map (axis_without_owner k) m.axes;
        groups = map (λ (g : PlacedGroup). record g { group = group_without k g.group }) m.groups;
        queues = map (map (detached k)) m.queues;
        instances = js;
      }) all.left;
      number = subst IsRefusalNumber (sym all.same) is;
    }

pub refused_well : (k : ℕ) (kind : BlockKind) (i : Inputs) (m y : Machine) (number : ℕ) → edge_of
    (instance_at m.instances k).execute i.execute ≡ edge.Rising →
    IsRefusalNumber number → y ≡ asking_machine k i m → RefusesWell k m
    (with_answer k kind (Err (record { number = number })) y)
refused_well k kind i m y number e is same =
    subst (λ x. RefusesWell k m (with_answer k kind (Err (record { number = number })) x))
    (sym same) (refused_here k kind i m number e is)
