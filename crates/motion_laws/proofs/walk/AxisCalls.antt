-- What a call makes of an axis, and of what waits for it, goes with what it says of the axis: with
-- the fate of its active command, and with its events.
-- for: machines_can_stand, moves_arrive_in_time, paths_end_in_time and others
use Rattle.std.specs.Prelude.{◌≡◌, refl, ℕ, ◌<◌, Bool, true, false, if◌then◌else◌, is_some, nat_eq, Option, Some, None, Result, List, [], ◌∷◌, ◌||◌, length, map, slice_get, slice_set}
use Rattle.std.specs.List.{list_any}
use Rattle.std.proofs.Common.{arith, ap, sym, subst, ◌∙◌, inl, inr}
use Rattle.std.proofs.lemmas.Bool.{cases_Bool, eqb-false, eqb-true}
use Rattle.std.proofs.lemmas.List.{get_or-set_other, get_or-set_same, length-set}
use Rattle.axis_core.specs.Calls.{axis_without_owner, core_after_command, core_after_power}
use Rattle.axis_core.specs.Cores as cores
use Rattle.buffer_modes.specs.Fates.{Fate}
use Rattle.axis_core.specs.Owners.{core_without_owner}
use Rattle.axis_core.specs.Refusals.{Asked}
use Rattle.axis_core.specs.blocks.Path.{axis_on_path, is_on_path}
use Rattle.axis_core.specs.declared.axis.Axis.{Axis}
use Rattle.plc_types.specs.Kinds.{acts_on_group}
use Rattle.command_pool.specs.Waiting.{detached, queue_of}
use Rattle.command_pool.specs.declared.ending.Refusal.{Refusal}
use Rattle.plc_types.specs.declared.kind.BlockKind.{BlockKind}
use Rattle.command_pool.specs.declared.wanted.Wanted.{Wanted}
use Rattle.fb_outputs.specs.Steps.{is_power}
use Rattle.plc_types.specs.declared.inputs.Inputs.{Inputs}
use Rattle.group_core.specs.Calls.{answer_of, commanded, powered_off}
use Rattle.motion_history.specs.Setup.{Setup}
use Rattle.motion_history.specs.declared.config.BlockDef.{BlockDef}
use Rattle.motion_kernel.specs.calls.Asking.{wanted_of}
use Rattle.motion_laws.specs.arrivals.AxisFates.{call_fate}
use Rattle.motion_laws.specs.calls.Axis as on_axis
use Rattle.motion_laws.specs.calls.Axis.{AxisCall, by_group_command, led_by}
use Rattle.motion_kernel.specs.calls.Requests.{Request, machine_asked}
use Rattle.motion_kernel.specs.calls.Calls.{after_axis_command, after_call, after_group_command, after_power, asked_of_axis, axes_led, axis_led, enters_path, group_without_power, leaves_path, members_led, with_axis_core, with_execute, with_group_core, without_owner}
use Rattle.motion_kernel.specs.looks.GroupLooks.{group_look}
use Rattle.motion_kernel.specs.Machine.{Machine, axis_among, axis_at, axis_core_at, group_core_at, no_axis}
use Rattle.motion_kernel.specs.members.Members.{members_at, membership_of}
use Rattle.motion_kernel.specs.declared.memberships.Membership.{Membership}
use Rattle.motion_kernel.proofs.kept.Detached.{disowned_size}
use Rattle.motion_kernel.proofs.kept.Events.{axis_beside_axis, axis_beside_group, axis_written}
use Rattle.motion_kernel.proofs.kept.LedAxes.{led_twice}
use Rattle.motion_kernel.proofs.Sizes.{by_if}
use Rattle.motion_kernel.proofs.owners.commands.Freed.{axis_disowned}
use Rattle.motion_kernel.proofs.walk.ByTest.{both, one}
use Rattle.motion_kernel.proofs.walk.Requests.{by_request}

-- whatever is asked, or only what is made as it should
abbrev pub AnyAsked : Asked → cores.Core → Type 0
AnyAsked q c = Unit {0}

-- an axis with what waits for it, of which nothing is reported yet
abbrev pub core_of : Axis → List Wanted → cores.Core
core_of a ws = record { axis = a; waiting = ws; notes = [] }

-- a property of an axis and of what waits for it after a call, by what the call says of it, that
-- every event of the axis gives it, where a command is asked so
pub record IsSaid {A : Type 0} (v : AxisCall → cores.Core → A) (Well : Asked → cores.Core → Type 0) (a : Axis) (ws : List Wanted)
    (P : A → Axis → List Wanted → Type 0) : Type 0 where
  pub rests : P (v on_axis.rests (core_of a ws)) a ws
  pub led : (owner : ℕ) (on : Bool) → P (v (on_axis.led on) (core_without_owner owner (core_of a ws)))
      (axis_led on (axis_without_owner owner a)) (map (detached owner) ws)
  pub detach : (owner : ℕ) → P (v on_axis.rests (core_without_owner owner (core_of a ws)))
      (axis_without_owner owner a) (map (detached owner) ws)
  pub power : (enable : Bool) (c : cores.Core) → c.axis ≡ a → c.waiting ≡ ws →
      P (v (on_axis.power enable) c) (core_after_power enable c).axis (core_after_power enable c).waiting
  pub command : (owner : ℕ) (q : Asked) (c : cores.Core) → c.axis ≡ axis_without_owner owner a →
      c.waiting ≡ map (detached owner) ws → Well q c →
      P (v (on_axis.asked q) c) (core_after_command q c).axis (core_after_command q c).waiting

-- an axis of the machine has its list
pub record IsThere (m : Machine) (n : ℕ) : Type 0 where
  pub axis : n < length m.axes
  pub list : n < length m.queues

-- an axis among those that are led is led once
led_among : (on : Bool) (ns : List ℕ) (m : Machine) (n : ℕ) → n < length m.axes →
    axis_at (axes_led on ns m) n ≡ (if list_any (nat_eq n) ns then axis_led on (axis_at m n) else axis_at m n)
led_among on [] m n l = refl
led_among on (i ∷ is) m n l =
    let one : Machine = record m { axes = slice_set m.axes i (axis_led on (axis_at m i)) } in
    let size : length one.axes ≡ length m.axes = length-set m.axes i (axis_led on (axis_at m i)) in
    let later = led_among on is one n (omega arith) in
    let a = axis_at m n in
    let Q : Axis → Type 0 = λ y. axis_at (axes_led on is one) n ≡ (if list_any (nat_eq n) is then axis_led on y else y) in
    elim (cases_Bool (nat_eq n i)) [
      | inl e ↦
          let same : n ≡ i = eqb-true n i e in
          let here : axis_at one n ≡ axis_led on a =
          subst (λ j. axis_among (slice_set m.axes j (axis_led on (axis_at m j))) n ≡ axis_led on a) same
          (get_or-set_same m.axes n (axis_led on a) no_axis l) in
          let R : Bool → Type 0 = λ b. axis_at (axes_led on is one) n ≡ (if b || list_any (nat_eq n) is then axis_led on a else a) in
          subst R (sym e) (subst Q here later ∙ always (list_any (nat_eq n) is) on a)
      | inr d ↦
          let here : axis_at one n ≡ a = get_or-set_other m.axes i n (axis_led on (axis_at m i)) no_axis (eqb-false n i d) in
          let R : Bool → Type 0 = λ b. axis_at (axes_led on is one) n ≡ (if b || list_any (nat_eq n) is then axis_led on a else a) in
          subst R (sym d) (subst Q here later)
    ]
  where
    always : (b : Bool) (on : Bool) (a : Axis) → (if b then axis_led on (axis_led on a) else axis_led on a) ≡ axis_led on a
    always true on a = led_twice on a
    always false on a = refl

-- so it goes with what a command that is asked of a group asks of the axis
led_said : (Q : AxisCall → Axis → Type 0) (s : Setup) (j : ℕ) (kind : BlockKind) (answer : Result Bool Refusal) (m : Machine) (n : ℕ) →
    n < length m.axes → ((on : Bool) → Q (on_axis.led on) (axis_led on (axis_at m n))) → Q on_axis.rests (axis_at m n) →
    Q (if list_any (nat_eq n) (members_at s j) then led_by kind answer else on_axis.rests) (axis_at (members_led s j kind answer m) n)
led_said Q s j kind answer m n l leads rests =
    let ns = members_at s j in
    let b = list_any (nat_eq n) ns in
    let R : AxisCall → Machine → Type 0 = λ x z. Q (if b then x else on_axis.rests) (axis_at z n) in
    let here : (on : Bool) → R (on_axis.led on) (axes_led on ns m) =
    λ on. subst (Q (if b then on_axis.led on else on_axis.rests)) (sym (led_among on ns m n l))
    (both Q b (on_axis.led on) on_axis.rests (axis_led on (axis_at m n)) (axis_at m n) (λ e. leads on) (λ e. rests)) in
    let none : R on_axis.rests m = one (λ x. Q x (axis_at m n)) b on_axis.rests on_axis.rests (λ e. rests) (λ e. rests) in
    both R (enters_path answer) (on_axis.led true) (if leaves_path kind answer then on_axis.led false else on_axis.rests)
    (axes_led true ns m) (if leaves_path kind answer then axes_led false ns m else m) (λ e. here true)
    (λ e. both R (leaves_path kind answer) (on_axis.led false) on_axis.rests (axes_led false ns m) m (λ f. here false) (λ f. none))

led_queues : (on : Bool) (ns : List ℕ) (m : Machine) → (axes_led on ns m).queues ≡ m.queues
led_queues on [] m = refl
led_queues on (n ∷ ns) m = led_queues on ns _

members_queues : (s : Setup) (j : ℕ) (kind : BlockKind) (answer : Result Bool Refusal) (m : Machine) →
    (members_led s j kind answer m).queues ≡ m.queues
members_queues s j kind answer m =
    by_if (λ (y : Machine). y.queues ≡ m.queues) (enters_path answer) _ _ (led_queues true (members_at s j) m)
    (by_if (λ (y : Machine). y.queues ≡ m.queues) (leaves_path kind answer) _ _ (led_queues false (members_at s j) m) refl)

-- what a path leaves, an axis that is led leaves
pub path_led : (P : Axis → Type 0) → ((on : Bool) (x : Axis) → P x → P (axis_on_path on x)) →
    (on : Bool) (x : Axis) → P x → P (axis_led on x)
path_led P path true x h = by_if P (is_some x.active) x (axis_on_path true x) h (path true x h)
path_led P path false x h = by_if P (is_on_path x) (axis_on_path false x) x (path false x h) h

-- what a rising edge asks of the axis is asked so
abbrev pub AsksWell : (Asked → cores.Core → Type 0) → Setup → ℕ → BlockDef → Inputs → Machine → ℕ → Type 0
AsksWell W s k b i m n = acts_on_group b.kind ≡ false → nat_eq b.object n ≡ true →
    W (asked_of_axis s k n b.kind i (without_owner k m)) (axis_core_at (without_owner k m) n)

-- a Power of this axis, or of another one
group_off : (o : Option Membership) (m : Machine) (n : ℕ) → n < length m.axes →
    axis_core_at (group_without_power o m) n ≡ axis_core_at m n
group_off None m n l = refl
group_off (Some at) m n l =
    axis_beside_group m at.group n (powered_off (group_core_at m at.group)) l

powered : (s : Setup) (o : ℕ) (enable : Bool) (m : Machine) (n : ℕ) → n < length m.axes →
    axis_core_at (after_power s o enable m) n
    ≡ axis_core_at (with_axis_core m o (core_after_power enable (axis_core_at m o))) n
unfolding after_power
powered s o true m n l = refl
powered s o false m n l =
    let c = core_after_power false (axis_core_at m o) in
    let size = length-set m.axes o c.axis in
    group_off (membership_of s o) (with_axis_core m o c) n (omega arith)

module _ {A : Type 0} (v : AxisCall → cores.Core → A) (P : A → Axis → List Wanted → Type 0) (W : Asked → cores.Core → Type 0) where
  -- so it is of an axis of the machine
  abbrev At : A → Machine → ℕ → Type 0
  At f m n = P f (axis_at m n) (queue_of m.queues n)

  -- where nothing is asked of an axis but its owner is taken away
  freed : (a : Axis) (ws : List Wanted) → IsSaid v W a ws P → (k : ℕ) (m : Machine) (n : ℕ) →
      axis_core_at m n ≡ core_without_owner k (core_of a ws) → At (v on_axis.rests (axis_core_at m n)) m n
  freed a ws laws k m n is =
      subst (λ (d : cores.Core). P (v on_axis.rests d) d.axis d.waiting) (sym is) (laws.detach k)

  -- a command that is asked of a group
  group_command : (a : Axis) (ws : List Wanted) → IsSaid v W a ws P → (s : Setup) (k : ℕ) (b : BlockDef) (i : Inputs) (m : Machine) (n : ℕ) →
      n < length m.axes → axis_core_at m n ≡ core_without_owner k (core_of a ws) →
      At (v (by_group_command s k b i m n) (axis_core_at m n)) (after_group_command s k b.object b.kind i m) n
  unfolding after_group_command
  group_command a ws laws s k b i m n l is =
      let j = b.object in
      let w = wanted_of k b.kind i in
      let look = group_look s m j 0 in
      let d = commanded w i.jerk look (group_core_at m j) in
      let y = with_group_core m j d in
      let answer = answer_of w i.jerk look (group_core_at m j) in
      let z = members_led s j b.kind answer y in
      let c = axis_core_at m n in
      let queue : queue_of z.queues n ≡ queue_of m.queues n =
      ap (λ qs. queue_of qs n) (members_queues s j b.kind answer y) ∙ ap (λ (e : cores.Core). e.waiting) (axis_beside_group m j n d l) in
      subst (P (v (by_group_command s k b i m n) c) (axis_at z n)) (sym queue)
      (led_said (λ x a. P (v x c) a (queue_of m.queues n)) s j b.kind answer y n l
      (λ on. subst (λ (e : cores.Core). P (v (on_axis.led on) e) (axis_led on e.axis) e.waiting) (sym is) (laws.led k on))
      (freed a ws laws k m n is))

  -- a command that is asked of this axis, or of another one
  axis_command : (a : Axis) (ws : List Wanted) → IsSaid v W a ws P → (s : Setup) (k o : ℕ) (kind : BlockKind) (i : Inputs) (m : Machine) (n : ℕ) →
      IsThere m n → axis_core_at m n ≡ core_without_owner k (core_of a ws) →
      (nat_eq o n ≡ true → W (asked_of_axis s k n kind i m) (axis_core_at m n)) →
      At (v (if nat_eq o n then on_axis.asked (asked_of_axis s k n kind i m) else on_axis.rests) (axis_core_at m n)) (after_axis_command s k o kind i m) n
  unfolding after_axis_command
  axis_command a ws laws s k o kind i m n there is well =
      let q = asked_of_axis s k o kind i m in
      one (λ x. At (v x (axis_core_at m n)) (after_axis_command s k o kind i m) n) (nat_eq o n) _ _
      (λ e. let same = eqb-true o n e in
      let f = v (on_axis.asked (asked_of_axis s k n kind i m)) (axis_core_at m n) in
      let c = core_after_command (asked_of_axis s k n kind i m) (axis_core_at m n) in
      let here : P f c.axis c.waiting =
      laws.command k (asked_of_axis s k n kind i m) (axis_core_at m n) (ap (λ (d : cores.Core). d.axis) is)
      (ap (λ (d : cores.Core). d.waiting) is) (well e) in
      rw same (subst (λ (d : cores.Core). P f d.axis d.waiting) (sym (axis_written m n c there.axis there.list)) here))
      (λ e. subst (λ (d : cores.Core). P (v on_axis.rests (axis_core_at m n)) d.axis d.waiting)
      (sym (axis_beside_axis m o n (core_after_command q (axis_core_at m o))
      (λ same. eqb-false o n e (sym same)))) (freed a ws laws k m n is))

  powers : (s : Setup) (o : ℕ) (enable : Bool) (m : Machine) (n : ℕ) → IsSaid v W (axis_at m n) (queue_of m.queues n) P → IsThere m n →
      At (v (if nat_eq o n then on_axis.power enable else on_axis.rests) (axis_core_at m n)) (after_power s o enable m) n
  powers s o enable m n laws l =
      let now = powered s o enable m n l.axis in
      one (λ x. At (v x (axis_core_at m n)) (after_power s o enable m) n) (nat_eq o n) _ _
      (λ e. let same = eqb-true o n e in
      let c = core_after_power enable (axis_core_at m n) in
      let all : axis_core_at (after_power s o enable m) n ≡ record c { notes = [] } =
      now ∙ ap (λ x. axis_core_at (with_axis_core m x (core_after_power enable (axis_core_at m x))) n)
      same ∙ axis_written m n c l.axis l.list in
      subst (λ (d : cores.Core). P (v (on_axis.power enable) (axis_core_at m n)) d.axis d.waiting) (sym all)
      (laws.power enable (axis_core_at m n) refl refl))
      (λ e. subst (λ (d : cores.Core). P (v on_axis.rests (axis_core_at m n)) d.axis d.waiting)
      (sym (now ∙ axis_beside_axis m o n (core_after_power enable (axis_core_at m o))
      (λ same. eqb-false o n e (sym same)))) laws.rests)

  -- what a call makes of an axis
  pub said_by_call : (s : Setup) (m : Machine) (k : ℕ) (i : Inputs) (n : ℕ) → IsSaid v W (axis_at m n) (queue_of m.queues n) P → IsThere m n →
      ((b : BlockDef) → slice_get s.blocks k ≡ Some b → is_power b.kind ≡ false → AsksWell W s k b i (with_execute k i m) n) →
      P (on_axis.by_call v s (slice_get s.blocks k) k i m n) (axis_at (after_call s m k i) n) (queue_of (after_call s m k i).queues n)
  said_by_call s m k i n laws l well =
      let x = with_execute k i m in
      let free = without_owner k x in
      let a = axis_at m n in
      let ws = queue_of m.queues n in
      let there : IsThere x n = record { axis = l.axis; list = l.list } in
      let is = axis_disowned k n x l.axis in
      let size = disowned_size k x in
      let axes = size.axes in
      let lists = size.queues in
      let here = l.axis in
      let list = l.list in
      let still : IsThere free n = record { axis = omega arith; list = omega arith } in
      let Said : Request → Machine → Type 0 =
      λ r y. At (v (on_axis.by_request s r k i (machine_asked r k i m) n) (axis_core_at (machine_asked r k i m) n)) y n in
      by_request s k i m Said (record {
        absent = λ none. laws.rests;
        quiet = λ b at other e. laws.rests;
        power = λ b at is. powers s b.object i.execute x n laws there;
        axis_command = λ b at other e off. axis_command a ws laws s k b.object b.kind i free n still is (well b at other off);
        group_command = λ b at other e on. group_command a ws laws s k b i free n still.axis is;
      })

-- it goes with the fate of its active command
abbrev pub IsByFate : (Asked → cores.Core → Type 0) → Axis → List Wanted → (Fate → Axis → List Wanted → Type 0) → Type 0
IsByFate W a ws P = IsSaid call_fate W a ws P

pub by_call : {W : Asked → cores.Core → Type 0} (P : Fate → Axis → List Wanted → Type 0) (s : Setup) (m : Machine) (k : ℕ) (i : Inputs) (n : ℕ) →
    IsByFate W (axis_at m n) (queue_of m.queues n) P → IsThere m n →
    ((b : BlockDef) → slice_get s.blocks k ≡ Some b → is_power b.kind ≡ false → AsksWell W s k b i (with_execute k i m) n) →
    P (on_axis.by_call call_fate s (slice_get s.blocks k) k i m n) (axis_at (after_call s m k i) n) (queue_of (after_call s m k i).queues n)
by_call P s m k i n laws l well = said_by_call call_fate P _ s m k i n laws l well
