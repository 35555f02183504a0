-- What a group's look shows of its axes.
-- for: rows_are_counted, owners_have_blocks, machines_stay_kept and others
use Rattle.std.specs.Prelude.{◌≡◌, refl, ℕ, zero, suc, ◌+◌, ◌<◌, ◌≤◌, pos, Bool, List, [], ◌∷◌, ◌++◌, length, map, take, replicate, slice_index_or, slice_set}
use Rattle.std.proofs.Common.{arith, ap, sym, ◌∙◌}
use Rattle.std.proofs.lemmas.List.{get_or-map, get_or-set_other, get_or-take, length-set, take_all, take_more, take_more_set}
use Rattle.std.proofs.lemmas.Grind.{common_steps}
use Rattle.axis_core.specs.declared.axis.Axis.{Axis}
use Rattle.group_core.specs.Refusals.{limits_in, states_in}
use Rattle.group_core.specs.declared.look.GroupLook.{GroupLook}
use Rattle.motion_history.specs.Setup.{Setup}
use Rattle.motion_kernel.specs.looks.GroupLooks.{group_look, look_at_none, with_member, with_members}
use Rattle.motion_kernel.specs.Machine.{Machine, axis_among, group_at}
use Rattle.motion_kernel.specs.members.Members.{member_at, members_at}
use Rattle.motion_kernel.specs.calls.Telling.{is_held}

-- one place more of a list is written
written_more : {X : Type 0} (f : ℕ → X) (n : ℕ) (members : List ℕ) (xs : List X) → n < length members → n < length xs →
    take n xs ≡ map f (take n members) → take (suc n) (slice_set xs n (f (member_at members n))) ≡ map f (take (suc n) members)
written_more f n members xs l k h =
    let one : suc n ≡ n + 1 = omega arith in
    let x = f (member_at members n) in
    let push : map f (take n members ++ member_at members n ∷ []) ≡ map f (take n members) ++ x ∷ [] = grind (arith, common_steps) in
    ap (λ i. take i (slice_set xs n x)) one ∙ take_more_set xs n x k ∙ ap (λ t. t ++ x ∷ []) h ∙ sym push
    ∙ ap (map f) (sym (take_more members n 0 l)) ∙ ap (λ i. map f (take i members)) (sym one)

-- a look shows the first n of some axes at their places
pub record Shows (n : ℕ) (axes : List Axis) (members : List ℕ) (before after : GroupLook) : Type 0 where
  pub count : after.count ≡ before.count
  pub error : after.error ≡ before.error
  pub hold : after.stop_held ≡ before.stop_held
  pub limits_length : length after.limits ≡ length before.limits
  pub setpoints_length : length after.setpoints ≡ length before.setpoints
  pub states_length : length after.states ≡ length before.states
  pub limits : take n after.limits ≡ map (λ k. (axis_among axes k).limits) (take n members)
  pub setpoints : take n after.setpoints ≡ map (λ k. (axis_among axes k).setpoint) (take n members)
  pub states : take n after.states ≡ map (λ k. (axis_among axes k).state) (take n members)
  pub others : (i : ℕ) → n ≤ i → slice_index_or after.setpoints i (pos 0) ≡ slice_index_or before.setpoints i (pos 0)

-- a look has room for six axes
pub record HasRoom (look : GroupLook) : Type 0 where
  pub limits : length look.limits ≡ 6
  pub setpoints : length look.setpoints ≡ 6
  pub states : length look.states ≡ 6

shows_more : (n : ℕ) (axes : List Axis) (members : List ℕ) (before after : GroupLook) → HasRoom before → n < length members → n < 6 →
    Shows n axes members before after → Shows (suc n) axes members before (with_member n (axis_among axes (member_at members n)) after)
shows_more n axes members before after room l k h =
    let a = axis_among axes (member_at members n) in
    let r1 = room.limits in let r2 = room.setpoints in let r3 = room.states in
    let h1 = h.limits_length in let h2 = h.setpoints_length in let h3 = h.states_length in
    record {
      count = h.count;
      error = h.error;
      hold = h.hold;
      limits_length = length-set after.limits n a.limits ∙ h1;
      setpoints_length = length-set after.setpoints n a.setpoint ∙ h2;
      states_length = length-set after.states n a.state ∙ h3;
      limits = written_more (λ j. (axis_among axes j).limits) n members after.limits l (omega arith) h.limits;
      setpoints = written_more (λ j. (axis_among axes j).setpoint) n members after.setpoints l (omega arith) h.setpoints;
      states = written_more (λ j. (axis_among axes j).state) n members after.states l (omega arith) h.states;
      others = λ i m. get_or-set_other after.setpoints n i a.setpoint (pos 0) (λ e. omega arith) ∙ h.others i (omega arith);
    }

shows : (n : ℕ) (axes : List Axis) (members : List ℕ) (look : GroupLook) → HasRoom look → n ≤ length members → n ≤ 6 →
    Shows n axes members look (with_members n axes members look)
unfolding with_members
shows zero axes members look room l k = record {
  count = refl;
  error = refl;
  hold = refl;
  limits_length = refl;
  setpoints_length = refl;
  states_length = refl;
  limits = refl;
  setpoints = refl;
  states = refl;
  others = λ i m. refl;
}
shows (suc n) axes members look room l k =
    shows_more n axes members look (with_members n axes members look) room (omega arith) (omega arith) (shows n axes members look room (omega arith) (omega arith))

-- nothing stands after the axes
none_at : (n i : ℕ) → slice_index_or (replicate n (pos 0)) i (pos 0) ≡ pos 0
none_at zero i = refl
none_at (suc n) zero = refl
none_at (suc n) (suc i) = none_at n i

room_at_first : (count error : ℕ) (held : Bool) → HasRoom (look_at_none count error held)
room_at_first count error held = record { limits = refl; setpoints = refl; states = refl }

-- what a group's look is: its axes at their places, and 0 after them
pub record IsShown (axes : List Axis) (members : List ℕ) (held : Bool) (error_told : ℕ) (look : GroupLook) : Type 0 where
  pub count : look.count ≡ length members
  pub error : look.error ≡ error_told
  pub hold : look.stop_held ≡ held
  pub six : length look.setpoints ≡ 6
  pub limits : limits_in look ≡ map (λ k. (axis_among axes k).limits) members
  pub states : states_in look ≡ map (λ k. (axis_among axes k).state) members
  pub setpoints : (i : ℕ) → i < length members → slice_index_or look.setpoints i (pos 0) ≡ (axis_among axes (member_at members i)).setpoint
  pub others : (i : ℕ) → length members ≤ i → slice_index_or look.setpoints i (pos 0) ≡ pos 0

whole : {X : Type 0} (f : ℕ → X) (members : List ℕ) (count : ℕ) (xs : List X) → count ≡ length members →
    take (length members) xs ≡ map f (take (length members) members) → take count xs ≡ map f members
whole f members count xs e h = ap (λ n. take n xs) e ∙ h ∙ ap (map f) (take_all (length members) members (omega arith))

at_place : {X : Type 0} (f : ℕ → X) (members : List ℕ) (i : ℕ) (xs : List X) (d : X) → i < length members →
    take (length members) xs ≡ map f (take (length members) members) → slice_index_or xs i d ≡ f (member_at members i)
at_place f members i xs d l h =
    sym (get_or-take (length members) xs i d l) ∙ ap (λ ys. slice_index_or ys i d) (h ∙ ap (map f) (take_all (length members) members (omega arith)))
    ∙ get_or-map f members i 0 d l

is_shown : (axes : List Axis) (members : List ℕ) (error : ℕ) (held : Bool) (look : GroupLook) →
    Shows (length members) axes members (look_at_none (length members) error held) look → IsShown axes members held error look
is_shown axes members error held look h = record {
  count = h.count;
  error = h.error;
  hold = h.hold;
  six = h.setpoints_length;
  limits = whole (λ k. (axis_among axes k).limits) members look.count look.limits h.count h.limits;
  states = whole (λ k. (axis_among axes k).state) members look.count look.states h.count h.states;
  setpoints = λ i l. at_place (λ k. (axis_among axes k).setpoint) members i look.setpoints (pos 0) l h.setpoints;
  others = λ i l. h.others i l ∙ none_at 6 i;
}

pub group_shown : (s : Setup) (m : Machine) (j error : ℕ) → length (members_at s j) ≤ 6 →
    IsShown m.axes (members_at s j) (is_held m.instances (group_at m j).group.hold) error (group_look s m j error)
unfolding group_look
group_shown s m j error few =
    let ms = members_at s j in
    let held = is_held m.instances (group_at m j).group.hold in
    is_shown m.axes ms error held (with_members (length ms) m.axes ms (look_at_none (length ms) error held))
    (shows (length ms) m.axes ms (look_at_none (length ms) error held) (room_at_first (length ms) error held) (omega arith) few)

-- the error that a look gives
told_by : (n : ℕ) (axes : List Axis) (members : List ℕ) (look : GroupLook) → (with_members n axes members look).error ≡ look.error
unfolding with_members
told_by zero axes members look = refl
told_by (suc n) axes members look = told_by n axes members look

pub told_error : (s : Setup) (m : Machine) (j error : ℕ) → (group_look s m j error).error ≡ error
unfolding group_look
told_error s m j error = told_by (length (members_at s j)) m.axes (members_at s j) _
