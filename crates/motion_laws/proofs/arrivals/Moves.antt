-- The active commands of axes come to their end in time.
-- for: moves_arrive_in_time, paths_end_in_time, replies_show_commands and others
use Rattle.std.specs.Prelude.{◌≡◌, ℕ, zero, suc, ◌+◌, ◌<◌, ◌≤◌, true, Option, Some, None, option_map, List, [], ◌∷◌, ◌++◌, length, slice_get}
use Rattle.std.proofs.Common.{arith, sym, subst}
use Rattle.axis_core.specs.Arrivals.{Carried, Course, toward, slowing, IsMoveDone, IsTurn, IsUnderWay, Turn, bound_of, end_turn_of, ended, turn_of}
use Rattle.axis_core.specs.Blended.{BlendingCarried, IsBlending, cycles_of_blend, cycles_to_cross}
use Rattle.axis_core.specs.Cycles.{core_after_cycle}
use Rattle.buffer_modes.specs.Fates.{Fate, IsFate}
use Rattle.axis_core.specs.Fates.{cycle_fate}
use Rattle.axis_core.specs.blocks.Moves.{blended_with, is_move, target_of}
use Rattle.axis_core.specs.declared.axis.Axis.{Axis}
use Rattle.plc_types.specs.declared.drive.DriveIn.{DriveIn}
use Rattle.command_pool.specs.Waiting.{queue_of}
use Rattle.command_pool.specs.declared.ending.Finish.{Finish}
use Rattle.command_pool.specs.declared.ending.Finish.TheVariants as finish
use Rattle.command_pool.specs.declared.wanted.Wanted.{Wanted}
use Rattle.motion_history.specs.Entries.{Entry, call, cycle, cycle_count, cycles_of, end_of}
use Rattle.motion_history.specs.Setup.{Setup, IsSetup}
use Rattle.motion_kernel.specs.cycles.Cycles.{look_of_axis, after_cycle}
use Rattle.motion_kernel.specs.Histories.{Follows, IsPast, IsOf, after, inputs_of, machine_after, replay}
use Rattle.motion_kernel.specs.Machine.{Machine, axis_at, axis_core_at, machine_at_opening}
use Rattle.motion_kernel.specs.kept.Machine.{AreWhole, IsMachineKept}
use Rattle.motion_kernel.proofs.cycles.OneAxis.{GoesThrough, goes_through}
use Rattle.motion_laws.specs.arrivals.Moves.{IsMoveEndedWithin, IsTurnedWithin, IsWithin, KeepsMotion, MovesArrive, Turned, move_end_in, turned_by, turned_by_fates, turned_in}
use Rattle.motion_laws.specs.arrivals.AxisFates.{axis_fate}
use Rattle.motion_laws.proofs.walk.AxisCalls.{IsThere, by_call}
use Rattle.motion_laws.proofs.Histories.{past_kept, past_so_far, replay_kept}
use Rattle.motion_laws.proofs.results.outcomes.NotDone.{axis_not_done}
use Rattle.motion_laws.proofs.arrivals.MoveEvents.{ArrivalLaws, as_it_is, stays, fates_by, on_it, carried_by, blend_on_it, blended_by}

-- how an axis of a kept machine goes through a cycle of its history
through : ArrivalLaws → (s : Setup) (m : Machine) (ins : List DriveIn) (n : ℕ) → IsMachineKept s m →
    n < length m.axes → GoesThrough s m ins n (look_of_axis s m ins n)
through laws s m ins n h l = goes_through s m ins n h (laws.machines.may_go_on s m ins h) l

-- an axis of a kept machine has its list
is_there : (s : Setup) (m : Machine) (n : ℕ) → IsMachineKept s m → n < length m.axes → IsThere m n
is_there s m n h l =
    let sizes = h.sized in
    let axes = sizes.axes in
    let lists = sizes.queues in
    record { axis = l; list = omega arith }

-- what an entry makes of an axis goes with its fate
fate_shown : ArrivalLaws → (s : Setup) (m : Machine) (e : Entry) (n : ℕ) → IsMachineKept s m →
    n < length m.axes →
    IsFate (axis_fate s m e n) (axis_at m n).active (axis_at (after s m e) n).active
fate_shown laws s m (call k i reply) n h l =
    by_call (λ f x us. IsFate f (axis_at m n).active x.active) s m k i n
    (fates_by laws (axis_at m n) (queue_of m.queues n)) (is_there s m n h l) (λ b at other off same. tt)
fate_shown laws s m (cycle c rows grows) n h l =
    let look = look_of_axis s m (inputs_of rows) n in
    subst (λ (a : Axis). IsFate (cycle_fate look (axis_core_at m n)) (axis_at m n).active a.active)
    (sym (through laws s m (inputs_of rows) n h l).after) (laws.fates.cycle look (axis_core_at m n)).shown
fate_shown laws s m (end_of task) n h l = stays (axis_at m n).active (axis_at m n).active
    (as_it_is (axis_at m n).active)

carried_on : ArrivalLaws → (s : Setup) (m : Machine) (e : Entry) (n most : ℕ) (course : Course) →
    IsMachineKept s m → n < length m.axes →
    IsUnderWay most course (axis_at m n) → Carried most (cycle_count e) course
    (turn_of (axis_fate s m e n)) (axis_at (after s m e) n)
carried_on laws s m (call k i reply) n most course h l u =
    by_call (λ f x us. Carried most 0 course (turn_of f) x) s m k i n
    (carried_by laws most course (axis_at m n) (queue_of m.queues n) u) (is_there s m n h l) (λ b at other off same. tt)
carried_on laws s m (cycle c rows grows) n most course h l u =
    let look = look_of_axis s m (inputs_of rows) n in
    let goes = through laws s m (inputs_of rows) n h l in
    subst (Carried most 1 course (turn_of (cycle_fate look (axis_core_at m n)))) (sym goes.after)
    (laws.courses.cycle most course look (axis_core_at m n) goes.kept u)
carried_on laws s m (end_of task) n most course h l u = on_it most course (axis_at m n) u

blended_on : ArrivalLaws → (s : Setup) (m : Machine) (e : Entry) (n most : ℕ) →
    IsMachineKept s m → n < length m.axes →
    IsBlending most (axis_at m n) (queue_of m.queues n) → BlendingCarried most (cycle_count e)
    (axis_fate s m e n).ends (axis_at (after s m e) n) (queue_of (after s m e).queues n)
blended_on laws s m (call k i reply) n most h l u =
    by_call (λ f x us. BlendingCarried most 0 f.ends x us) s m k i n
    (blended_by laws most (axis_at m n) (queue_of m.queues n) u) (is_there s m n h l) (λ b at other off same. tt)
blended_on laws s m (cycle c rows grows) n most h l u =
    let look = look_of_axis s m (inputs_of rows) n in
    let goes = through laws s m (inputs_of rows) n h l in
    let f = cycle_fate look (axis_core_at m n) in
    let d = core_after_cycle look (axis_core_at m n) in
    subst (BlendingCarried most 1 f.ends (axis_at (after_cycle s m (inputs_of rows)) n))
    (sym goes.waiting)
    (subst (λ (a : Axis). BlendingCarried most 1 f.ends a d.waiting) (sym goes.after)
    (laws.blends.cycle most look (axis_core_at m n) goes.kept u))
blended_on laws s m (end_of task) n most h l u =
    blend_on_it most (axis_at m n) (queue_of m.queues n) u

-- what is under way in a machine is turned by an entry, or goes on with fewer cycles to go
record GoesOnIn (U : ℕ → Machine → Type 0) (n c : ℕ) (m : Machine) : Type 0 where
  left : ℕ
  sum : c + left ≡ n
  under_way : U left m

abbrev CarriedIn : (ℕ → Machine → Type 0) → (Turn → Machine → Type 0) → ℕ → ℕ → Option Turn →
    Machine → Type 0
CarriedIn U holds n c (Some t) m = (c ≤ n) × holds t m
CarriedIn U holds n c None m = GoesOnIn U n c m

-- every entry does so
abbrev IsCarried : Setup → ℕ → (Fate → Option Turn) → (ℕ → Machine → Type 0) →
    (Turn → Machine → Type 0) → Type 0
IsCarried s n turn U holds = (m : Machine) (e : Entry) (most : ℕ) → IsMachineKept s m →
    n < length m.axes → U most m →
    CarriedIn U holds most (cycle_count e) (turn (axis_fate s m e n)) (after s m e)

-- a turn later
later_on : (c left most : ℕ) (holds : Turn → Machine → Type 0) (m : Machine)
    (later : Option Turned) → c + left ≡ most → IsWithin left holds later →
    IsWithin most holds (turned_by None c m later)
later_on c left most holds m None sum h = h
later_on c left most holds m (Some t) sum h = let l = h.0 in (omega arith, h.1)

turns : (U : ℕ → Machine → Type 0) (holds : Turn → Machine → Type 0) (most c : ℕ) (m : Machine)
    (later : Option Turned) (t : Option Turn) → CarriedIn U holds most c t m →
    ((left : ℕ) → c + left ≡ most → U left m → IsWithin left holds later) →
    IsWithin most holds (turned_by t c m later)
turns U holds most c m later (Some t) h behind = h
turns U holds most c m later None h behind =
    later_on c h.left most holds m later h.sum (behind h.left h.sum h.under_way)

-- the machine after an entry is kept, and has as many axes
kept_after : ArrivalLaws → (s : Setup) (cycles : ℕ) (m : Machine) (e : Entry) → AreWhole s →
    IsMachineKept s m → IsOf s cycles m e → IsMachineKept s (after s m e)
kept_after laws s cycles m e whole h is = replay_kept laws.machines s cycles m (e ∷ []) whole h
    (is, tt)

-- so what is under way is turned in time
turned_in_time : ArrivalLaws → (s : Setup) (turn : Fate → Option Turn) (U : ℕ → Machine → Type 0)
    (holds : Turn → Machine → Type 0) (n : ℕ) → ((m : Machine) → U 0 m → ⊥) →
    IsCarried s n turn U holds → (cycles : ℕ) (m : Machine) (es : List Entry) (most : ℕ) →
    AreWhole s → IsMachineKept s m → Follows s cycles m es → n < length s.axes → U most m →
    most ≤ cycles_of es → IsWithin most holds (turned_by_fates turn s n m es)
turned_in_time laws s turn U holds n none on cycles m [] zero whole h f l u b = absurd (none m u)
turned_in_time laws s turn U holds n none on cycles m [] (suc most) whole h f l u b =
    absurd (omega arith)
turned_in_time laws s turn U holds n none on cycles m (e ∷ es) most whole h f l u b =
    let sizes = h.sized in
    let size = sizes.axes in
    let next = kept_after laws s cycles m e whole h f.0 in
    turns U holds most (cycle_count e) (after s m e) (turned_by_fates turn s n (after s m e) es)
    (turn (axis_fate s m e n)) (on m e most h (omega arith) u)
    (λ left sum under. turned_in_time laws s turn U holds n none on (cycles + cycle_count e)
    (after s m e) es left whole next f.1 l under (omega arith))

-- no course has no cycles to go
runs : (course : Course) (a : Axis) → IsUnderWay 0 course a → ⊥
runs (toward target rates) a h = h.run
runs (slowing d) a h = h.run

course_carried : (n c : ℕ) (course : Course) (k : ℕ) (t : Option Turn) (m : Machine) →
    Carried n c course t (axis_at m k) →
    CarriedIn (λ left x. IsUnderWay left course (axis_at x k))
    (λ t x. IsTurn t course (axis_at x k)) n c t m
course_carried n c course k (Some t) m h = h
course_carried n c course k None m h =
    record { left = h.left; sum = h.sum; under_way = h.under_way }

-- a command that is under way is turned in time
arrives : ArrivalLaws → (s : Setup) (cycles : ℕ) (m : Machine) (es : List Entry) (n most : ℕ)
    (course : Course) → AreWhole s → IsMachineKept s m →
    Follows s cycles m es → n < length s.axes → IsUnderWay most course (axis_at m n) →
    most ≤ cycles_of es → IsTurnedWithin most course n (turned_in s n m es)
arrives laws s cycles m es n most course whole h f l u b =
    turned_in_time laws s turn_of (λ left x. IsUnderWay left course (axis_at x n))
    (λ t x. IsTurn t course (axis_at x n)) n (λ x g. runs course (axis_at x n) g)
    (λ x e left kept there g. course_carried left (cycle_count e) course n
    (turn_of (axis_fate s x e n)) (after s x e) (carried_on laws s x e n left course kept there g))
    cycles m es most whole h f l u b

-- a blended move of an axis is under way in a machine
abbrev BlendsIn : ℕ → ℕ → Machine → Type 0
BlendsIn n left m = IsBlending left (axis_at m n) (queue_of m.queues n)

blend_carried : (n most c : ℕ) (f : Option Finish) (m : Machine) →
    BlendingCarried most c f (axis_at m n) (queue_of m.queues n) →
    CarriedIn (BlendsIn n) (λ t x. Unit {0}) most c (option_map ended f) m
blend_carried n most c (Some f) m h = (h, tt)
blend_carried n most c None m h =
    record { left = h.left; sum = h.sum; under_way = h.under_way }

-- and ends in time
blend_ends : ArrivalLaws → (s : Setup) (cycles : ℕ) (m : Machine) (es : List Entry) (n most : ℕ) →
    AreWhole s → IsMachineKept s m → Follows s cycles m es → n < length s.axes →
    BlendsIn n most m → most ≤ cycles_of es → IsMoveEndedWithin most (move_end_in s n m es)
blend_ends laws s cycles m es n most whole h f l u b =
    turned_in_time laws s end_turn_of (BlendsIn n) (λ t x. Unit {0}) n (λ x g. g.run)
    (λ x e left kept there g. blend_carried n left (cycle_count e) (axis_fate s x e n).ends
    (after s x e) (blended_on laws s x e n left kept there g))
    cycles m es most whole h f l u b

-- the entries after some follow the machine after these
pub behind : (s : Setup) (cycles : ℕ) (m : Machine) (es fs : List Entry) →
    Follows s cycles m (es ++ fs) → Follows s (cycles + cycles_of es) (replay s m es) fs
behind s cycles m [] fs f = subst (λ c. Follows s c m fs) (omega arith) f
behind s cycles m (e ∷ es) fs f =
    subst (λ c. Follows s c (replay s (after s m e) es) fs) (omega arith)
    (behind s (cycles + cycle_count e) (after s m e) es fs f.1)

-- a move is Done at its target
done_there : ArrivalLaws → (s : Setup) (m : Machine) (e : Entry) (n : ℕ) (w : Wanted) →
    IsMachineKept s m → n < length m.axes → (axis_at m n).active ≡ Some w →
    is_move w.kind ≡ true → (axis_fate s m e n).ends ≡ Some finish.Done →
    IsMoveDone (blended_with (axis_at m n) w (slice_get (axis_core_at m n).waiting 0)) (target_of w)
    (axis_at m n).setpoint (axis_at (after s m e) n)
done_there laws s m (call k i reply) n w h l active move done =
    absurd (axis_not_done laws.fates s m k i n done)
done_there laws s m (cycle c rows grows) n w h l active move done =
    let look = look_of_axis s m (inputs_of rows) n in
    let goes = through laws s m (inputs_of rows) n h l in
    let c = axis_core_at m n in
    subst (λ (a : Axis). IsMoveDone (blended_with c.axis w (slice_get c.waiting 0))
    (target_of w) c.axis.setpoint a) (sym goes.after)
    (laws.moves look c w goes.kept active move done)
done_there laws s m (end_of task) n w h l active move done = absurd (cc)

-- each entry of a history that follows a kept machine
motion_kept : ArrivalLaws → (s : Setup) (cycles : ℕ) (m : Machine) (e : Entry) (more : List Entry)
    (n : ℕ) → AreWhole s → IsMachineKept s m →
    Follows s cycles m (e ∷ more) → n < length s.axes → KeepsMotion s m e more n
motion_kept laws s cycles m e more n whole h f l =
    let sizes = h.sized in
    let size = sizes.axes in
    let here : n < length m.axes = omega arith in
    let next = kept_after laws s cycles m e whole h f.0 in
    let then = next.sized in
    let count = then.axes in
    let there : n < length (after s m e).axes = omega arith in
    let fate = fate_shown laws s m e n h here in
    record {
      fate = fate;
      in_time = λ w course begins leads most.
          let under = laws.courses.begins course (axis_core_at (after s m e) n) w
          (next.axes n there).core (fate.begins w begins) leads in
          arrives laws s (cycles + cycle_count e) (after s m e) more n
          (bound_of course (axis_at (after s m e) n)) course whole next f.1 l under most;
      done = λ w active move done. done_there laws s m e n w h here active move done;
      crosses = λ w second blended has most.
          blend_ends laws s (cycles + cycle_count e) (after s m e) more n
          (cycles_to_cross w (axis_at (after s m e) n)) whole next f.1 l
          (laws.blends.crosses (axis_core_at (after s m e) n) w second (next.axes n there).core
          blended has) most;
      ends = λ w second blended most.
          blend_ends laws s (cycles + cycle_count e) (after s m e) more n
          (cycles_of_blend w (axis_at (after s m e) n)) whole next f.1 l
          (laws.blends.ends (axis_core_at (after s m e) n) w second (next.axes n there).core
          blended) most;
    }

-- and so each entry of a past
pub moves_arrive : ArrivalLaws → (s : Setup) (es : List Entry) → IsSetup s → AreWhole s →
    IsPast s es → MovesArrive s es
unfolding machine_after
moves_arrive laws s es setup whole past made more e n is l =
    let all = subst (IsPast s) is past in
    let so_far = past_so_far s made (e ∷ more) all in
    motion_kept laws s (0 + cycles_of made) (machine_after s made) e more n whole
    (past_kept laws.machines s made setup whole so_far)
    (behind s 0 (machine_at_opening s) made (e ∷ more) all.follows) l
