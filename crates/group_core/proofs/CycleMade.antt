-- A cycle, from what its parts made.
-- for: cycle
use Rattle.std.specs.Prelude.{◌≡◌, refl, ℕ, ◌+◌, ◌≤◌, Bool, not, ◌&&◌, nat_eq, ℤ, Option, Some, None, IfSome, List, ◌++◌, length}
use Rattle.std.proofs.Common.{◌∙◌, sym, ap, subst, arith}
use Rattle.std.proofs.lemmas.List.{length-append}
use Rattle.buffer_modes.specs.Queue.{active_note}
use Rattle.command_pool.specs.Waiting.{notes_of}
use Rattle.command_pool.specs.declared.ending.Finish.{Finish}
use Rattle.command_pool.specs.declared.ending.Finish.TheVariants as finish
use Rattle.command_pool.specs.declared.notes.Note.{Note}
use Rattle.command_pool.specs.declared.wanted.Wanted.{Wanted}
use Rattle.plc_types.specs.declared.group.GroupState.{GroupState}
use Rattle.plc_types.specs.declared.limits.Limits.{Limits}
use Rattle.group_core.specs.Cores.{Core, core_in, ended_by, failed}
use Rattle.group_core.specs.Cycles.{answered, cycled, ending_of, group_released, moved, over_at_rest, path_after, path_over, path_released, released}
use Rattle.group_core.specs.GroupKept.{AreGroupLimits, AreNumbers, IsActive, IsCoreKept, IsCount, IsLook, IsPathOf}
use Rattle.group_core.specs.Lines.{MayTakeOver}
use Rattle.group_core.specs.Refusals.{limits_in}
use Rattle.group_core.specs.States.{may_fail}
use Rattle.group_core.specs.Stepping.{IsStepping, MayStep}
use Rattle.group_core.specs.Tracks.{OnPath, places_at}
use Rattle.group_core.specs.declared.group.Group.{Group}
use Rattle.group_core.specs.declared.look.GroupLook.{GroupLook}
use Rattle.group_core.proofs.KeptCalls.{by-if}
use Rattle.group_core.proofs.KeptCycles.{answered-kept, answered-look, may-take-over, stepped}
use Rattle.group_core.proofs.KeptParts.{Laws, stepping-of}
use Rattle.buffer_modes.specs.Laws.{AreOwners}

-- the step, the end of the command and what then takes over
moved-made : (members : GroupLook) (p : Option OnPath) (list : ℕ) (lists1 lists3 : List (List Wanted)) (notes1 notes3 : List Note) (g1 g2 g3 : Group) (p2 p3 : Option OnPath)
    (o : Option Finish) (s : List ℤ) → g2 ≡ g1 → p2 ≡ path_after g1 p → o ≡ ending_of g1 p → s ≡ places_at (path_after g1 p) members.setpoints →
    core_in g3 p3 lists3 list notes3 ≡ ended_by members s o (core_in g2 p2 lists1 list notes1) →
    core_in g3 p3 lists3 list notes3 ≡ moved members (core_in g1 p lists1 list notes1)
moved-made members p list lists1 lists3 notes1 notes3 g1 g2 g3 p2 p3 o s e f g h made = rw (e, f, g, h) at made

-- the group may leave GroupStopping, and a path that is over
left-made : (held : Bool) (list : ℕ) (lists : List (List Wanted)) (notes : List Note) (g3 g4 g5 : Group) (p3 p4 p5 : Option OnPath) →
    g4 ≡ group_released held g3 p3 → p4 ≡ path_released held g3 p3 → g5 ≡ g4 → p5 ≡ path_over g4 p4 →
    core_in g5 p5 lists list notes ≡ over_at_rest (released held (core_in g3 p3 lists list notes))
left-made held list lists notes g3 g4 g5 p3 p4 p5 e f g h = rw (h, g, f, e) refl

pub cycle-made : (members : GroupLook) (before : Core) (list : ℕ) (lists1 lists3 : List (List Wanted)) (notes1 notes3 : List Note) (g1 g2 g3 g4 g5 : Group)
    (p2 p3 p4 p5 : Option OnPath) (o : Option Finish) (s : List ℤ) → core_in g1 before.path lists1 list notes1 ≡ answered members.error before →
    g2 ≡ g1 → p2 ≡ path_after g1 before.path → o ≡ ending_of g1 before.path → s ≡ places_at (path_after g1 before.path) members.setpoints →
    core_in g3 p3 lists3 list notes3 ≡ ended_by members s o (core_in g2 p2 lists1 list notes1) →
    g4 ≡ group_released members.stop_held g3 p3 → p4 ≡ path_released members.stop_held g3 p3 → g5 ≡ g4 → p5 ≡ path_over g4 p4 →
    core_in g5 p5 lists3 list notes3 ≡ cycled members before
unfolding cycled
cycle-made members before list lists1 lists3 notes1 notes3 g1 g2 g3 g4 g5 p2 p3 p4 p5 o s first e f g h made j k l m =
    left-made members.stop_held list lists3 notes3 g3 g4 g5 p3 p4 p5 j k l m
    ∙ ap (λ (x : Core). over_at_rest (released members.stop_held x))
    (moved-made members before.path list lists1 lists3 notes1 notes3 g1 g2 g3 p2 p3 o s e f g h made ∙ ap (moved members) first)

-- a kept group may take its step
steps-where : (axes : ℕ) (limits : List Limits) (o : Option OnPath) → IsCount axes → AreGroupLimits axes limits → ((p : OnPath) → o ≡ Some p → IsPathOf axes limits p) → IfSome o IsStepping
steps-where axes limits None count are f = tt
steps-where axes limits (Some p) count are f = stepping-of axes limits p count are (f p refl)

numbers-where : (s : GroupState) (o : Option Wanted) → ((w : Wanted) → o ≡ Some w → IsActive s w) → IfSome o (λ w. AreNumbers w.kind w)
numbers-where s None f = tt
numbers-where s (Some w) f = (f w refl).numbers

pub may-step : (limits : List Limits) (c : Core) → IsCoreKept limits c → MayStep c.group c.path
may-step limits c k = record {
  path = steps-where c.group.axes limits c.path k.axes k.limits_are k.path;
  active = numbers-where c.group.state c.group.active k.active;
}

-- where a command ends, and where none does
pub some-always : {A : Type 0} (P : Type 0) (o : Option A) → P → IfSome o (λ f. P)
some-always P None h = tt
some-always P (Some f) h = h

-- where the axes stand, as it was read
pub take-as : (members : GroupLook) (s t : List ℤ) (a b : GroupState) (ws : List Wanted) → s ≡ t → a ≡ b → MayTakeOver members t b ws → MayTakeOver members s a ws
take-as members s t a b ws e f h = rw (e, f) h

-- a group after an error of a member was read, as it was read
pub read-kept : (error : ℕ) (limits : List Limits) (before read : Core) → read ≡ answered error before → IsCoreKept limits before → IsCoreKept limits read
read-kept error limits before read e k = subst (IsCoreKept limits) (sym e) (answered-kept error limits before k)

pub read-look : (members : GroupLook) (before read : Core) → read ≡ answered members.error before → IsLook before.group members → IsLook read.group members
read-look members before read e l = subst (λ (x : Core). IsLook x.group members) (sym e) (answered-look members.error members before l)

-- the first command that waits may take over, where the axes then stand
pub taker-may : Laws → (members : GroupLook) (read : Core) (o : Option Finish) (s : List ℤ) (g : GroupState) → IsLook read.group members → IsCoreKept (limits_in members) read →
    s ≡ places_at (path_after read.group read.path) members.setpoints → g ≡ read.group.state → IfSome o (λ f. MayTakeOver members s g read.waiting)
taker-may laws members read o s g l k e f =
    some-always (MayTakeOver members s g read.waiting) o
    (take-as members s _ g _ read.waiting e f (may-take-over members _ _ (stepped laws members read l k)))

module _ (owners : AreOwners) where
  open owners use {few_active as active-few, few_waiting as waiting-few}

  -- how many notes there are
  failed-few : (n : ℕ) (c : Core) → length (failed n c).notes ≤ length c.notes + 1 + length c.waiting
  unfolding failed
  failed-few n c =
      omega (
        arith,
        length-append c.notes (active_note (finish.Error n) c.group.active ++ notes_of finish.Aborted c.waiting),
        length-append (active_note (finish.Error n) c.group.active) (notes_of finish.Aborted c.waiting),
        active-few (finish.Error n) c.group.active,
        waiting-few finish.Aborted c.waiting,
      )

  pub answered-few : (error : ℕ) (c : Core) → length (answered error c).notes ≤ length c.notes + 1 + length c.waiting
  answered-few error c =
      by-if (λ (x : Core). length x.notes ≤ length c.notes + 1 + length c.waiting) (not (nat_eq error 0) && may_fail c.group.state) (failed error c) c
      (λ h. failed-few error c) (λ h. omega arith)

  pub read-few : (error : ℕ) (before read : Core) → read ≡ answered error before → length read.notes ≤ length before.notes + 1 + length before.waiting
  read-few error before read e = subst (λ (x : Core). length x.notes ≤ length before.notes + 1 + length before.waiting) (sym e) (answered-few error before)
