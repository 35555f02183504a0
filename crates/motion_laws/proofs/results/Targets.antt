-- A move of an instance is Done at its target.
-- for: done_moves_are_at_their_targets
use Rattle.std.specs.Prelude.{◌≡◌, refl, ℕ, ◌<◌, Bool, true, false, not, nat_eq, if◌then◌else◌, Option, Some, None, Result, Ok, Err, List, ◌∷◌, length, slice_get}
use Rattle.std.proofs.Common.{arith, ap, sym, subst, ◌∙◌, inl, inr}
use Rattle.axis_core.specs.blocks.Moves.{is_move}
use Rattle.buffer_modes.specs.Owners.{owner_by}
use Rattle.plc_types.proofs.EveryKind.{every-kind-that}
use Rattle.plc_types.specs.Kinds.{acts_on_group}
use Rattle.command_pool.specs.declared.ending.Finish.TheVariants as finish
use Rattle.command_pool.specs.declared.ending.Refusal.{Refusal}
use Rattle.plc_types.specs.declared.kind.BlockKind.{BlockKind}
use Rattle.command_pool.specs.declared.wanted.Wanted.{Wanted}
use Rattle.fb_outputs.specs.Steps.{edge_of}
use Rattle.plc_types.specs.declared.inputs.Inputs.{Inputs}
use Rattle.fb_outputs.specs.declared.instance.Edge.{Edge}
use Rattle.fb_outputs.specs.declared.instance.Edge.TheVariants as edge
use Rattle.plc_types.specs.declared.outputs.Outputs.{Outputs}
use Rattle.motion_history.specs.Entries.{Entry, call, cycle, end_of}
use Rattle.motion_history.specs.Setup.{Setup, IsSetup}
use Rattle.motion_history.specs.declared.config.BlockDef.{BlockDef}
use Rattle.motion_kernel.specs.Histories.{IsPast, machine_after}
use Rattle.motion_kernel.specs.Machine.{Machine, axis_at, instance_at}
use Rattle.motion_kernel.specs.calls.Asking.{is_done_at_once}
use Rattle.motion_kernel.specs.calls.Calls.{with_execute}
use Rattle.motion_kernel.specs.kept.Machine.{AreWhole}
use Rattle.motion_kernel.proofs.kept.Calls.{axis_object}
use Rattle.motion_kernel.proofs.kept.Laws.{ConfigurationsAreSound}
use Rattle.motion_laws.specs.arrivals.Moves.{KeepsMotion, MovesArrive}
use Rattle.motion_kernel.specs.owners.Commands.{active_at}
use Rattle.motion_kernel.specs.owners.Kinds.{AreOfTheirBlocks, is_reset}
use Rattle.motion_kernel.specs.owners.Objects.{a_group, an_axis, object_of}
use Rattle.motion_kernel.specs.owners.Blocks.{command_state_at}
use Rattle.motion_laws.specs.results.Outcomes.{answer_in, end_answered, end_by_edge, end_of_command, finish_in}
use Rattle.motion_laws.specs.results.Results.{KeepsResults, ResultsAreTold, end_in}
use Rattle.motion_laws.specs.results.Targets.{IsDoneThere, MovesEndThere}
use Rattle.motion_laws.proofs.Histories.{past_so_far}
use Rattle.motion_kernel.proofs.owners.Counts.{found_in}
use Rattle.motion_kernel.proofs.owners.commands.Events.{there_where}
use Rattle.motion_laws.proofs.owners.kinds.Kept.{kinds_match}
use Rattle.motion_laws.proofs.results.Stays.{machine_kept}
use Rattle.motion_laws.proofs.results.outcomes.DoneBy.{call_not_done}
use Rattle.motion_kernel.proofs.walk.Keeps.{WalkLaws}

-- a move acts on an axis, resets nothing, and is not Done in its call
off : (b : Bool) → not b ≡ true → b ≡ false
off false h = refl
off true h = absurd (cc)

on_axis : (x : BlockKind) → is_move x ≡ true → acts_on_group x ≡ false
on_axis x h = off (acts_on_group x) (every-kind-that is_move (λ k. not (acts_on_group k)) refl x h)

no_reset : (x : BlockKind) → is_move x ≡ true → is_reset x ≡ false
no_reset x h = off (is_reset x) (every-kind-that is_move (λ k. not (is_reset k)) refl x h)

not_at_once : (x : BlockKind) → is_move x ≡ true → is_done_at_once x ≡ false
not_at_once x h =
    off (is_done_at_once x) (every-kind-that is_move (λ k. not (is_done_at_once k)) refl x h)

answered_not : (x : BlockKind) (answer : Result Bool Refusal) → is_move x ≡ true → end_answered x answer ≡ Some finish.Done → ⊥
answered_not x (Err r) h e = cc
answered_not x (Ok true) h e = cc
answered_not x (Ok false) h e = let f : None ≡ Some finish.Done = ap (λ b. if b then Some finish.Done else None) (sym (not_at_once x h)) ∙ e in cc

edge_not : (s : Setup) (e : Edge) (k : ℕ) (b : BlockDef) (i : Inputs) (m : Machine) → is_move b.kind ≡ true → end_by_edge s e k b i m ≡ Some finish.Done → ⊥
edge_not s edge.Rising k b i m h e = answered_not b.kind (answer_in s k b i m) h e
edge_not s edge.High k b i m h e = cc
edge_not s edge.Falling k b i m h e = cc
edge_not s edge.Low k b i m h e = cc

-- so no call ends it Done
call_not : (s : Setup) (m : Machine) (j : ℕ) (i : Inputs) (reply : Outputs) (k : ℕ) (b : BlockDef) (x : Bool) → is_move b.kind ≡ true →
    (if x then end_by_edge s (edge_of (instance_at m.instances k).execute i.execute) k b i (with_execute k i m)
    else end_of_command s m (call j i reply) k (object_of b)) ≡ Some finish.Done → ⊥
call_not s m j i reply k b true h e = edge_not s (edge_of (instance_at m.instances k).execute i.execute) k b i (with_execute k i m) h e
call_not s m j i reply k b false h e = call_not_done s m j i reply k (object_of b) e

-- the active command of an axis, by its owner
record HasActive (k n : ℕ) (m : Machine) : Type 0 where
  command : Wanted
  is : (axis_at m n).active ≡ Some command
  own : command.owner ≡ Some k

active_there : (k n : ℕ) (m : Machine) → owner_by (axis_at m n).active ≡ Some k → HasActive k n m
active_there k n m e = by (axis_at m n).active refl e
  where
    by : (o : Option Wanted) → (axis_at m n).active ≡ o → owner_by o ≡ Some k → HasActive k n m
    by None is f = absurd (cc)
    by (Some w) is f = record { command = w; is = is; own = f }

-- in a cycle
cycle_there : (s : Setup) (m : Machine) (e : Entry) (more : List Entry) (k : ℕ) (b : BlockDef) → b.object < length m.axes →
    KeepsResults s m e more k → KeepsMotion s m e more b.object → AreOfTheirBlocks s (command_state_at m (an_axis b.object)) →
    slice_get s.blocks k ≡ Some b → is_move b.kind ≡ true → end_of_command s m e k (an_axis b.object) ≡ Some finish.Done →
    (active_at m k (an_axis b.object) ≡ 1 → end_of_command s m e k (an_axis b.object) ≡ end_in s m e (an_axis b.object)) →
    IsDoneThere s m e k b
cycle_there s m e more k b l told moves kinds at move ends same =
    elim (told.done (an_axis b.object) l ends) [
      | inl act ↦
          let has = active_there k b.object m (found_in k (owner_by (axis_at m b.object).active) (omega arith)) in
          let of_kind = kinds.active has.command has.is k b has.own at in
          record {
            command = has.command;
            active = has.is;
            own = has.own;
            of_kind = of_kind;
            there = moves.done has.command has.is (ap is_move of_kind ∙ move) (sym (same act) ∙ ends);
          }
      | inr reset ↦
          let no = no_reset b.kind move in
          let is = kinds.reset k b reset at in absurd (cc)
    ]

entry_there : (s : Setup) (m : Machine) (e : Entry) (more : List Entry) (k : ℕ) (b : BlockDef) → b.object < length m.axes →
    KeepsResults s m e more k → KeepsMotion s m e more b.object → AreOfTheirBlocks s (command_state_at m (an_axis b.object)) →
    slice_get s.blocks k ≡ Some b → is_move b.kind ≡ true → finish_in s m e k b ≡ Some finish.Done → IsDoneThere s m e k b
entry_there s m (call j i reply) more k b l told moves kinds at move ends = absurd (call_not s m j i reply k b (nat_eq j k) move ends)
entry_there s m (cycle c rows grows) more k b l told moves kinds at move ends =
    let on : object_of b ≡ an_axis b.object = ap (λ z. if z then a_group b.object else an_axis b.object) (on_axis b.kind move) in
    cycle_there s m (cycle c rows grows) more k b l told moves kinds at move
    (ap (end_of_command s m (cycle c rows grows) k) (sym on) ∙ ends) (λ act. told.end (an_axis b.object) l act refl)
entry_there s m (end_of task) more k b l told moves kinds at move ends = absurd (cc)

-- in every past
pub moves_end_there : WalkLaws → ConfigurationsAreSound →
    ((s : Setup) (es : List Entry) → IsSetup s → AreWhole s → IsPast s es → ResultsAreTold s es) →
    ((s : Setup) (es : List Entry) → IsSetup s → AreWhole s → IsPast s es → MovesArrive s es) →
    (s : Setup) (es : List Entry) → IsSetup s → AreWhole s → IsPast s es → MovesEndThere s es
moves_end_there laws sound told moves s es setup whole past made more e k b is at move ends =
    let so_far = past_so_far s made (e ∷ more) (subst (IsPast s) is past) in
    let kept = machine_kept laws.machines s made setup whole so_far in
    let sizes = kept.sized in
    let size = sizes.axes in
    let l = axis_object sound s k b setup (there_where s.blocks k b at) at (on_axis b.kind move) in
    let there : b.object < length (machine_after s made).axes = omega arith in
    entry_there s (machine_after s made) e more k b there (told s es setup whole past made more e k is) (moves s es setup whole past made more e b.object is l)
    (kinds_match laws s made setup whole so_far (an_axis b.object) there) at move ends
