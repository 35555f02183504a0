-- What an entry of a past makes of the command of an instance.
-- for: replies_show_commands, entries_make_outcomes, results_are_told and others
use Rattle.std.specs.Prelude.{◌≡◌, refl, ℕ, ◌<◌, Bool, true, false, ◌&&◌, not, nat_eq, if◌then◌else◌, Some, length, slice_get}
use Rattle.std.proofs.Common.{arith, ap, sym, subst, ◌∙◌, inl, inr}
use Rattle.std.proofs.lemmas.Bool.{cases_Bool, eqb-true}
use Rattle.plc_types.specs.Kinds.{acts_on_group}
use Rattle.fb_outputs.specs.Steps.{is_power}
use Rattle.motion_history.specs.Entries.{Entry, call, cycle, end_of}
use Rattle.motion_history.specs.Setup.{Setup}
use Rattle.motion_history.specs.declared.config.BlockDef.{BlockDef}
use Rattle.motion_kernel.specs.Histories.{IsOf}
use Rattle.motion_kernel.specs.Machine.{Machine}
use Rattle.motion_kernel.specs.calls.Calls.{after_call}
use Rattle.motion_kernel.specs.kept.Machine.{AreWhole, IsMachineKept, IsSized}
use Rattle.motion_kernel.proofs.kept.Calls as calls
use Rattle.motion_kernel.proofs.kept.Laws.{ConfigurationsAreSound}
use Rattle.motion_kernel.specs.owners.Objects.{a_group, an_axis, IsThere, has_commands_on, is_same, object_of}
use Rattle.motion_laws.specs.owners.Shown.{AreWhereShown}
use Rattle.motion_laws.specs.results.Outcomes.{IsOutcome, progress_at, progress_beside, progress_by_call}
use Rattle.motion_kernel.proofs.owners.commands.Events.{is_itself, there_where}
use Rattle.motion_laws.proofs.results.outcomes.Final.{OutcomeLaws}
use Rattle.motion_laws.proofs.results.outcomes.Others.{call_outcome}
use Rattle.motion_laws.proofs.results.outcomes.Own.{own_outcome}
use Rattle.motion_laws.proofs.results.outcomes.Shown.{cycle_outcome}

-- the axis or group of a block is there
pub object_there : ConfigurationsAreSound → (s : Setup) (m : Machine) (k : ℕ) (b : BlockDef) → IsMachineKept s m → slice_get s.blocks k ≡ Some b →
    IsThere m (object_of b)
object_there sound s m k b kept at =
    by (acts_on_group b.kind) (calls.object_of sound s k b kept.sized.setup (there_where s.blocks k b at) at).object
  where
    by : (x : Bool) → b.object < (if x then length s.groups else length s.axes) → IsThere m (if x then a_group b.object else an_axis b.object)
    by true l = let sizes = kept.sized in let g = sizes.groups in omega arith
    by false l = let sizes = kept.sized in let a = sizes.axes in omega arith

-- and has its commands
pub commands_there : (s : Setup) (k : ℕ) (b : BlockDef) → slice_get s.blocks k ≡ Some b → is_power b.kind ≡ false →
    has_commands_on (slice_get s.blocks k) (object_of b) ≡ true
commands_there s k b at other =
    ap (λ x. has_commands_on x (object_of b)) at ∙ ap (λ x. not x && is_same (object_of b) (object_of b)) other ∙ is_itself (object_of b)

pub entry_outcome : OutcomeLaws → ConfigurationsAreSound → (s : Setup) (cycles : ℕ) (m : Machine) (e : Entry) (k : ℕ) (b : BlockDef) → AreWhole s →
    IsMachineKept s m → AreWhereShown s m → IsOf s cycles m e → slice_get s.blocks k ≡ Some b → is_power b.kind ≡ false → IsOutcome s m e k b
entry_outcome laws sound s cycles m (call j i reply) k b whole kept shown is at other =
    let after = (laws.owners.walk.machines.call s m j i whole is.0 kept).sized in
    elim (cases_Bool (nat_eq j k)) [
      | inl e ↦
          let own = own_outcome s k (there_where s.blocks k b at) b i m at other kept.sized
          (subst (λ x. IsSized s (after_call s m x i)) (eqb-true j k e) after) in
          ap (λ x. progress_at (after_call s m x i) k) (eqb-true j k e) ∙ own
          ∙ ap (λ x. if x then progress_by_call s k b i m else progress_beside s m (call j i reply) k (object_of b)) (sym e)
      | inr d ↦
          call_outcome laws s m j k i reply (object_of b) whole is.0 kept shown (object_there sound s m k b kept at) (commands_there s k b at other) d
          ∙ ap (λ x. if x then progress_by_call s k b i m else progress_beside s m (call j i reply) k (object_of b)) (sym d)
    ]
entry_outcome laws sound s cycles m (cycle c rows grows) k b whole kept shown is at other =
    cycle_outcome laws s m c rows grows k (object_of b) kept shown (object_there sound s m k b kept at) (commands_there s k b at other)
entry_outcome laws sound s cycles m (end_of task) k b whole kept shown is at other = refl
