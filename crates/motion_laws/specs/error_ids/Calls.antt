-- By which ErrorID a call is refused (PLCopen Motion Control Part 1 and Part 4, ErrorID).
use Rattle.std.specs.Prelude.{◌≡◌, ℕ, Bool, true, false, Some, List, ◌∷◌, ◌++◌, slice_get}
use Rattle.plc_types.specs.Kinds.{acts_on_group}
use Rattle.fb_outputs.specs.Steps.{edge_of, is_power}
use Rattle.plc_types.specs.declared.inputs.Inputs.{Inputs}
use Rattle.fb_outputs.specs.declared.instance.Edge.TheVariants.{Rising}
use Rattle.plc_types.specs.declared.outputs.Outputs.{Outputs}
use Rattle.group_core.specs.Calls.{asked_in}
use Rattle.motion_history.specs.Entries.{Entry, call}
use Rattle.motion_history.specs.Setup.{Setup}
use Rattle.motion_history.specs.declared.config.BlockDef.{BlockDef}
use Rattle.motion_kernel.specs.Histories.{machine_after}
use Rattle.motion_kernel.specs.Machine.{Machine, group_core_at, instance_at}
use Rattle.motion_kernel.specs.calls.Asking.{wanted_of}
use Rattle.motion_kernel.specs.calls.Calls.{asked_of_axis, with_execute, without_owner}
use Rattle.motion_kernel.specs.looks.GroupLooks.{group_look}
use Rattle.motion_laws.specs.entries.Refusals.{IsRefused}
use Rattle.motion_laws.specs.error_ids.Axis as axis
use Rattle.motion_laws.specs.error_ids.First.{HoldsOfNone, IsFirst}
use Rattle.motion_laws.specs.error_ids.Group as group

-- what the tables say of a call: something of the conditions of its kind's ErrorIDs and of these,
-- in their order, by what is asked of the axis or of the group
abbrev pub BlockTable : ((ℕ → Type 0) → List ℕ → Type 0) → Bool → Setup → ℕ → BlockDef → Inputs →
    Machine → Type 0
BlockTable says true s k b i m =
    says (group.Condition (asked_in (group_core_at m b.object) (wanted_of k b.kind i) i.jerk
    (group_look s m b.object 0))) (group.tested b.kind)
BlockTable says false s k b i m =
    says (axis.Condition (asked_of_axis s k b.object b.kind i m)) (axis.tested b.kind)

-- of a call whose instance has its earlier command no longer
abbrev pub TableSays : ((ℕ → Type 0) → List ℕ → Type 0) → Setup → ℕ → BlockDef → Inputs → Machine →
    Type 0
TableSays says s k b i m =
    BlockTable says (acts_on_group b.kind) s k b i (without_owner k (with_execute k i m))

-- a call of a history that is refused is so by the first ErrorID of its kind's table whose
-- condition holds; and where one that asks for a command is not, none of them does
pub record RefusalsAreFirst (s : Setup) (es : List Entry) : Type 0 where
  pub refused : (made more : List Entry) (k : ℕ) (i : Inputs) (reply : Outputs) (b : BlockDef) →
      es ≡ made ++ call k i reply ∷ more → slice_get s.blocks k ≡ Some b →
      IsRefused (machine_after s made) k i reply →
      TableSays (λ conditions ids. IsFirst conditions ids reply.error_id) s k b i
      (machine_after s made)
  pub admitted : (made more : List Entry) (k : ℕ) (i : Inputs) (reply : Outputs) (b : BlockDef) →
      es ≡ made ++ call k i reply ∷ more → slice_get s.blocks k ≡ Some b →
      is_power b.kind ≡ false →
      edge_of (instance_at (machine_after s made).instances k).execute i.execute ≡ Rising →
      reply.error ≡ false → TableSays HoldsOfNone s k b i (machine_after s made)
