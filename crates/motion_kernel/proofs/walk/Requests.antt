-- What a call makes of the machine goes by what it asks for.
-- for: owners_have_blocks
use Rattle.std.specs.Prelude.{◌≡◌, refl, ℕ, true, false, Option, Some, None, slice_get}
use Rattle.std.proofs.Common.{ap}
use Rattle.plc_types.specs.Kinds.{acts_on_group}
use Rattle.plc_types.specs.declared.kind.BlockKind.{BlockKind}
use Rattle.plc_types.specs.declared.kind.BlockKind.TheVariants as kind
use Rattle.fb_outputs.specs.Steps.{edge_of, is_power}
use Rattle.plc_types.specs.declared.inputs.Inputs.{Inputs}
use Rattle.fb_outputs.specs.declared.instance.Edge.{Edge}
use Rattle.fb_outputs.specs.declared.instance.Edge.TheVariants as edge
use Rattle.motion_history.specs.Setup.{Setup}
use Rattle.motion_history.specs.declared.config.BlockDef.{BlockDef}
use Rattle.motion_kernel.specs.Machine.{Machine, instance_at}
use Rattle.motion_kernel.specs.calls.Calls.{after_asking, after_axis_command, after_edge, after_group_command, after_power, called, called_where, with_execute, without_owner}
use Rattle.motion_kernel.specs.calls.Requests.{Request, for_axis_command, for_group_command, for_nothing, for_power, request_by_edge, request_by_kind, request_of}
use Rattle.motion_kernel.proofs.walk.ByTest.{both}

-- the edge of a call's Execute
abbrev pub edge_in : ℕ → Inputs → Machine → Edge
edge_in k i m = edge_of (instance_at m.instances k).execute i.execute

-- a property of what a call asks for and of the machine before its reply
pub record IsAskedFor (s : Setup) (o : Option BlockDef) (k : ℕ) (i : Inputs) (m : Machine)
    (P : Request → Machine → Type 0) : Type 0 where
  -- of a block that is not there
  pub absent : o ≡ None → P for_nothing m
  -- of one that asks for nothing: no Power, and no rising edge
  pub quiet : (b : BlockDef) → o ≡ Some b → is_power b.kind ≡ false →
      (edge_in k i m ≡ edge.Rising → ⊥) → P for_nothing (with_execute k i m)
  -- of a Power
  pub power : (b : BlockDef) → o ≡ Some b → b.kind ≡ kind.Power →
      P (for_power b.object i.execute) (after_power s b.object i.execute (with_execute k i m))
  -- of a rising edge, of a block on an axis and of one on a group
  pub axis_command : (b : BlockDef) → o ≡ Some b → is_power b.kind ≡ false →
      edge_in k i m ≡ edge.Rising → acts_on_group b.kind ≡ false → P (for_axis_command b)
      (after_axis_command s k b.object b.kind i (without_owner k (with_execute k i m)))
  pub group_command : (b : BlockDef) → o ≡ Some b → is_power b.kind ≡ false →
      edge_in k i m ≡ edge.Rising → acts_on_group b.kind ≡ true → P (for_group_command b)
      (after_group_command s k b.object b.kind i (without_owner k (with_execute k i m)))

module _ (s : Setup) (k : ℕ) (i : Inputs) (m : Machine) (P : Request → Machine → Type 0) where
  by_edge : (o : Option BlockDef) → IsAskedFor s o k i m P → (e : Edge) (b : BlockDef) →
      edge_in k i m ≡ e → o ≡ Some b → is_power b.kind ≡ false →
      P (request_by_edge e b) (after_edge s e k b i (with_execute k i m))
  by_edge o h edge.Rising b is at other =
      both P (acts_on_group b.kind) (for_group_command b) (for_axis_command b) _ _
      (h.group_command b at other is) (h.axis_command b at other is)
  by_edge o h edge.High b is at other = h.quiet b at other (λ e. cc)
  by_edge o h edge.Falling b is at other = h.quiet b at other (λ e. cc)
  by_edge o h edge.Low b is at other = h.quiet b at other (λ e. cc)

  by_kind : (o : Option BlockDef) → IsAskedFor s o k i m P → (x : BlockKind) (b : BlockDef) →
      b.kind ≡ x → o ≡ Some b → P (request_by_kind x (edge_in k i m) b i.execute)
      (after_asking s x (edge_in k i m) k b i (with_execute k i m))
  by_kind o h kind.Power b is at = h.power b at is
  by_kind o h _ b is at = by_edge o h (edge_in k i m) b refl at (ap is_power is)

  by_block : (o : Option BlockDef) → IsAskedFor s o k i m P →
      P (request_of o k i m) (called_where s o k i m)
  by_block None h = h.absent refl
  by_block (Some b) h = by_kind (Some b) h b.kind b refl refl

  pub by_request : IsAskedFor s (slice_get s.blocks k) k i m P →
      P (request_of (slice_get s.blocks k) k i m) (called s k i m)
  unfolding called
  by_request h = by_block (slice_get s.blocks k) h
