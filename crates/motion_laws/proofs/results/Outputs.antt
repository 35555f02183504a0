-- What a call's reply reports, by how far the command of its instance then is.
-- for: replies_show_commands, results_are_told, results_come_of_ends and others
use Rattle.std.specs.Prelude.{◌≡◌, refl, ℕ, Bool, false, ◌&&◌, if◌then◌else◌, Some, slice_get}
use Rattle.std.proofs.Common.{ap, sym, subst, ◌∙◌}
use Rattle.command_pool.specs.declared.ending.Finish.{Finish}
use Rattle.command_pool.specs.declared.ending.Finish.TheVariants as finish
use Rattle.fb_outputs.specs.InstanceState.{InstanceState}
use Rattle.fb_outputs.specs.Steps.{edge_of, is_power, is_stop, nothing, opened, outputs_by, outputs_of, result_of}
use Rattle.plc_types.specs.declared.inputs.Inputs.{Inputs}
use Rattle.fb_outputs.specs.declared.instance.Progress.{Progress}
use Rattle.fb_outputs.specs.declared.instance.Progress.TheVariants.{Ended, Idle}
use Rattle.plc_types.specs.declared.outputs.Outputs.{Outputs}
use Rattle.motion_history.specs.Setup.{Setup}
use Rattle.motion_history.specs.declared.config.BlockDef.{BlockDef}
use Rattle.motion_kernel.specs.Machine.{Machine, instance_at}
use Rattle.motion_kernel.specs.calls.Calls.{called, reply_of, with_execute}
use Rattle.motion_kernel.specs.kept.Machine.{IsSized}
use Rattle.motion_laws.specs.entries.Replies.{AreOfBlocks}
use Rattle.motion_laws.specs.results.Outcomes.{progress_at, progress_by_edge}
use Rattle.motion_laws.specs.results.Results.{Tells}
use Rattle.motion_laws.proofs.entries.replies.Entries.{called_of_blocks}
use Rattle.motion_laws.proofs.entries.replies.Histories.{kind_after}
use Rattle.motion_kernel.proofs.owners.commands.Events.{there_where}
use Rattle.motion_laws.proofs.results.outcomes.Own.{called_progress}

-- a result gives its end
result_tells : (f : Finish) (holds : Bool) → Tells f (result_of holds f)
result_tells finish.Done holds = refl
result_tells finish.Aborted holds = refl
result_tells (finish.Error n) holds = (refl, refl)

-- the outputs of a block that is no Power
pub by_progress : (v : InstanceState) → is_power v.kind ≡ false →
    outputs_of v ≡ outputs_by (is_stop v.kind) v.execute v.reached v.progress
by_progress v other =
    ap (λ b. if b then record nothing { busy = v.execute; reached = v.execute && v.reached }
    else outputs_by (is_stop v.kind) v.execute v.reached v.progress) other

-- the instance of a call is of its block's kind
pub called_kind : (s : Setup) (m : Machine) (k : ℕ) (i : Inputs) (b : BlockDef) →
    AreOfBlocks s m.instances → slice_get s.blocks k ≡ Some b →
    (instance_at (called s k i m).instances k).kind ≡ b.kind
called_kind s m k i b blocks at =
    let happened = called_of_blocks s m k i blocks k b at in
    ap (λ (x : InstanceState). x.kind) happened.is ∙ kind_after (opened b.kind) happened.happenings

-- how far the command of an instance is in its own call, before the reply
abbrev pub progress_called : Setup → Machine → ℕ → Inputs → BlockDef → Progress
progress_called s m k i b =
    progress_by_edge s (edge_of (instance_at m.instances k).execute i.execute) k b i
    (with_execute k i m) (progress_at m k)

-- and its outputs are, when it is so far
abbrev outputs_called : Setup → Machine → ℕ → Inputs → Progress → Outputs
outputs_called s m k i p =
    let v = instance_at (called s k i m).instances k in
    outputs_by (is_stop v.kind) v.execute v.reached p

module _ (s : Setup) (m : Machine) (k : ℕ) (i : Inputs) (b : BlockDef) (sized : IsSized s m)
    (blocks : AreOfBlocks s m.instances) (at : slice_get s.blocks k ≡ Some b)
    (other : is_power b.kind ≡ false) where
  reply_by : reply_of s m k i ≡ outputs_called s m k i (progress_called s m k i b)
  reply_by =
      let v = instance_at (called s k i m).instances k in
      by_progress v (ap is_power (called_kind s m k i b blocks at) ∙ other)
      ∙ ap (outputs_called s m k i)
      (called_progress s k (there_where s.blocks k b at) b i m at other sized)

  -- its reply reports an end, shown before or not
  pub reply_tells : (f : Finish) (shown : Bool) → progress_called s m k i b ≡ Ended f shown →
      Tells f (reply_of s m k i)
  reply_tells f shown ended =
      let v = instance_at (called s k i m).instances k in
      subst (Tells f) (sym (reply_by ∙ ap (outputs_called s m k i) ended))
      (result_tells f (is_stop v.kind && v.execute && v.reached))

  -- and nothing, where there is none
  pub reply_shows_nothing : progress_called s m k i b ≡ Idle → reply_of s m k i ≡ nothing
  reply_shows_nothing idle = reply_by ∙ ap (outputs_called s m k i) idle
