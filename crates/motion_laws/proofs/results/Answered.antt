-- A call's reply says how the call is answered.
-- for: results_are_told
use Rattle.std.specs.Prelude.{◌≡◌, refl, ℕ, Bool, true, false, if◌then◌else◌, Some, None, Result, Ok, Err, slice_get}
use Rattle.std.proofs.Common.{ap, sym, subst, ◌∙◌}
use Rattle.std.proofs.lemmas.Bool.{eq-eqb}
use Rattle.command_pool.specs.declared.ending.Finish.{Finish}
use Rattle.command_pool.specs.declared.ending.Finish.TheVariants as finish
use Rattle.command_pool.specs.declared.ending.Refusal.{Refusal}
use Rattle.plc_types.specs.declared.kind.BlockKind.{BlockKind}
use Rattle.fb_outputs.specs.Steps.{edge_of, is_power}
use Rattle.plc_types.specs.declared.inputs.Inputs.{Inputs}
use Rattle.fb_outputs.specs.declared.instance.Edge.{Edge}
use Rattle.fb_outputs.specs.declared.instance.Edge.TheVariants as edge
use Rattle.fb_outputs.specs.declared.instance.Progress.{Progress}
use Rattle.fb_outputs.specs.declared.instance.Progress.TheVariants.{Ended, Waiting}
use Rattle.plc_types.specs.declared.outputs.Outputs.{Outputs}
use Rattle.motion_history.specs.Entries.{call}
use Rattle.motion_history.specs.Setup.{Setup}
use Rattle.motion_history.specs.declared.config.BlockDef.{BlockDef}
use Rattle.motion_kernel.specs.Machine.{Machine, instance_at}
use Rattle.motion_kernel.specs.calls.Asking.{is_done_at_once}
use Rattle.motion_kernel.specs.calls.Calls.{reply_of, with_execute}
use Rattle.motion_kernel.specs.kept.Machine.{IsSized}
use Rattle.motion_laws.specs.entries.Replies.{AreOfBlocks}
use Rattle.motion_kernel.specs.owners.Objects.{object_of}
use Rattle.motion_laws.specs.results.Outcomes.{answer_in, end_answered, end_by_edge, end_of_command, finish_in, progress_answered, progress_at, progress_by_edge}
use Rattle.motion_laws.specs.results.Results.{Tells}
use Rattle.motion_laws.proofs.results.Outputs.{reply_tells}

same_end : (f g : Finish) → Some f ≡ Some g → f ≡ g
same_end f g e = cc

-- a command that ends as it is answered has ended so
answer_ended : (x : BlockKind) (answer : Result Bool Refusal) (f : Finish) →
    end_answered x answer ≡ Some f → progress_answered x answer ≡ Ended f false
answer_ended x (Err r) f e = ap (λ g. Ended g false) (same_end (finish.Error r.number) f e)
answer_ended x (Ok true) f e = absurd (cc)
answer_ended x (Ok false) f e = by (is_done_at_once x) e
  where
    by : (b : Bool) → (if b then Some finish.Done else None) ≡ Some f →
        (if b then Ended finish.Done false else Waiting) ≡ Ended f false
    by true h = ap (λ g. Ended g false) (same_end finish.Done f h)
    by false h = absurd (cc)

edge_ended : (s : Setup) (e : Edge) (k : ℕ) (b : BlockDef) (i : Inputs) (y : Machine)
    (p : Progress) (f : Finish) → end_by_edge s e k b i y ≡ Some f →
    progress_by_edge s e k b i y p ≡ Ended f false
edge_ended s edge.Rising k b i y p f h = answer_ended b.kind (answer_in s k b i y) f h
edge_ended s edge.High k b i y p f h = absurd (cc)
edge_ended s edge.Falling k b i y p f h = absurd (cc)
edge_ended s edge.Low k b i y p f h = absurd (cc)

-- and the reply of the call says so
pub answer_told : (s : Setup) (m : Machine) (k : ℕ) (i : Inputs) (reply : Outputs) (b : BlockDef)
    (f : Finish) → IsSized s m → AreOfBlocks s m.instances → reply ≡ reply_of s m k i →
    slice_get s.blocks k ≡ Some b → is_power b.kind ≡ false →
    finish_in s m (call k i reply) k b ≡ Some f → Tells f reply
answer_told s m k i reply b f sized blocks is at other ends =
    let e = edge_of (instance_at m.instances k).execute i.execute in
    let y = with_execute k i m in
    let here : end_by_edge s e k b i y ≡ Some f =
    ap (λ x. if x then end_by_edge s e k b i y
    else end_of_command s m (call k i reply) k (object_of b)) (sym (eq-eqb k k refl)) ∙ ends in
    subst (Tells f) (sym is)
    (reply_tells s m k i b sized blocks at other f false
    (edge_ended s e k b i y (progress_at m k) f here))
