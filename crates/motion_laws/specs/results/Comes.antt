-- Where a result comes from that a reply of a history reports, and how long it is shown (PLCopen
-- Motion Control Part 1, general rules).
use Rattle.std.specs.Prelude.{◌≡◌, ℕ, false, Some, List, [], ◌∷◌, ◌++◌, slice_get}
use Rattle.command_pool.specs.declared.ending.Finish.{Finish}
use Rattle.fb_outputs.specs.Steps.{edge_of, nothing}
use Rattle.plc_types.specs.declared.inputs.Inputs.{Inputs}
use Rattle.fb_outputs.specs.declared.instance.Edge.TheVariants as edge
use Rattle.plc_types.specs.declared.outputs.Outputs.{Outputs}
use Rattle.motion_history.specs.Entries.{Entry, call}
use Rattle.motion_history.specs.Setup.{Setup}
use Rattle.motion_history.specs.declared.config.BlockDef.{BlockDef}
use Rattle.motion_kernel.specs.Histories.{after, machine_after}
use Rattle.motion_kernel.specs.Machine.{Machine, instance_at}
use Rattle.motion_laws.specs.results.Outcomes.{finish_in}
use Rattle.motion_laws.specs.results.Results.{AreNoCalls, Tells, takes_away}

-- none of some entries is a rising edge of an instance
abbrev pub AreNoEdges : Setup → ℕ → Machine → List Entry → Type 0
AreNoEdges s k m [] = Unit {0}
AreNoEdges s k m (e ∷ es) = (takes_away m k e ≡ false) × AreNoEdges s k (after s m e) es

-- among some entries is one in which the command of an instance ended so, and since then no call of
-- it was a rising edge
pub record ComesOf (s : Setup) (k : ℕ) (b : BlockDef) (f : Finish) (es : List Entry)
    : Type 0 where
  pub made : List Entry
  pub entry : Entry
  pub more : List Entry
  pub split : es ≡ made ++ entry ∷ more
  pub ends : finish_in s (machine_after s made) entry k b ≡ Some f
  pub since : AreNoEdges s k (after s (machine_after s made) entry) more

-- each reply that gives a result comes of such an entry, its own call or one before it
abbrev pub ResultsCome : Setup → List Entry → Type 0
ResultsCome s es = (made more : List Entry) (k : ℕ) (i : Inputs) (reply : Outputs)
    (b : BlockDef) (f : Finish) → es ≡ made ++ call k i reply ∷ more →
    slice_get s.blocks k ≡ Some b → Tells f reply → ComesOf s k b f (made ++ call k i reply ∷ [])

-- and it stays while Execute is true: the next call of the instance gives it again, where it is no
-- edge
abbrev pub ResultsStay : Setup → List Entry → Type 0
ResultsStay s es = (made between more : List Entry) (k : ℕ) (i next : Inputs)
    (reply later : Outputs) (b : BlockDef) (f : Finish) →
    es ≡ made ++ call k i reply ∷ (between ++ call k next later ∷ more) →
    slice_get s.blocks k ≡ Some b → AreNoCalls k between →
    edge_of (instance_at (machine_after s (made ++ call k i reply ∷ between)).instances k).execute
    next.execute ≡ edge.High → Tells f reply → Tells f later

-- and it goes with Execute: the next call of the instance with Execute false shows nothing
abbrev pub ResultsGo : Setup → List Entry → Type 0
ResultsGo s es = (made between more : List Entry) (k : ℕ) (i next : Inputs)
    (reply later : Outputs) (b : BlockDef) (f : Finish) →
    es ≡ made ++ call k i reply ∷ (between ++ call k next later ∷ more) →
    slice_get s.blocks k ≡ Some b → AreNoCalls k between → next.execute ≡ false →
    Tells f reply → later ≡ nothing
