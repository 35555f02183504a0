-- What a permit knows after a turn. This project's profile.
use Rattle.std.specs.Prelude.{◌≡◌, ℕ, suc, ◌-◌, ◌⊎◌, List, [], ◌∷◌, ◌++◌, length, true, false, ◌||◌}
use mathlib.Core.List.{IsPrefix}
use Rattle.atomic_table.specs.Seated.{TableId}
use Rattle.plc_types.specs.declared.drive.DriveIn.{DriveIn}
use Rattle.plc_types.specs.declared.drive.DriveOut.{DriveOut}
use Rattle.plc_types.specs.declared.inputs.Inputs.{Inputs}
use Rattle.plc_types.specs.declared.outputs.Outputs.{Outputs}
use Rattle.motion_history.specs.Entries.{Entry, end_of}
use Rattle.motion_history.specs.Setup.{Setup, IsSetup}
use Rattle.motion_kernel.specs.Histories.{IsLegal}
use Rattle.motion_kernel.specs.KernelState.{KernelState}
use Rattle.motion_kernel.specs.kept.Machine.{AreWhole}
use Rattle.kernel_turn.specs.Events.{CallTold, CycleTold, EndTold, Makes, call_of, cycle_of}
use Rattle.kernel_turn.specs.PermitState.{PermitState}
use Rattle.kernel_turn.specs.Times.{times, once_below}
use Rattle.kernel_turn.specs.Views.{longer}
use Rattle.kernel_turn.specs.declared.turn.Turn.{Turn}
use Rattle.kernel_turn.specs.declared.turn.Turn.TheVariants.{Made, Full, Early}

-- the opening permit at first
abbrev pub opening_permit : TableId → Setup → PermitState
opening_permit table s = record {
  table = table;
  opening = true;
  config = s;
  seen = [];
  own = [];
  made_stop = false;
  met_stop = false;
  out = 0;
}

-- the opening permit after one more was split from it
abbrev pub permit_after_split : PermitState → PermitState
permit_after_split p = record p { out = suc p.out }

-- a new permit has seen what the opening permit has, and has done nothing yet
abbrev pub split_permit : PermitState → PermitState
split_permit p = record p { opening = false; own = []; made_stop = false; met_stop = false; out = 0 }

-- a permit that has taken another in: the longer of the two histories that were seen, which begins
-- with each, the tickets of both and the marks of either
pub record IsJoined (old other new : PermitState) : Type 0 where
  pub begins : IsPrefix old.seen new.seen
  pub begins_other : IsPrefix other.seen new.seen
  pub seen : new.seen ≡ longer old.seen other.seen
  pub permit : new ≡ record old {
    seen = new.seen;
    own = old.own ++ other.own;
    made_stop = old.made_stop || other.made_stop;
    met_stop = old.met_stop || other.met_stop;
    out = old.out - 1;
  }

-- the kernel that a permit finds has its configuration, and a history that begins with what it has
-- seen, and is stopped where the permit has made or met a stop
pub record IsFound (p : PermitState) (k : KernelState) : Type 0 where
  pub begins : IsPrefix p.seen k.history
  pub config : k.config ≡ p.config
  pub stopped : p.made_stop || p.met_stop ≡ true → k.stopped ≡ true

-- the tickets of a turn: that of its entry, if it made one
module _ {T : Type 0} where
  abbrev pub tickets_of : Turn T → List ℕ
  tickets_of (Made ticket cycles answer) = ticket ∷ []
  tickets_of (Full entries cycles) = []
  tickets_of (Early quiet cycles) = []

-- a permit after a turn with these tickets that found the kernel as f and left it as g
abbrev pub permit_after : PermitState → KernelState → KernelState → List ℕ → PermitState
permit_after p f g tickets = record p {
  seen = g.history;
  own = p.own ++ tickets;
  met_stop = p.met_stop || f.stopped;
}

-- a permit after a turn that stopped the kernel
abbrev pub permit_after_stop : PermitState → KernelState → PermitState
permit_after_stop p f =
    record p { seen = f.history; made_stop = true; met_stop = p.met_stop || f.stopped }

module _ {T : Type 0} where
  -- a turn found the kernel as f, made this entry or none, and left it as g
  pub record TakesTurn (old new : PermitState) (f g : KernelState) (e : Entry) (turn : Turn T)
      : Type 0 where
    pub found : IsFound old f
    pub makes : Makes f g e turn
    pub permit : new ≡ permit_after old f g (tickets_of turn)

-- what a turn that calls a block answers
abbrev pub CallAnswered : ℕ → ℕ → Inputs → PermitState → PermitState → Turn Outputs → Type 0
CallAnswered after b i old new turn = (f g : KernelState) ×
    TakesTurn old new f g (call_of f b i) turn × CallTold after b i f turn

-- what a turn that goes through a cycle answers
abbrev pub CycleAnswered : List DriveIn → List DriveOut → List DriveOut → PermitState → PermitState →
    Turn ℕ → Type 0
CycleAnswered ins before outs old new turn = (f g : KernelState) ×
    TakesTurn old new f g (cycle_of f ins) turn × CycleTold ins before outs f g turn

-- what a turn that ends a task answers
module _ {T : Type 0} where
  abbrev pub EndAnswered : ℕ → PermitState → PermitState → Turn T → Type 0
  EndAnswered task old new turn =
      (f g : KernelState) × TakesTurn old new f g (end_of task) turn × EndTold f turn

-- it is the same pass of the same lock
pub record IsSamePermit (old new : PermitState) : Type 0 where
  pub table : new.table ≡ old.table
  pub opening : new.opening ≡ old.opening
  pub config : new.config ≡ old.config
  pub out : new.out ≡ old.out

-- a history is legal, for a sound configuration of whole groups: so it keeps the machine's laws
pub record IsLawful (s : Setup) (es : List Entry) : Type 0 where
  pub legal : IsLegal s es
  pub setup : IsSetup s
  pub whole : AreWhole s

-- the entries of a Full for want of room are the configured number, unless the permit has then met
-- a stop
module _ {T : Type 0} where
  abbrev pub FullOfEntries : PermitState → Turn T → Type 0
  FullOfEntries new (Full entries cycles) =
      new.met_stop ≡ false → entries ≡ new.config.entries
  FullOfEntries new turn = Unit {0}

  -- a Full of a cycle may also come as the cycles are the configured number
  abbrev pub FullOfEither : PermitState → Turn T → Type 0
  FullOfEither new (Full entries cycles) = new.met_stop ≡ false →
      (entries ≡ new.config.entries) ⊎ (cycles ≡ new.config.cycles)
  FullOfEither new turn = Unit {0}

  -- a turn makes an entry only where the permit has neither made nor met a stop
  abbrev pub MadeUnstopped : PermitState → Turn T → Type 0
  MadeUnstopped old (Made ticket cycles answer) = old.made_stop || old.met_stop ≡ false
  MadeUnstopped old turn = Unit {0}

-- at closing the kernel has the permit's configuration and a history that begins with what the
-- permit has seen; the own tickets are all that were given, each once; the kernel is stopped
-- exactly where the permit has made a stop, and a permit that has met one has made one
pub record IsClosed (p : PermitState) (k : KernelState) : Type 0 where
  pub begins : IsPrefix p.seen k.history
  pub config : k.config ≡ p.config
  pub tickets : (x : ℕ) → times x p.own ≡ once_below x (length k.history)
  pub stop : k.stopped || p.met_stop ≡ true → p.made_stop ≡ true
  pub stopped : p.made_stop ≡ true → k.stopped ≡ true
