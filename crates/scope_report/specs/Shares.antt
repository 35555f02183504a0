-- What is reported of a share of a trace. This project's profile.
use Rattle.std.specs.Prelude.{◌≡◌, ◌+◌, ◌^◌, ◌<◌, ℕ, List, length, slice_index_or, Result, IfOk}
use Rattle.plc_types.specs.declared.axis.AxisRow.{AxisRow}
use Rattle.plc_types.specs.declared.outputs.Outputs.{Outputs}
use Rattle.motion_history.specs.Entries.{Entry, call, cycle, end_of}
use Rattle.motion_history.specs.Setup.{Setup}
use Rattle.motion_numbers.specs.declared.out_of_memory.OutOfMemory.{OutOfMemory}
use Rattle.trace_text.specs.TraceState.{TraceState, entries_of}
use Rattle.scope_report.specs.Counting.{HasOneMore, added, counts_of}
use Rattle.scope_report.specs.Cuts.{between_cuts, cut_at}
use Rattle.scope_report.specs.Merging.{merged, part_of}
use Rattle.scope_report.specs.Parts.{PartState}
use Rattle.scope_report.specs.Replies.{replies_of, reply_of}
use Rattle.scope_report.specs.Rows.{row_at, rows_of}
use Rattle.scope_report.specs.declared.counts.Counts.{Counts}

-- what is reported of each axis and of each block
pub record ShareState : Type 0 where
  pub axes : List PartState
  pub blocks : List Counts

-- the parts of the axes of these entries
abbrev pub AreParts : List Entry → List PartState → Type 0
AreParts es parts = (a : ℕ) (d : PartState) → a < length parts →
    slice_index_or parts a d ≡ part_of (rows_of a es)

-- the counts of the blocks of these entries
abbrev pub AreCounts : List Entry → List Counts → Type 0
AreCounts es counts = (b : ℕ) (d : Counts) → b < length counts →
    slice_index_or counts b d ≡ counts_of (replies_of b es)

-- it is what is reported of these entries, for this many axes and blocks
pub record IsShare (axes blocks : ℕ) (es : List Entry) (p : ShareState) : Type 0 where
  pub as_many_axes : length p.axes ≡ axes
  pub as_many_blocks : length p.blocks ≡ blocks
  pub each_axis : AreParts es p.axes
  pub each_block : AreCounts es p.blocks

-- and for as many as a machine has
abbrev pub IsShareOf : Setup → List Entry → ShareState → Type 0
IsShareOf s es p = IsShare (length s.axes) (length s.blocks) es p

-- one entry more can be counted
pub record HasRoom (p : ShareState) : Type 0 where
  pub axes : (a : ℕ) (d : PartState) → a < length p.axes →
      (slice_index_or p.axes a d).rows + 1 < 2 ^ 64
  pub blocks : (b : ℕ) (d : Counts) → b < length p.blocks → HasOneMore (slice_index_or p.blocks b d)

-- the rows of a cycle are added
pub record AddsRows (rows : List AxisRow) (old new : List PartState) : Type 0 where
  pub len : length new ≡ length old
  pub each : (a : ℕ) (d : PartState) → a < length old →
      slice_index_or new a d ≡ merged (slice_index_or old a d) (part_of (row_at a rows))

-- the reply of a call of this block is counted
pub record AddsReply (called : ℕ) (reply : Outputs) (old new : List Counts) : Type 0 where
  pub len : length new ≡ length old
  pub each : (b : ℕ) (d : Counts) → b < length old →
      slice_index_or new b d ≡ added (slice_index_or old b d) (counts_of (reply_of b called reply))

-- an entry is added: a call by its reply, a cycle by its rows
abbrev pub Adds : Entry → ShareState → ShareState → Type 0
Adds (call block inputs reply) old new =
    (new.axes ≡ old.axes) × AddsReply block reply old.blocks new.blocks
Adds (cycle n rows groups) old new =
    AddsRows rows old.axes new.axes × (new.blocks ≡ old.blocks)
Adds (end_of task) old new = new ≡ old

-- the entries of a share of this many
abbrev pub share_of : TraceState → ℕ → ℕ → List Entry
share_of t shares share = between_cuts (cut_at (length (entries_of t)) shares share)
    (cut_at (length (entries_of t)) shares (share + 1)) (entries_of t)

-- each is that of the share of its number, if there was memory for it
abbrev pub AreShares : TraceState → ℕ → List (Result ShareState OutOfMemory) → Type 0
AreShares t shares made = (i : ℕ) (d : Result ShareState OutOfMemory) → i < shares →
    IfOk (slice_index_or made i d) (IsShareOf t.config (share_of t shares i))
