-- What each step of the lock gives the permit that takes it. This project's profile.
use Rattle.std.specs.Prelude.{◌≡◌, ◌≢◌, ℕ, ◌%◌, ◌^◌, ◌≤◌, List, [], ◌∷◌, ◌++◌, length, Bool, true, ◌||◌, Option, Some, None}
use mathlib.Core.List.{IsPrefix}
use Rattle.atomic_table.specs.Seated.{TableId}
use Rattle.atomic_table.specs.Table.{Me, Step}
use Rattle.motion_history.specs.Entries.{Entry}
use Rattle.motion_kernel.specs.KernelState.{KernelState}
use Rattle.kernel_turn.specs.PermitView.{PermitView}
use Rattle.kernel_turn.specs.Times.{times, once_below}
use Rattle.kernel_turn.specs.Views.{view_after_turn, with_found, with_number, settled_view, word_of}

-- a permit, and the kernel's place where it has that
abbrev pub Seated : Type 0
Seated = Me (Option KernelState) PermitView

-- the permit is one of this lock, which has a word for the numbers drawn, one for those passed on,
-- and a place for the kernel
abbrev pub IsSeatOf : TableId → TableId → Type 0
IsSeatOf seat lock = (seat ≡ lock) × (lock.words ≡ 2) × (lock.slots ≡ 1)

-- a number is drawn, which the word that was found counts
abbrev pub Draws : Step (Option KernelState) → Seated → ℕ → Seated → Type 0
Draws st m n m' = (h : ℕ) × (h % 2 ^ 64 ≡ n) × (m' ≡ (with_number m.0 h, m.1))

-- the own tickets are all that were given, each once, and who has met a stop has made one
pub record IsWhole (v : PermitView) (k : KernelState) : Type 0 where
  pub tickets : (x : ℕ) → times x v.own ≡ once_below x (length k.history)
  pub stop : k.stopped || v.met_stop ≡ true → v.made_stop ≡ true

-- where the permit has made or met a stop, the kernel is stopped
abbrev pub StaysStopped : PermitView → KernelState → Type 0
StaysStopped v k = v.made_stop || v.met_stop ≡ true → k.stopped ≡ true

-- the kernel is taken: it has the configuration, its history begins with what was seen, and it
-- stays stopped. The opening permit has all tickets, where no other permit is out
abbrev pub Takes : Seated → Seated → Type 0
Takes m m' = (k : KernelState) × (m' ≡ (with_found m.0 k, (0, Some k) ∷ m.1)) ×
    IsPrefix m.0.seen k.history × (k.config ≡ m.0.config) ×
    StaysStopped m.0 k × (m.0.opening ≡ true → m.0.out ≡ 0 → IsWhole m.0 k)

-- where the number in hand is served the kernel is taken, else nothing changes
abbrev pub Looks : Step (Option KernelState) → Seated → ℕ → Seated → Type 0
Looks st m n m' = (n ≡ word_of m.0.hand → Takes m m') × (n ≢ word_of m.0.hand → m' ≡ m)

-- the kernel is given back, and the next number served
abbrev pub Passes : Bool → Step (Option KernelState) → Seated → ℕ → Seated → Type 0
Passes stop st m n m' =
    (k : KernelState) × (m.1 ≡ (0, Some k) ∷ []) × (m' ≡ (view_after_turn stop m.0 k, []))

-- the longer history begins with both
abbrev pub Settles : Step (Option KernelState) → Seated → ℕ → Seated → Type 0
Settles st m n m' =
    IsPrefix m.0.seen m'.0.seen × IsPrefix m.0.aside m'.0.seen × (m' ≡ (settled_view m.0, m.1))

-- a kernel after a turn has at most one entry more, and is stopped if it was or is by this turn
pub record Grows (stop : Bool) (before after : KernelState) : Type 0 where
  pub config : after.config ≡ before.config
  pub stopped : after.stopped ≡ before.stopped || stop
  pub added : List Entry
  pub few : length added ≤ 1
  pub history : after.history ≡ before.history ++ added

-- a permit that knew this much has found the kernel so and taken it out
pub record Holds (before : PermitView) (k : KernelState) (m : Seated) : Type 0 where
  pub number : ℕ
  pub me : m ≡ (with_found (with_number before number) k, (0, None) ∷ [])
  pub begins : IsPrefix before.seen k.history
  pub config : k.config ≡ before.config
  pub stopped : StaysStopped before k
  pub whole : before.opening ≡ true → before.out ≡ 0 → IsWhole before k
