-- What holds between any two steps of the lock. This project's profile.
use Rattle.std.specs.Prelude.{◌≡◌, ℕ, ◌+◌, ◌%◌, ◌^◌, ◌==◌, ◌<◌, ◌≤◌, suc, ◌⊎◌, List, [], ◌∷◌, length, true, false, Option, Some, None}
use mathlib.Core.List.{IsPrefix}
use mathlib.Core.Option as maybe
use lib.ListN.{get_elem?}
use Rattle.atomic_table.specs.Table.{State}
use Rattle.motion_history.specs.Entries.{Entry}
use Rattle.motion_history.specs.Setup.{Setup}
use Rattle.motion_kernel.specs.KernelState.{KernelState}
use Rattle.kernel_turn.specs.PermitView.{PermitView}
use Rattle.kernel_turn.specs.Times.{one, times, once_below}

-- a number of each permit, added up over all
abbrev pub total : (PermitView → ℕ) → List PermitView → ℕ
total f [] = 0
total f (v ∷ vs) = f v + total f vs

-- one where there is a number in hand
unfoldable pub if_hand : Option ℕ → ℕ
if_hand None = 0
if_hand (Some n) = 1

-- one where this number is in hand
unfoldable pub if_hand_is : ℕ → Option ℕ → ℕ
if_hand_is x None = 0
if_hand_is x (Some n) = one (n == x)

-- one where the kernel is there
unfoldable pub if_found : Option KernelState → ℕ
if_found None = 0
if_found (Some k) = 1

-- how many permits live
abbrev pub living : List PermitView → ℕ
living views = total (λ v. one v.live) views

-- how many have a number in hand
abbrev pub waiting : List PermitView → ℕ
waiting views = total (λ v. if_hand v.hand) views

-- how many have this number in hand
abbrev pub with_hand : ℕ → List PermitView → ℕ
with_hand x views = total (λ v. if_hand_is x v.hand) views

-- how many have the kernel
abbrev pub with_kernel : List PermitView → ℕ
with_kernel views = total (λ v. if_found v.found) views

-- how often this ticket is an own one
abbrev pub with_ticket : ℕ → List PermitView → ℕ
with_ticket x views = total (λ v. times x v.own) views

-- how many have made a stop
abbrev pub stoppers : List PermitView → ℕ
stoppers views = total (λ v. one v.made_stop) views

-- the kernel has this configuration and history, and is stopped exactly where a permit has made a
-- stop
pub record Is (config : Setup) (history : List Entry) (stops : ℕ) (k : KernelState) : Type 0 where
  pub config_is : k.config ≡ config
  pub history_is : k.history ≡ history
  pub stop : k.stopped ≡ true → 0 < stops
  pub stopped : 0 < stops → k.stopped ≡ true

-- a permit fits the history: what it has seen begins it, it has the kernel only where the next
-- number is in its hand, and where it has met a stop a permit has made one
pub record Fits (config : Setup) (history : List Entry) (stops passed i : ℕ) (v : PermitView)
    : Type 0 where
  pub first : v.opening ≡ true → i ≡ 0
  pub aside : IsPrefix v.aside history
  pub config_is : v.live ≡ true → v.config ≡ config
  pub seen : IsPrefix v.seen history
  pub spent : v.live ≡ false → (v.own ≡ []) × (v.hand ≡ None) × (v.made_stop ≡ false)
  pub found : (k : KernelState) → v.found ≡ Some k →
      (v.hand ≡ Some passed) × Is config history stops k
  pub stop : v.met_stop ≡ true → 0 < stops

-- the kernel's place
abbrev pub Homes : Type 0
Homes = List (maybe.Option (Option KernelState))

-- the kernel is with one permit
abbrev pub Away : Homes → List PermitView → Type 0
Away homes views = (homes ≡ maybe.none ∷ []) × (with_kernel views ≡ 1)

-- the kernel is in its place
abbrev pub Home : Setup → List Entry → Homes → List PermitView → Type 0
Home config history homes views = (k : KernelState) × (homes ≡ maybe.some (Some k) ∷ []) ×
    (with_kernel views ≡ 0) × Is config history (stoppers views) k

-- as many permits live as the opening permit says, itself and those that are out, at most 1,000
abbrev pub Counted : List PermitView → Type 0
Counted views = (v : PermitView) × (get_elem? views 0 ≡ maybe.some v) × (v.live ≡ true) ×
    (living views ≡ suc v.out) × (v.out ≤ 1000)

-- the rule: the words count the numbers drawn and passed on; each number that was drawn and not
-- passed on is in one hand, each place of the history is one own ticket, every permit fits the
-- history, and the kernel is in its place or with one permit
pub record Invariant (config : Setup) (s : State (Option KernelState) PermitView) : Type 0 where
  pub history : List Entry
  pub drawn : ℕ
  pub passed : ℕ
  pub words : s.words ≡ drawn % 2 ^ 64 ∷ passed % 2 ^ 64 ∷ []
  pub wait : passed + waiting s.views ≡ drawn
  pub hands : (x : ℕ) → with_hand x s.views + once_below x passed ≡ once_below x drawn
  pub tickets : (x : ℕ) → with_ticket x s.views ≡ once_below x (length history)
  pub each : (i : ℕ) (v : PermitView) → get_elem? s.views i ≡ maybe.some v →
      Fits config history (stoppers s.views) passed i v
  pub place : Away s.homes s.views ⊎ Home config history s.homes s.views
  pub count : Counted s.views
