-- Who made which entries of a history. This project's profile.
use Rattle.std.specs.Prelude.{◌≡◌, ℕ, suc, ◌<◌, ◌≤◌, ◌==◌, ◌&&◌, ◌||◌, List, [], ◌∷◌, ◌++◌, length, slice_get, Bool, true, false, Option, Some, None}
use Rattle.motion_history.specs.Entries.{Entry, call, cycle, end_of}
use Rattle.motion_history.specs.Setup.{Setup}
use Rattle.motion_history.specs.declared.config.BlockDef.{BlockDef}

-- an entry, and those before it
pub record Logged : Type 0 where
  pub before : List Entry
  pub entry : Entry

-- the number of the task of a block, counted from 1
abbrev pub task_of : Option BlockDef → ℕ
task_of None = 0
task_of (Some b) = suc b.task

-- who makes an entry: 0 for the cycles, else the task, counted from 1
abbrev pub maker_of : Setup → Entry → ℕ
maker_of s (call k i reply) = task_of (slice_get s.blocks k)
maker_of s (cycle n rows grows) = 0
maker_of s (end_of task) = suc task

-- whether a ticket is one of these
abbrev pub is_in : ℕ → List ℕ → Bool
is_in n [] = false
is_in n (x ∷ xs) = (x == n) || is_in n xs

-- an entry in front of others, where it passes
abbrev pub with_front : Bool → Logged → List Logged → List Logged
with_front true x xs = x ∷ xs
with_front false x xs = xs

-- the entries that pass a test by place and entry, after some others
abbrev pub entries_where : (ℕ → Entry → Bool) → List Entry → List Entry → List Logged
entries_where test before [] = []
entries_where test before (e ∷ es) =
    with_front (test (length before) e) (record { before = before; entry = e })
    (entries_where test (before ++ e ∷ []) es)

-- the entries of these tickets
unfoldable pub own_entries : List ℕ → List Entry → List Logged
own_entries own h = entries_where (λ n e. is_in n own) [] h

-- those of this maker among them
unfoldable pub own_entries_by : Setup → ℕ → List ℕ → List Entry → List Logged
own_entries_by s k own h = entries_where (λ n e. is_in n own && (maker_of s e == k)) [] h

-- all entries of this maker
unfoldable pub entries_by : Setup → ℕ → List Entry → List Logged
entries_by s k h = entries_where (λ n e. maker_of s e == k) [] h

-- these tickets are those of entries that are there, of each of which this holds
pub record Owns (P : Entry → Type 0) (own : List ℕ) (h : List Entry) : Type 0 where
  pub below : (n : ℕ) → is_in n own ≡ true → n < length h
  pub each : (n : ℕ) (e : Entry) → is_in n own ≡ true → slice_get h n ≡ Some e → P e

-- an entry of this task
abbrev pub IsBy : Setup → ℕ → Entry → Type 0
IsBy s t e = maker_of s e ≡ suc t

-- an entry of the cycles, or of one of the first k tasks
abbrev pub IsUpTo : Setup → ℕ → Entry → Type 0
IsUpTo s k e = maker_of s e ≤ k
