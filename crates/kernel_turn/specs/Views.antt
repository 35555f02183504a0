-- The views of permits, and what each step of the lock makes of them. This project's profile.
use Rattle.std.specs.Prelude.{◌≡◌, ℕ, suc, ◌-◌, ◌%◌, ◌^◌, ◌==◌, List, [], ◌∷◌, ◌++◌, length, Bool, true, false, if◌then◌else◌, nat_le, ◌||◌, Option, Some, None}
use Rattle.motion_history.specs.Entries.{Entry}
use Rattle.motion_history.specs.Setup.{Setup}
use Rattle.motion_kernel.specs.KernelState.{KernelState}
use Rattle.kernel_turn.specs.PermitView.{PermitView}

-- a permit that has seen this history and has done nothing yet
abbrev pub new_view : Setup → List Entry → PermitView
new_view s seen = record {
  config = s;
  opening = false;
  seen = seen;
  aside = [];
  own = [];
  hand = None;
  found = None;
  made_stop = false;
  met_stop = false;
  live = true;
  out = 0;
}

-- the opening permit at first
abbrev pub opening_view : Setup → PermitView
opening_view s = record (new_view s []) { opening = true }

-- a configuration without items
abbrev pub no_setup : Setup
no_setup = record {
  axes = [];
  groups = [];
  tables = [];
  tasks = [];
  blocks = [];
  cycles = 0;
  entries = 0;
}

-- what is left of a permit that was joined into another
abbrev pub spent_view : PermitView
spent_view = record (new_view no_setup []) { live = false }

-- it waits for nothing and has no kernel
pub record IsIdle (v : PermitView) : Type 0 where
  pub live : v.live ≡ true
  pub hand : v.hand ≡ None
  pub found : v.found ≡ None

-- the permit with this number in hand
abbrev pub with_number : PermitView → ℕ → PermitView
with_number v n = record v { hand = Some n }

-- the permit that found the kernel so
abbrev pub with_found : PermitView → KernelState → PermitView
with_found v k = record v { found = Some k }

-- the ticket of the entry that was made since the kernel was found, if one was
unfoldable pub ticket_of : Option KernelState → KernelState → List ℕ
ticket_of None k = []
ticket_of (Some f) k =
    if length k.history == length f.history then [] else length f.history ∷ []

-- whether the kernel was found stopped
abbrev pub was_stopped : Option KernelState → Bool
was_stopped None = false
was_stopped (Some f) = f.stopped

-- the permit after it has given the kernel back, stopped by it or not
abbrev pub view_after_turn : Bool → PermitView → KernelState → PermitView
view_after_turn stop v k = record v {
  seen = k.history;
  own = v.own ++ ticket_of v.found k;
  hand = None;
  found = None;
  made_stop = stop || v.made_stop;
  met_stop = v.met_stop || was_stopped v.found;
}

-- the word that serves a number; no word serves none
unfoldable pub word_of : Option ℕ → ℕ
word_of None = 2 ^ 64
word_of (Some n) = n % 2 ^ 64

-- the longer of two histories
unfoldable pub longer : List Entry → List Entry → List Entry
longer a b = if nat_le (length a) (length b) then b else a

-- the opening permit after one more was split from it, and the new one
abbrev pub view_after_split : PermitView → PermitView
view_after_split v = record v { out = suc v.out }

abbrev pub split_view : PermitView → PermitView
split_view v = new_view v.config v.seen

-- a permit that has taken another in, whose history lies aside
abbrev pub view_after_join : PermitView → PermitView → PermitView
view_after_join v w = record v {
  aside = w.seen;
  own = v.own ++ w.own;
  made_stop = v.made_stop || w.made_stop;
  met_stop = v.met_stop || w.met_stop;
  out = v.out - 1;
}

-- the permit that has seen the longer of its two histories
abbrev pub settled_view : PermitView → PermitView
settled_view v = record v { seen = longer v.seen v.aside; aside = [] }
