-- Commands, read from the fields of a header's records. This project's profile.
use Rattle.std.specs.Prelude.{ℕ, ℤ, if◌then◌else◌, Option, Some, None, List, [], ◌∷◌, codes}
use Rattle.command_pool.specs.declared.rates.Rates.{Rates}
use Rattle.command_pool.specs.declared.wanted.Follow.{Follow}
use Rattle.command_pool.specs.declared.wanted.Follow.TheVariants as follow
use Rattle.command_pool.specs.declared.wanted.Wanted.{Wanted}
use Rattle.plc_types.specs.KindNames.{kind_named, mode_named}
use Rattle.line_text.specs.Numbers.{◌>>=◌}
use Rattle.line_text.specs.Texts.{says}
use Rattle.segment_text.specs.reading.Columns.{Front, byte_of, owner_of, target_of, word_of}
use Rattle.trace_columns.specs.Columns.{wide_number_of}

-- the numbers that six fields are
unfoldable pub numbers_of : List ℕ → List ℕ → List ℕ → List ℕ → List ℕ → List ℕ → Option (List ℤ)
numbers_of a b c d e f = do
  u ← wide_number_of a
  v ← wide_number_of b
  w ← wide_number_of c
  x ← wide_number_of d
  y ← wide_number_of e
  z ← wide_number_of f
  Some (u ∷ v ∷ w ∷ x ∷ y ∷ z ∷ [])

-- six numbers
unfoldable pub six_of : List (List ℕ) → Front (List ℤ)
six_of (a ∷ b ∷ c ∷ d ∷ e ∷ f ∷ behind) = do
  numbers ← numbers_of a b c d e f
  Some (numbers, behind)
six_of _ = None

-- Velocity, Acceleration and Deceleration
unfoldable pub rates_of : List (List ℕ) → Front Rates
rates_of (velocity ∷ acceleration ∷ deceleration ∷ behind) = do
  v ← wide_number_of velocity
  a ← wide_number_of acceleration
  d ← wide_number_of deceleration
  Some (record { v = v; a = a; d = d }, behind)
rates_of _ = None

-- a gear: its master, its numerator and its denominator
unfoldable pub gear_of : List ℕ → List ℕ → List ℕ → Option Follow
gear_of master numerator denominator = do
  m ← byte_of master
  n ← wide_number_of numerator
  d ← wide_number_of denominator
  Some (follow.Gear m n d)

-- a cam: its master and the number of its table
unfoldable pub cam_of : List ℕ → List ℕ → Option Follow
cam_of master table = do
  m ← byte_of master
  t ← word_of table
  Some (follow.Cam m t)

-- whom a command follows, if it follows one
unfoldable pub follow_of : List (List ℕ) → Option Follow
follow_of [] = Some follow.None
follow_of (word ∷ master ∷ table ∷ []) =
    if says word (codes "cam") then cam_of master table else None
follow_of (word ∷ master ∷ numerator ∷ denominator ∷ []) =
    if says word (codes "gear") then gear_of master numerator denominator else None
follow_of _ = None

-- a command
unfoldable pub wanted_of : List (List ℕ) → Option Wanted
wanted_of (kind ∷ owner ∷ target ∷ mode ∷ behind) = do
  k ← kind_named kind
  o ← owner_of owner
  t ← target_of target
  m ← mode_named mode
  positions ← six_of behind
  rates ← rates_of positions.1
  f ← follow_of rates.1
  Some (record {
    kind = k;
    owner = o;
    target = t;
    targets = positions.0;
    rates = rates.0;
    mode = m;
    follow = f;
  })
wanted_of _ = None

-- the active command, if there is one
unfoldable pub active_of : List (List ℕ) → Option (Option Wanted)
active_of [] = Some None
active_of (first ∷ fields) = do
  w ← wanted_of (first ∷ fields)
  Some (Some w)
