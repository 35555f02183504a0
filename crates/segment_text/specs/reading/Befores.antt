-- What was before a trace segment, read from the first line of its header. This project's profile.
use Rattle.std.specs.Prelude.{ℕ, ◌&&◌, if◌then◌else◌, Option, Some, None, List, [], ◌∷◌, codes}
use Rattle.line_text.specs.Numbers.{◌>>=◌}
use Rattle.line_text.specs.Texts.{says}
use Rattle.motion_kernel.specs.declared.segment.Before.{Before}
use Rattle.segment_text.specs.reading.Columns.{count_of}

-- how many segments, entries and cycles were before
unfoldable pub counts_of : List ℕ → List ℕ → List ℕ → Option Before
counts_of segments entries cycles = do
  b ← count_of segments
  e ← count_of entries
  c ← count_of cycles
  Some (record { segments = b; entries = e; cycles = c })

-- what was before a trace segment of version 1
unfoldable pub before_of : List (List ℕ) → Option Before
before_of (word ∷ version ∷ segments ∷ entries ∷ cycles ∷ []) =
    if says word (codes "segment") && says version (codes "1") then counts_of segments entries cycles
    else None
before_of _ = None
