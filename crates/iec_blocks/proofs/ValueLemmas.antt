-- ET and CV are within their bounds.
-- for: replies_hold_their_types
use Rattle.std.proofs.Common.{ℕ, ◌≤◌, min, Bool, true, false, List, ◌∷◌, Option, None, Some, arith}
use Rattle.std.proofs.lemmas.Int.{ints}
use Rattle.std.specs.Prelude.{pos, ◌≤ℤ◌, if◌then◌else◌}
use Rattle.iec_tree.specs.declared.standard.Standard.{Standard}
use Rattle.iec_tree.specs.declared.standard.Standard.TheVariants.{Ton, Tof, Tp, RTrig, FTrig, Ctu, Sr, Rs}
use Rattle.iec_blocks.specs.Blocks.{reply_of}
use Rattle.iec_blocks.specs.Laws.{most_value}
use Rattle.iec_blocks.specs.Timers.{elapsed_of, preset_of}
use Rattle.iec_blocks.specs.declared.call.Call.{Call}

elapsed-most : (begin : Option ℕ) (call : Call) → elapsed_of begin call ≤ preset_of call
unfolding elapsed_of
elapsed-most None call = omega arith
elapsed-most (Some begin) call = omega arith

-- where a number is shown or 0
shown-least : (shown : Bool) (n : ℕ) → pos 0 ≤ℤ (if shown then pos n else pos 0)
shown-least true n = omega (arith, ints)
shown-least false n = omega (arith, ints)

shown-most : (shown : Bool) (n most : ℕ) → n ≤ most → (if shown then pos n else pos 0) ≤ℤ pos most
shown-most true n most h = omega (arith, ints)
shown-most false n most h = omega (arith, ints)

count-least : (n : ℕ) → pos 0 ≤ℤ pos n
count-least n = omega (arith, ints)

count-most : (n : ℕ) → pos (min n 32767) ≤ℤ pos 32767
count-most n = omega (arith, ints)

-- no value is below 0
pub least : (s : Standard) (call : Call) (earlier : List Call) →
    pos 0 ≤ℤ (reply_of s (call ∷ earlier)).value
least Ton call earlier = shown-least _ _
least Tof call earlier = shown-least _ _
least Tp call earlier = shown-least _ _
least RTrig call earlier = count-least 0
least FTrig call earlier = count-least 0
least Ctu call earlier = count-least _
least Sr call earlier = count-least 0
least Rs call earlier = count-least 0

-- none is above its bound
pub most : (s : Standard) (call : Call) (earlier : List Call) →
    (reply_of s (call ∷ earlier)).value ≤ℤ pos (most_value s call)
most Ton call earlier = shown-most _ _ _ (elapsed-most _ call)
most Tof call earlier = shown-most _ _ _ (elapsed-most _ call)
most Tp call earlier = shown-most _ _ _ (elapsed-most _ call)
most RTrig call earlier = count-least 0
most FTrig call earlier = count-least 0
most Ctu call earlier = count-most _
most Sr call earlier = count-least 0
most Rs call earlier = count-least 0
