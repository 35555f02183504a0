-- Which texts are verified as trace segments. This project's profile.
use Rattle.std.specs.Prelude.{ℕ, Bool, List, codes, nat_eq}
use Rattle.std.specs.List.{starts_with}

-- a text begins as a trace segment does: with the kind of the first record of its header, and a
-- comma
unfoldable pub begins_as_trace_segment : List ℕ → Bool
begins_as_trace_segment text = starts_with nat_eq text (codes "segment,")
