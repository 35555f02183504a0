-- What a text is read as, by its tokens. This project's profile.
use Rattle.std.specs.Prelude.{ℕ, if◌then◌else◌, Option, Some, None, is_some, Result, Ok, Err, List, [], ◌∷◌, ◌++◌}
use Rattle.iec_grammar.specs.Counts.{counted, none_counted}
use Rattle.iec_grammar.specs.Lines.{Line, takes, passes, refuses, misnamed}
use Rattle.iec_grammar.specs.Table.{row_of}
use Rattle.iec_grammar.specs.declared.counts.Counts.{Counts}
use Rattle.iec_grammar.specs.declared.item.Item.{Item}
use Rattle.iec_grammar.specs.declared.item.Item.TheVariants.{File}
use Rattle.iec_tokens.specs.Tokens.{tokens_of}
use Rattle.iec_tokens.specs.declared.token.Placed.{Placed}
use Rattle.iec_tokens.specs.declared.token.Token.{Token}
use Rattle.iec_tokens.specs.declared.token.Token.TheVariants.{End, TooMany, Wrong}
use Rattle.iec_tree.specs.declared.node.Node.{Node}
use Rattle.iec_tree.specs.declared.node.Part.{Part}
use Rattle.iec_tree.specs.declared.node.Part.TheVariants as part
use Rattle.line_text.specs.declared.reader.LineRefused.{LineRefused}

-- where a reader stands: what it expects, the nearest first; what is counted; the nodes so far; and
-- by what it has stopped
pub record Stand : Type 0 where
  pub expected : List Item
  pub counts : Counts
  pub nodes : List Node
  pub refused : Option LineRefused

-- the rule that a token breaks which doesn't fit
abbrev pub rule_of : Token → ℕ
rule_of Wrong = 1
rule_of TooMany = 6
rule_of _ = 2

-- the reader has stopped, by a rule that this line breaks
abbrev pub stopped : ℕ → ℕ → Stand → Stand
stopped line rule s = record s { refused = Some (record { line = line; rule = rule }) }

-- one more node
abbrev pub with_node : Part → ℕ → Stand → Stand
with_node p line s = record s { nodes = s.nodes ++ record { part = p; line = line } ∷ [] }

-- an item has ended as this part, where it is one
abbrev pub passed : Option Part → ℕ → Stand → Stand
passed None line s = s
passed (Some p) line s = with_node p line s

-- a token is taken as this part, if no bound is broken
abbrev pub taken_if : Result Counts ℕ → Part → ℕ → Stand → Stand
taken_if (Ok counts) p line s = with_node p line (record s { counts = counts })
taken_if (Err broken) p line s = stopped broken 6 s

-- a token is taken as this part, where it is one
abbrev pub taken : Option Part → ℕ → Stand → Stand
taken None line s = s
taken (Some p) line s = taken_if (counted s.counts p line) p line s

-- what a line of the table does with a token, and where the items behind lead it to
abbrev pub led_by : Line → Placed → Stand → (Stand → Stand) → Stand
led_by (takes part more) p s next =
    taken part p.line (record s { expected = more ++ s.expected })
led_by (passes part) p s next = next (passed part p.line s)
led_by refuses p s next = stopped p.line (rule_of p.token) s
led_by misnamed p s next = stopped s.counts.begun 2 s

-- a token where nothing more is expected: the text ends, or it doesn't fit
abbrev pub ended : Token → ℕ → Stand → Stand
ended End line s = with_node part.End line s
ended t line s = stopped line (rule_of t) s

-- a token where these items are expected
abbrev pub advanced : Placed → List Item → Stand → Stand
advanced p [] s = ended p.token p.line (record s { expected = [] })
advanced p (item ∷ items) s =
    led_by (row_of item p.token) p (record s { expected = items }) (advanced p items)

-- where a token leads a reader to, which hasn't stopped
unfoldable pub step : Stand → Placed → Stand
step s p = if is_some s.refused then s else advanced p s.expected s

-- where tokens lead to, one after another
abbrev pub run : Stand → List Placed → Stand
run s [] = s
run s (p ∷ tokens) = run (step s p) tokens

-- a reader that expects a file
unfoldable pub opening : Stand
opening = record { expected = File ∷ []; counts = none_counted; nodes = []; refused = None }

-- what a text is read as: its nodes, up to the first line that breaks a rule where one does, and
-- the first rule that it breaks
pub record Outcome : Type 0 where
  pub nodes : List Node
  pub refused : Option LineRefused

abbrev pub outcome_of : Stand → Outcome
outcome_of s = record { nodes = s.nodes; refused = s.refused }

unfoldable pub reading_of : List ℕ → Outcome
reading_of text = outcome_of (run opening (tokens_of text))
