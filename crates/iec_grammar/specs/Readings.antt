-- What it is to read tokens by the grammar, apart from how a reader goes on. IEC 61131-3, in this
-- project's profile.
use Rattle.std.specs.Prelude.{◌≡◌, ◌↔◌, ℕ, Some, None, Ok, List, [], ◌∷◌, ◌++◌}
use Rattle.iec_grammar.specs.Counts.{counted, none_counted}
use Rattle.iec_grammar.specs.Lines.{takes, passes}
use Rattle.iec_grammar.specs.Reading.{Outcome}
use Rattle.iec_grammar.specs.Table.{row_of}
use Rattle.iec_grammar.specs.declared.counts.Counts.{Counts}
use Rattle.iec_grammar.specs.declared.item.Item.{Item}
use Rattle.iec_grammar.specs.declared.item.Item.TheVariants.{File}
use Rattle.iec_tokens.specs.Tokens.{tokens_of}
use Rattle.iec_tokens.specs.declared.token.Placed.{Placed}
use Rattle.iec_tokens.specs.declared.token.Token.{Token}
use Rattle.iec_tokens.specs.declared.token.Token.TheVariants.{End}
use Rattle.iec_tree.specs.declared.node.Node.{Node}
use Rattle.iec_tree.specs.declared.node.Part.{Part}
use Rattle.iec_tree.specs.declared.node.Part.TheVariants as part

-- a token in a line
abbrev pub at : Token → ℕ → Placed
at t line = record { token = t; line = line }

-- a node of a line
abbrev pub node : Part → ℕ → Node
node p line = record { part = p; line = line }

-- these items stand for these tokens, up to the text's end, and the tokens are read as these nodes,
-- where so much is counted before them
pub data IsRead : List Item → Counts → List Placed → List Node → Type 0 where
  -- the text ends, and nothing more is expected
  ends : {c : Counts} {line : ℕ} → IsRead [] c (at End line ∷ []) (node part.End line ∷ [])
  -- the first token is taken, and says nothing by itself
  skips : {item : Item} {items more : List Item} {c : Counts} {t : Token} {line : ℕ}
      {tokens : List Placed} {nodes : List Node} → row_of item t ≡ takes None more →
      IsRead (more ++ items) c tokens nodes → IsRead (item ∷ items) c (at t line ∷ tokens) nodes
  -- it is taken as a part, and no bound is broken
  takes_as : {item : Item} {items more : List Item} {c d : Counts} {t : Token} {line : ℕ}
      {tokens : List Placed} {nodes : List Node} {p : Part} → row_of item t ≡ takes (Some p) more →
      counted c p line ≡ Ok d → IsRead (more ++ items) d tokens nodes →
      IsRead (item ∷ items) c (at t line ∷ tokens) (node p line ∷ nodes)
  -- the first item ends in front of the token
  leaves : {item : Item} {items : List Item} {c : Counts} {t : Token} {line : ℕ}
      {tokens : List Placed} {nodes : List Node} → row_of item t ≡ passes None →
      IsRead items c (at t line ∷ tokens) nodes → IsRead (item ∷ items) c (at t line ∷ tokens) nodes
  -- it ends there as a part
  ends_as : {item : Item} {items : List Item} {c : Counts} {t : Token} {line : ℕ}
      {tokens : List Placed} {nodes : List Node} {p : Part} → row_of item t ≡ passes (Some p) →
      IsRead items c (at t line ∷ tokens) nodes →
      IsRead (item ∷ items) c (at t line ∷ tokens) (node p line ∷ nodes)

-- a text is one of the grammar, and these are the nodes of its tree
abbrev pub IsTreeOf : List ℕ → List Node → Type 0
IsTreeOf text nodes = IsRead (File ∷ []) none_counted (tokens_of text) nodes

-- nothing is refused exactly where a text has a tree, and then its nodes are those that are read
abbrev pub IsExact : List ℕ → Outcome → Type 0
IsExact text o = (nodes : List Node) →
    IsTreeOf text nodes ↔ ((o.refused ≡ None) × (o.nodes ≡ nodes))

-- tokens begin those of a text of the grammar
pub record BeginsText (front : List Placed) : Type 0 where
  pub more : List Placed
  pub nodes : List Node
  pub is : IsRead (File ∷ []) none_counted (front ++ more) nodes
