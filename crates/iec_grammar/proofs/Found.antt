-- A reader that has not stopped at the tokens' end has found their reading.
-- for: read_tree
use Rattle.std.proofs.Common.{◌≡◌, ◌∙◌, ℕ, List, [], ◌∷◌, ◌++◌, Bool, true, false, Some, None, refl, sym, ap, append_assoc}
use Rattle.std.specs.Prelude.{Ok, Err, Result}
use Rattle.iec_grammar.specs.Counts.{counted}
use Rattle.iec_grammar.specs.Lines.{Line, takes, passes, refuses, misnamed}
use Rattle.iec_grammar.specs.Reading.{Stand, advanced, ended, led_by, run, stopped, taken_if}
use Rattle.iec_grammar.specs.Readings.{IsRead, at, node}
use Rattle.iec_grammar.specs.Readings as read
use Rattle.iec_grammar.specs.Table.{row_of}
use Rattle.iec_grammar.specs.declared.counts.Counts.{Counts}
use Rattle.iec_grammar.specs.declared.item.Item.{Item}
use Rattle.iec_grammar.specs.declared.item.Item.TheVariants as item
use Rattle.iec_grammar.proofs.Leads.{from, goes_on}
use Rattle.iec_grammar.proofs.Runs.{stays}
use Rattle.iec_tokens.specs.Ended.{EndsBy, IsEnded, is_last}
use Rattle.iec_tokens.specs.declared.token.Placed.{Placed}
use Rattle.iec_tokens.specs.declared.token.Token.{Token}
use Rattle.iec_tokens.specs.declared.token.Token.TheVariants as token
use Rattle.iec_tree.specs.declared.node.Node.{Node}
use Rattle.iec_tree.specs.declared.node.Part.{Part}

-- a line takes its token
abbrev is_taken : Line → Bool
is_taken (takes part more) = true
is_taken _ = false

no_end : (i : Item) → is_taken (row_of i token.End) ≡ false
unfolding row_of
no_end item.File = refl
no_end _ = refl

no_wrong : (i : Item) → is_taken (row_of i token.Wrong) ≡ false
unfolding row_of
no_wrong item.File = refl
no_wrong _ = refl

no_many : (i : Item) → is_taken (row_of i token.TooMany) ≡ false
unfolding row_of
no_many item.File = refl
no_many _ = refl

-- no line takes what is the last of the tokens
no_last : (i : Item) (t : Token) → is_last t ≡ true → is_taken (row_of i t) ≡ false
no_last i token.End h = no_end i
no_last i token.Wrong h = no_wrong i
no_last i token.TooMany h = no_many i
no_last i (token.Name n) h = absurd (cc)
no_last i (token.Word w) h = absurd (cc)
no_last i (token.Number n) h = absurd (cc)
no_last i (token.Sign s) h = absurd (cc)

-- the reading that was found
pub record Found (items : List Item) (s : Stand) (tokens : List Placed) : Type 0 where
  pub nodes : List Node
  pub is : IsRead items s.counts tokens nodes
  pub all : (from items s tokens).nodes ≡ s.nodes ++ nodes

-- what is found from wherever a reader stands
abbrev pub Finds : List Placed → Type 0
Finds tokens = (items : List Item) (s : Stand) → IsEnded tokens → s.refused ≡ None → (from items s tokens).refused ≡ None → Found items s tokens

-- a reader that has stopped does not come to the end
not_free : (s : Stand) (line rule : ℕ) (tokens : List Placed) → (run (stopped line rule s) tokens).refused ≡ None → ⊥
not_free s line rule tokens h =
    let still : run (stopped line rule s) tokens ≡ stopped line rule s = stays (stopped line rule s) tokens refl in
    let e : (stopped line rule s).refused ≡ None = sym (ap (λ (x : Stand). x.refused) still) ∙ h in
    absurd (cc)

not_last : (i : Item) (t : Token) (b : Bool) → is_last t ≡ b → is_taken (row_of i t) ≡ true → b ≡ false
not_last i t true e taken = let no : is_taken (row_of i t) ≡ false = no_last i t e in absurd (cc)
not_last i t false e taken = refl

ended_rest : (b : Bool) (tokens : List Placed) (rest : Type 0) → b ≡ false → EndsBy b tokens rest → rest
ended_rest true tokens rest e h = absurd (cc)
ended_rest false tokens rest e h = h

rest_ended : (i : Item) (t : Token) (line : ℕ) (tokens : List Placed) → is_taken (row_of i t) ≡ true → IsEnded (at t line ∷ tokens) → IsEnded tokens
rest_ended i t line tokens taken h = ended_rest (is_last t) tokens (IsEnded tokens) (not_last i t (is_last t) refl taken) h

at_end : (t : Token) (line : ℕ) (tokens : List Placed) (s : Stand) → IsEnded (at t line ∷ tokens) →
    (run (ended t line (record s { expected = [] })) tokens).refused ≡ None → Found [] s (at t line ∷ tokens)
at_end token.End line [] s e h = record { nodes = node Rattle.iec_tree.specs.declared.node.Part.TheVariants.End line ∷ []; is = read.ends; all = refl }
at_end token.End line (q ∷ tokens) s e h = absurd (cc)
at_end token.Wrong line tokens s e h = absurd (not_free (record s { expected = [] }) _ _ tokens h)
at_end token.TooMany line tokens s e h = absurd (not_free (record s { expected = [] }) _ _ tokens h)
at_end (token.Name n) line tokens s e h = absurd (not_free (record s { expected = [] }) _ _ tokens h)
at_end (token.Word w) line tokens s e h = absurd (not_free (record s { expected = [] }) _ _ tokens h)
at_end (token.Number n) line tokens s e h = absurd (not_free (record s { expected = [] }) _ _ tokens h)
at_end (token.Sign g) line tokens s e h = absurd (not_free (record s { expected = [] }) _ _ tokens h)

-- a token is taken as a part
counts_on : (i : Item) (items more : List Item) (t : Token) (line : ℕ) (tokens : List Placed) (s : Stand) (p : Part) (o : Result Counts ℕ) →
    row_of i t ≡ takes (Some p) more → counted s.counts p line ≡ o → IsEnded (at t line ∷ tokens) → s.refused ≡ None → Finds tokens →
    (run (taken_if o p line (record s { expected = more ++ items })) tokens).refused ≡ None →
    (from (i ∷ items) s (at t line ∷ tokens)) ≡ run (taken_if o p line (record s { expected = more ++ items })) tokens → Found (i ∷ items) s (at t line ∷ tokens)
counts_on i items more t line tokens s p (Err l) row count e free finds h same = absurd (not_free (record s { expected = more ++ items }) l 6 tokens h)
counts_on i items more t line tokens s p (Ok d) row count e free finds h same =
    let z : Stand = record s { expected = more ++ items; counts = d; nodes = s.nodes ++ node p line ∷ [] } in
    let on : run z tokens ≡ from (more ++ items) z tokens = goes_on z tokens free in
    let f : Found (more ++ items) z tokens = finds (more ++ items) z (rest_ended i t line tokens (ap is_taken row) e) free (rw (sym on) h) in
    record {
      nodes = node p line ∷ f.nodes;
      is = read.takes_as row count f.is;
      all = ap (λ (x : Stand). x.nodes) (same ∙ on) ∙ f.all ∙ append_assoc s.nodes (node p line ∷ []) f.nodes;
    }

-- a token where an item is expected
by_line : (line_of_table : Line) (i : Item) (items : List Item) (t : Token) (line : ℕ) (tokens : List Placed) (s : Stand) →
    row_of i t ≡ line_of_table → IsEnded (at t line ∷ tokens) → s.refused ≡ None → Finds tokens →
    ((u : Stand) → u.refused ≡ None → (run (advanced (at t line) items u) tokens).refused ≡ None → Found items u (at t line ∷ tokens)) →
    (run (led_by line_of_table (at t line) (record s { expected = items }) (advanced (at t line) items)) tokens).refused ≡ None →
    Found (i ∷ items) s (at t line ∷ tokens)
by_line refuses i items t line tokens s row e free finds next h = absurd (not_free (record s { expected = items }) _ _ tokens h)
by_line misnamed i items t line tokens s row e free finds next h = absurd (not_free (record s { expected = items }) _ _ tokens h)
by_line (takes None more) i items t line tokens s row e free finds next h =
    let z : Stand = record s { expected = more ++ items } in
    let on : run z tokens ≡ from (more ++ items) z tokens = goes_on z tokens free in
    let same : from (i ∷ items) s (at t line ∷ tokens) ≡ run z tokens =
    λ k. run (led_by (row k) (at t line) (record s { expected = items }) (advanced (at t line) items)) tokens in
    let f : Found (more ++ items) z tokens = finds (more ++ items) z (rest_ended i t line tokens (ap is_taken row) e) free (rw (sym on) h) in
    record { nodes = f.nodes; is = read.skips row f.is; all = ap (λ (x : Stand). x.nodes) (same ∙ on) ∙ f.all }
by_line (takes (Some p) more) i items t line tokens s row e free finds next h =
    counts_on i items more t line tokens s p (counted s.counts p line) row refl e free finds h
    (λ k. run (led_by (row k) (at t line) (record s { expected = items }) (advanced (at t line) items)) tokens)
by_line (passes None) i items t line tokens s row e free finds next h =
    let z : Stand = record s { expected = items } in
    let same : from (i ∷ items) s (at t line ∷ tokens) ≡ from items z (at t line ∷ tokens) =
    λ k. run (led_by (row k) (at t line) z (advanced (at t line) items)) tokens in
    let f : Found items z (at t line ∷ tokens) = next z free h in
    record { nodes = f.nodes; is = read.leaves row f.is; all = ap (λ (x : Stand). x.nodes) same ∙ f.all }
by_line (passes (Some p)) i items t line tokens s row e free finds next h =
    let x : Stand = record s { expected = items } in
    let z : Stand = record x { nodes = s.nodes ++ node p line ∷ [] } in
    let same : from (i ∷ items) s (at t line ∷ tokens) ≡ from items z (at t line ∷ tokens) =
    λ k. run (led_by (row k) (at t line) x (advanced (at t line) items)) tokens in
    let f : Found items z (at t line ∷ tokens) = next z free h in
    record {
      nodes = node p line ∷ f.nodes;
      is = read.ends_as row f.is;
      all = ap (λ (y : Stand). y.nodes) same ∙ f.all ∙ append_assoc s.nodes (node p line ∷ []) f.nodes;
    }

by_items : (items : List Item) (t : Token) (line : ℕ) (tokens : List Placed) (s : Stand) → IsEnded (at t line ∷ tokens) → s.refused ≡ None → Finds tokens →
    (run (advanced (at t line) items s) tokens).refused ≡ None → Found items s (at t line ∷ tokens)
by_items [] t line tokens s e free finds h = at_end t line tokens s e h
by_items (i ∷ items) t line tokens s e free finds h =
    by_line (row_of i t) i items t line tokens s refl e free finds (λ u f g. by_items items t line tokens u e f finds g) h

pub finds : (tokens : List Placed) → Finds tokens
finds [] = λ items s e free h. absurd e
finds (p ∷ tokens) = λ items s e free h. by_items items p.token p.line tokens s e free (finds tokens) h
