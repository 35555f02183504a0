-- What is read of a text is its tree exactly where nothing is refused.
-- for: read_tree
use Rattle.std.proofs.Common.{◌≡◌, ◌∙◌, ℕ, List, [], ◌∷◌, ◌++◌, None, refl, sym, ap}
use Rattle.iec_grammar.specs.Reading.{Outcome, Stand, opening, outcome_of, reading_of, run}
use Rattle.iec_grammar.specs.Readings.{IsExact, IsRead}
use Rattle.iec_grammar.specs.declared.item.Item.{Item}
use Rattle.iec_grammar.specs.declared.item.Item.TheVariants as item
use Rattle.iec_grammar.proofs.Found.{Found, finds}
use Rattle.iec_grammar.proofs.Leads.{Reaches, from, goes_on, leads}
use Rattle.iec_tokens.specs.Ended.{IsEnded}
use Rattle.iec_tokens.specs.Tokens.{tokens_of}
use Rattle.iec_tokens.specs.declared.token.Placed.{Placed}
use Rattle.iec_tree.specs.declared.node.Node.{Node}

at_last : (s : Stand) (items : List Item) (tokens : List Placed) (nodes : List Node) → s.refused ≡ None → s.expected ≡ items → s.nodes ≡ [] → IsRead items s.counts tokens nodes →
    ((run s tokens).refused ≡ None) × ((run s tokens).nodes ≡ nodes)
at_last s items tokens nodes free is none h =
    let on : run s tokens ≡ from items s tokens = goes_on s tokens free ∙ (λ i. from (is i) s tokens) in
    let r : Reaches s nodes (from items s tokens) = leads h s free refl in
    (ap (λ (x : Stand). x.refused) on ∙ r.free, ap (λ (x : Stand). x.nodes) on ∙ r.more ∙ ap (λ ns. ns ++ nodes) none)

at_first : (s : Stand) (items : List Item) (tokens : List Placed) (nodes : List Node) → IsEnded tokens → s.refused ≡ None → s.expected ≡ items → s.nodes ≡ [] →
    (run s tokens).refused ≡ None → (run s tokens).nodes ≡ nodes → IsRead items s.counts tokens nodes
at_first s items tokens nodes e free is none h same =
    let on : run s tokens ≡ from items s tokens = goes_on s tokens free ∙ (λ i. from (is i) s tokens) in
    let f : Found items s tokens = finds tokens items s e free (ap (λ (x : Stand). x.refused) (sym on) ∙ h) in
    let these : f.nodes ≡ nodes = sym (ap (λ (x : Stand). x.nodes) on ∙ f.all ∙ ap (λ ns. ns ++ f.nodes) none) ∙ same in
    rw (sym these) f.is

pub exact_of : (text : List ℕ) (o : Outcome) → o ≡ reading_of text → IsEnded (tokens_of text) → IsExact text o
unfolding reading_of opening
exact_of text o is e = λ nodes. (
  (λ h. rw is (at_last opening (item.File ∷ []) (tokens_of text) nodes refl refl refl h)),
  (λ h. let same : o ≡ outcome_of (run opening (tokens_of text)) = is in
      at_first opening (item.File ∷ []) (tokens_of text) nodes e refl refl refl (sym (ap (λ (x : Outcome). x.refused) same) ∙ h.0) (sym (ap (λ (x : Outcome). x.nodes) same) ∙ h.1)),
)
