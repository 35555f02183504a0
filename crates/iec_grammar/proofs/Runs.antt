-- Where tokens lead a reader: an item that ends leads on, and one that has stopped stands still.
-- for: read_tree, faults_are_final
use Rattle.std.proofs.Common.{◌≡◌, ◌∙◌, ℕ, true, List, [], ◌∷◌, Option, Some, None, refl, sym, ap, drop, slice_get}
use Rattle.std.specs.Prelude.{is_some}
use Rattle.iec_grammar.specs.Lines.{passes}
use Rattle.iec_grammar.specs.Reading.{Stand, advanced, led_by, passed, run, step}
use Rattle.iec_grammar.specs.Table.{row_of}
use Rattle.iec_grammar.specs.declared.item.Item.{Item}
use Rattle.iec_tokens.specs.declared.token.Placed.{Placed}
use Rattle.iec_tree.specs.declared.node.Part.{Part}

kept : (part : Option Part) (line : ℕ) (s : Stand) → (passed part line s).expected ≡ s.expected
kept None line s = refl
kept (Some p) line s = refl

-- an item ends in front of a token
pub passes_on : (p : Placed) (item : Item) (items : List Item) (s new before : Stand) (part : Option Part) →
    s.expected ≡ item ∷ items → row_of item p.token ≡ passes part → new ≡ passed part p.line (record s { expected = items }) →
    advanced p s.expected s ≡ before → advanced p new.expected new ≡ before
passes_on p item items s new before part e row is h =
    let z : Stand = record s { expected = items } in
    let there : new.expected ≡ items = ap (λ (t : Stand). t.expected) is ∙ kept part p.line z in
    let same : advanced p new.expected new ≡ advanced p items (passed part p.line z) = λ i. advanced p (there i) (is i) in
    let led : advanced p (item ∷ items) s ≡ advanced p items (passed part p.line z) = λ i. led_by (row i) p z (advanced p items) in
    same ∙ sym led ∙ sym (λ i. advanced p (e i) s) ∙ h

-- one that has stopped
pub stays : (s : Stand) (tokens : List Placed) → is_some s.refused ≡ true → run s tokens ≡ s
unfolding step
stays s [] stop = refl
stays s (p ∷ tokens) stop =
    let still : step s p ≡ s = rw stop refl in
    ap (λ t. run t tokens) still ∙ stays s tokens stop

first_leads : (s : Stand) (p : Placed) (tokens : List Placed) → slice_get tokens 0 ≡ Some p → run s tokens ≡ run (step s p) (drop 1 tokens)
first_leads s p [] is = absurd (cc)
first_leads s p (q ∷ tokens) is =
    let same : q ≡ p = cc in
    ap (λ x. run (step s x) tokens) same

-- the first token stops a reader
pub stopped_early : (s new all : Stand) (p : Placed) (tokens : List Placed) → slice_get tokens 0 ≡ Some p → new ≡ step s p →
    is_some new.refused ≡ true → run s tokens ≡ all → new ≡ all
stopped_early s new all p tokens first is stop h =
    sym (stays new (drop 1 tokens) stop) ∙ ap (λ t. run t (drop 1 tokens)) is ∙ sym (first_leads s p tokens first) ∙ h
