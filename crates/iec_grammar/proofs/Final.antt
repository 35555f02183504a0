-- A reader that has stopped stays so, whatever follows.
-- for: faults_are_final
use Rattle.std.proofs.Common.{◌≡◌, ◌∙◌, List, [], ◌∷◌, ◌++◌, Option, Some, None, refl, sym, ap}
use Rattle.iec_grammar.specs.Reading.{Stand, opening, run, step}
use Rattle.iec_grammar.specs.Readings.{BeginsText, IsRead}
use Rattle.iec_grammar.specs.declared.item.Item.TheVariants as item
use Rattle.iec_grammar.proofs.Leads.{Reaches, from, goes_on, leads}
use Rattle.iec_grammar.proofs.Runs.{stays}
use Rattle.iec_tokens.specs.declared.token.Placed.{Placed}
use Rattle.iec_tree.specs.declared.node.Node.{Node}
use Rattle.line_text.specs.declared.reader.LineRefused.{LineRefused}

run_both : (s : Stand) (front more : List Placed) → run s (front ++ more) ≡ run (run s front) more
run_both s [] more = refl
run_both s (p ∷ front) more = run_both (step s p) front more

free_before : (s : Stand) (o : Option LineRefused) (more : List Placed) → s.refused ≡ o → (run s more).refused ≡ None → s.refused ≡ None
free_before s None more e h = e
free_before s (Some f) more e h =
    let still : run s more ≡ s = stays s more (rw e refl) in
    let none : Some f ≡ None = sym e ∙ sym (ap (λ (x : Stand). x.refused) still) ∙ h in
    absurd (cc)

at_first : (s : Stand) (front more : List Placed) (nodes : List Node) → s.refused ≡ None → s.expected ≡ item.File ∷ [] →
    IsRead (item.File ∷ []) s.counts (front ++ more) nodes → (run s front).refused ≡ None
at_first s front more nodes free is h =
    let on : run s (front ++ more) ≡ from (item.File ∷ []) s (front ++ more) = goes_on s (front ++ more) free ∙ (λ i. from (is i) s (front ++ more)) in
    let r : Reaches s nodes (from (item.File ∷ []) s (front ++ more)) = leads h s free refl in
    let e : (run (run s front) more).refused ≡ None = ap (λ (x : Stand). x.refused) (sym (run_both s front more) ∙ on) ∙ r.free in
    free_before (run s front) (run s front).refused more refl e

pub final : (front : List Placed) → BeginsText front → (run opening front).refused ≡ None
unfolding opening
final front b = at_first opening front b.more b.nodes refl refl b.is
