-- Where a text breaks no rule, what is read of it is of trees.
-- for: crates above
use Rattle.std.proofs.Common.{◌≡◌, ℕ, Bool, true, false, Option, Some, None, List, [], ◌∷◌, ◌++◌, length, refl, sym, subst, ap, ◌∙◌, arith}
use Rattle.std.specs.Prelude.{if◌then◌else◌, is_none}
use Rattle.std.specs.Option.{option_and_then}
use Rattle.motion_history.specs.Faults.{whole_fault}
use Rattle.motion_history.specs.Setup.{Setup}
use Rattle.st_check.proofs.FitNotes.{noted_fits}
use Rattle.st_check.proofs.Fitting.{Fitting, said}
use Rattle.st_check.specs.Going.{begun}
use Rattle.st_check.proofs.Notes.{end_is, noted_told}
use Rattle.st_check.proofs.Rows.{Keeps, KeepsBy, follow, follows, note_leads, row_keeps}
use Rattle.st_check.proofs.Runs.{run_append}
use Rattle.st_check.proofs.Tells.{Quiet, Shaped, Tells, broken_false}
use Rattle.st_check.specs.Checked.{Checked, broken_unless}
use Rattle.st_check.specs.Declarations.{end}
use Rattle.st_check.specs.Noted.{noted}
use Rattle.st_check.specs.Reading.{Stand, advanced, counted, cut_off, is_too_many, led_by, opening, opening_checked, refused, rule_of, run, step}
use Rattle.st_grammar.specs.Lines.{Line, takes, passes, refuses}
use Rattle.st_grammar.specs.Table.{row_of}
use Rattle.st_grammar.specs.declared.item.Item.{Item}
use Rattle.st_grammar.specs.declared.item.Item.TheVariants as item
use Rattle.st_grammar.specs.declared.note.Note.{Note}
use Rattle.st_grammar.specs.declared.note.Note.TheVariants as note
use Rattle.st_tree.specs.Places.{Outside, Place}
use Rattle.st_tokens.specs.Tokens.{Placed, last_line_from, tokens_from, tokens_of}
use Rattle.st_tokens.specs.declared.token.Token.TheVariants.{End}

-- what is read leads to a place from which the items that are expected lead to the end
record Leading (items : List Item) (c : Checked) : Type 0 where
  place : Place
  shaped : Shaped place c
  fitting : Fitting place (said c)
  leads : follows items place ≡ Some Outside

-- a reader that has broken no rule goes on so, and has the axes of the machine that it began with
record Kept (first : Setup) (s : Stand) : Type 0 where
  going : s.stopped ≡ true → s.checked.fault ≡ None → ⊥
  leading : s.checked.fault ≡ None → Leading s.expected s.checked
  axes : s.checked.setup.axes ≡ first.axes

follows_then : (o : Option Place) (a b : List Item) → ((q : Place) → follows (a ++ b) q ≡ option_and_then (λ r. follows b r) (follows a q)) →
    option_and_then (λ q. follows (a ++ b) q) o ≡ option_and_then (λ r. follows b r) (option_and_then (λ q. follows a q) o)
follows_then None a b h = refl
follows_then (Some q) a b h = h q

follows_both : (a b : List Item) (p : Place) → follows (a ++ b) p ≡ option_and_then (λ q. follows b q) (follows a p)
follows_both [] b p = refl
follows_both (i ∷ a) b p = follows_then (follow i p) a b (λ q. follows_both a b q)

-- a note after which items are expected in an item's place
took : (n : Note) (more items : List Item) (line : ℕ) (c : Checked) (place : Place) (o : Option Place) (mid : Option Place) →
    note_leads n place ≡ mid → KeepsBy o place (takes n more) → option_and_then (λ q. follows items q) o ≡ Some Outside →
    (noted line n c).fault ≡ None → Shaped place c → Fitting place (said c) → Leading (more ++ items) (noted line n c)
took n more items line c place None mid at keeps leads h s t = absurd (cc)
took n more items line c place (Some next) None at keeps leads h s t =
    let clash : option_and_then (λ q. follows more q) (note_leads n place) ≡ None = ap (option_and_then (λ q. follows more q)) at in
    absurd (cc)
took n more items line c place (Some next) (Some q) at keeps leads h s t =
    let on : follows more q ≡ Some next = sym (ap (option_and_then (λ r. follows more r)) at) ∙ keeps in
    record {
      place = q;
      shaped = (noted_told line n c).shaped h place q at s;
      fitting = (noted_fits line n c).go h place q at t;
      leads = follows_both more items q ∙ ap (option_and_then (λ r. follows items r)) on ∙ leads;
    }

-- a note after which an item has ended
passed : (n : Note) (items : List Item) (line : ℕ) (c : Checked) (place : Place) (o : Option Place) →
    KeepsBy o place (passes n) → option_and_then (λ q. follows items q) o ≡ Some Outside →
    (noted line n c).fault ≡ None → Shaped place c → Fitting place (said c) → Leading items (noted line n c)
passed n items line c place None keeps leads h s t = absurd (cc)
passed n items line c place (Some q) keeps leads h s t =
    record { place = q; shaped = (noted_told line n c).shaped h place q keeps s; fitting = (noted_fits line n c).go h place q keeps t; leads = leads }

refused_kept : (first : Setup) (p : Placed) (items : List Item) (c : Checked) → c.setup.axes ≡ first.axes → Kept first (refused p items c)
refused_kept first p items c axes = record {
  going = λ h f. broken_false p.line (rule_of p.token) c f;
  leading = λ f. absurd (broken_false p.line (rule_of p.token) c f);
  axes = axes;
}

led_kept : (first : Setup) (i : Item) (items : List Item) (l : Line) (p : Placed) (c : Checked) (next : Checked → Stand) →
    ((q : Place) → Keeps i q l) → (c.fault ≡ None → Leading (i ∷ items) c) → c.setup.axes ≡ first.axes →
    ((d : Checked) → (d.fault ≡ None → Leading items d) → d.setup.axes ≡ first.axes → Kept first (next d)) → Kept first (led_by l p items c next)
led_kept first i items (takes n more) p c next keeps leading axes go = record {
  going = λ h f. cc;
  leading = λ f.
      let l = leading ((noted_told p.line n c).fault f) in
      took n more items p.line c l.place (follow i l.place) _ refl (keeps l.place) l.leads f l.shaped l.fitting;
  axes = (noted_told p.line n c).axes ∙ axes;
}
led_kept first i items (passes n) p c next keeps leading axes go =
    go (noted p.line n c)
    (λ f. let l = leading ((noted_told p.line n c).fault f) in passed n items p.line c l.place (follow i l.place) (keeps l.place) l.leads f l.shaped l.fitting)
    ((noted_told p.line n c).axes ∙ axes)
led_kept first i items refuses p c next keeps leading axes go = refused_kept first p items c axes

advanced_kept : (first : Setup) (p : Placed) (items : List Item) (c : Checked) → (c.fault ≡ None → Leading items c) → c.setup.axes ≡ first.axes → Kept first (advanced p items c)
advanced_kept first p [] c leading axes = refused_kept first p [] c axes
advanced_kept first p (i ∷ items) c leading axes =
    led_kept first i items (row_of i p.token) p c (advanced p items) (λ q. row_keeps i q p.token) leading axes (λ d l a. advanced_kept first p items d l a)

counted_leading : (items : List Item) (c : Checked) → Leading items c → Leading items (counted c)
counted_leading items c l = record {
  place = l.place;
  shaped = record { led = l.shaped.led; named = l.shaped.named; few = l.shaped.few; before = l.shaped.before };
  fitting = l.fitting;
  leads = l.leads;
}

step_by : (first : Setup) (stopped many : Bool) (s : Stand) (p : Placed) → s.stopped ≡ stopped → Kept first s →
    Kept first (if stopped then s else if many then cut_off p.line s else advanced p s.expected (counted s.checked))
step_by first true many s p at k = k
step_by first false true s p at k = record {
  going = λ h f. broken_false p.line 6 s.checked f;
  leading = λ f. absurd (broken_false p.line 6 s.checked f);
  axes = k.axes;
}
step_by first false false s p at k = advanced_kept first p s.expected (counted s.checked) (λ f. counted_leading s.expected s.checked (k.leading f)) k.axes

step_kept : (first : Setup) (s : Stand) (p : Placed) → Kept first s → Kept first (step s p)
unfolding step
step_kept first s p k = step_by first s.stopped (is_too_many s.checked p.token) s p refl k

run_kept : (first : Setup) (s : Stand) (tokens : List Placed) → Kept first s → Kept first (run s tokens)
run_kept first s [] k = k
run_kept first s (p ∷ tokens) k = run_kept first (step s p) tokens (step_kept first s p k)

-- a reader that begins
opening_kept : (s : Setup) → s.tasks ≡ [] → Kept s (opening s)
unfolding opening_checked
opening_kept s empty = let none : length s.tasks ≡ 0 = ap length empty in record {
  going = λ h. cc;
  leading = λ f. record {
    place = Outside;
    shaped = record { led = refl; named = refl; few = omega arith; before = omega arith };
    fitting = record { known = tt; target = tt; callee = tt; slot = tt; going = begun; led = refl; tasks = sym none; called = λ k. tt };
    leads = refl;
  };
  axes = refl;
}

-- ---- the text's end

-- it is taken outside of the tasks alone
EndsBy : Option Place → Place → Line → Type 0
EndsBy o q (passes n) = Unit {0}
EndsBy o q refuses = Unit {0}
EndsBy None q (takes n more) = Unit {0}
EndsBy (Some next) q (takes n more) = (q ≡ Outside) × (n ≡ note.End)

row_ends : (i : Item) (q : Place) → EndsBy (follow i q) q (row_of i End)
unfolding row_of EndsBy
row_ends item.Tasks Outside = (refl, refl)
row_ends item.Tasks q = tt
row_ends _ q = tt

-- the machine is whole then, and what is read is of trees
pub record Ended (c : Checked) : Type 0 where
  pub shaped : Shaped Outside c
  pub fitting : Fitting Outside (said c)
  pub whole : whole_fault c.setup ≡ None

none_of : {X : Type 0} (o : Option X) → is_none o ≡ true → o ≡ None
none_of None h = refl
none_of (Some x) h = absurd (cc)

whole_by : (b : Bool) (line : ℕ) (c : Checked) → (broken_unless b line 6 c).fault ≡ None → b ≡ true
unfolding broken_unless
whole_by true line c h = refl
whole_by false line c h = absurd (cc)

end_ended : (line : ℕ) (c : Checked) → (noted line note.End c).fault ≡ None → Shaped Outside c → Fitting Outside (said c) → Ended (noted line note.End c)
unfolding noted end
end_ended line c h s f =
    let t : Tells (note_leads note.End) c (noted line note.End c) = noted_told line note.End c in
    let q : Quiet c (end line c) = end_is line c in
    record {
      shaped = t.shaped h Outside Outside refl s;
      fitting = (noted_fits line note.End c).go h Outside Outside refl f;
      whole = ap whole_fault q.setup ∙ none_of (whole_fault c.setup) (whole_by (is_none (whole_fault c.setup)) line c h);
    }

took_end : (n : Note) (more items : List Item) (place : Place) (o : Option Place) → EndsBy o place (takes n more) →
    option_and_then (λ q. follows items q) o ≡ Some Outside → (place ≡ Outside) × (n ≡ note.End)
unfolding EndsBy
took_end n more items place None ends leads = absurd (cc)
took_end n more items place (Some next) ends leads = ends

led_ended : (i : Item) (items : List Item) (l : Line) (line : ℕ) (c : Checked) (next : Checked → Stand) →
    ((q : Place) → EndsBy (follow i q) q l) → (c.fault ≡ None → Leading (i ∷ items) c) → ((q : Place) → Keeps i q l) →
    ((d : Checked) → (d.fault ≡ None → Leading items d) → (next d).checked.fault ≡ None → Ended (next d).checked) →
    (led_by l (record { token = End; line = line }) items c next).checked.fault ≡ None → Ended (led_by l (record { token = End; line = line }) items c next).checked
led_ended i items (takes n more) line c next ends leading keeps go f =
    let l = leading ((noted_told line n c).fault f) in
    let e : (l.place ≡ Outside) × (n ≡ note.End) = took_end n more items l.place (follow i l.place) (ends l.place) l.leads in
    subst (λ m. Ended (noted line m c)) (sym e.1)
    (end_ended line c (subst (λ m. (noted line m c).fault ≡ None) e.1 f) (subst (λ q. Shaped q c) e.0 l.shaped) (subst (λ q. Fitting q (said c)) e.0 l.fitting))
led_ended i items (passes n) line c next ends leading keeps go f =
    go (noted line n c)
    (λ h. let l = leading ((noted_told line n c).fault h) in passed n items line c l.place (follow i l.place) (keeps l.place) l.leads h l.shaped l.fitting) f
led_ended i items refuses line c next ends leading keeps go f = absurd (broken_false line 2 c f)

advanced_ended : (line : ℕ) (items : List Item) (c : Checked) → (c.fault ≡ None → Leading items c) →
    (advanced (record { token = End; line = line }) items c).checked.fault ≡ None → Ended (advanced (record { token = End; line = line }) items c).checked
advanced_ended line [] c leading f = absurd (broken_false line 2 c f)
advanced_ended line (i ∷ items) c leading f =
    led_ended i items (row_of i End) line c (advanced (record { token = End; line = line }) items) (row_ends i) leading (λ q. row_keeps i q End)
    (λ d l h. advanced_ended line items d l h) f

step_ended : (first : Setup) (stopped : Bool) (s : Stand) (line : ℕ) → s.stopped ≡ stopped → Kept first s →
    (if stopped then s else advanced (record { token = End; line = line }) s.expected (counted s.checked)).checked.fault ≡ None →
    Ended (if stopped then s else advanced (record { token = End; line = line }) s.expected (counted s.checked)).checked
step_ended first true s line at k f = absurd (k.going at f)
step_ended first false s line at k f = advanced_ended line s.expected (counted s.checked) (λ h. counted_leading s.expected s.checked (k.leading h)) f

end_step : (first : Setup) (s : Stand) (line : ℕ) → Kept first s → (step s (record { token = End; line = line })).checked.fault ≡ None →
    Ended (step s (record { token = End; line = line })).checked
unfolding step
end_step first s line k f = step_ended first s.stopped s line refl k f

-- a text that breaks no rule
pub text_ended : (s : Setup) (text : List ℕ) → s.tasks ≡ [] → (run (opening s) (tokens_of text)).checked.fault ≡ None → Ended (run (opening s) (tokens_of text)).checked
unfolding tokens_of
text_ended s text empty h =
    let last : Placed = record { token = End; line = last_line_from 1 1 text } in
    let at = run_append (opening s) (tokens_from 1 0 text) (last ∷ []) in
    subst (λ (u : Stand). Ended u.checked) (sym at)
    (end_step s (run (opening s) (tokens_from 1 0 text)) (last_line_from 1 1 text) (run_kept s (opening s) (tokens_from 1 0 text) (opening_kept s empty))
    (subst (λ (u : Stand). u.checked.fault ≡ None) at h))

pub text_axes : (s : Setup) (text : List ℕ) → s.tasks ≡ [] → (run (opening s) (tokens_of text)).checked.setup.axes ≡ s.axes
text_axes s text empty = (run_kept s (opening s) (tokens_of text) (opening_kept s empty)).axes
