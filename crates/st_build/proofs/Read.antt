-- What is read is a program of the text, and a program of the text is read.
-- for: read_st
use Rattle.std.proofs.Common.{◌≡◌, ℕ, Option, Some, None, Result, Ok, Err, IfOk, List, refl, sym, ap, subst, ◌∙◌}
use Rattle.line_text.specs.declared.reader.LineRefused.{LineRefused}
use Rattle.machine_words.specs.Rules.{refused_by}
use Rattle.motion_history.specs.Setup.{Setup}
use Rattle.motion_history.specs.declared.refused.TextFault.{TextFault}
use Rattle.motion_history.specs.declared.refused.TextFault.TheVariants.{Refused, OutOfMemory}
use Rattle.motion_history.specs.declared.refused.TextRefused.{TextRefused}
use Rattle.st_check.specs.Checked.{Checked}
use Rattle.st_check.specs.Reading.{Outcome, letter, opening, outcome_by, outcome_of, reading_of, run}
use Rattle.st_build.specs.Reading.{IsRead, ReadsBy, ReadsSame}
use Rattle.st_build.specs.Spelled.{IsStText}
use Rattle.st_tree.specs.Parts.{Spells}
use Rattle.st_tokens.specs.Tokens.{tokens_of}
use Rattle.st_tree.specs.declared.program.StProgram.{StProgram}
use Rattle.st_tree.specs.declared.program.Task.{Task}

-- what is reported where no rule is broken
abbrev told : Checked → Outcome
told c = record { setup = c.setup; names = c.names; parts = c.parts }

-- where something is read no rule is broken, and it is what is reported
whole_by : (fault : Option LineRefused) (c : Checked) (o : Outcome) → refused_by letter (outcome_by fault c) ≡ Ok o → (fault ≡ None) × (o ≡ told c)
whole_by None c o h = (refl, cc)
whole_by (Some f) c o h = absurd (cc)

whole_of : (s : Setup) (text : List ℕ) (o : Outcome) → reading_of s text ≡ Ok o →
    ((run (opening s) (tokens_of text)).checked.fault ≡ None) × (o ≡ told (run (opening s) (tokens_of text)).checked)
unfolding reading_of outcome_of
whole_of s text o h = whole_by _ _ o h

-- and where none is broken that is read
read_of : (s : Setup) (text : List ℕ) → (run (opening s) (tokens_of text)).checked.fault ≡ None →
    reading_of s text ≡ Ok (told (run (opening s) (tokens_of text)).checked)
unfolding reading_of outcome_of
read_of s text h = ap (λ f. refused_by letter (outcome_by f (run (opening s) (tokens_of text)).checked)) h

-- what is read is a program of the text
pub read_is_text : (s : Setup) (text : List ℕ) (tasks : List Task) (after : Setup) → IsRead (reading_of s text) tasks after → IsStText s text tasks after
read_is_text s text tasks after r =
    let c = (run (opening s) (tokens_of text)).checked in
    let all = whole_of s text r.outcome r.is in
    record {
      tokens = tokens_of text;
      last = run (opening s) (tokens_of text);
      are = refl;
      leads = refl;
      whole = all.0;
      setup = ap (λ o. o.setup) (sym all.1) ∙ r.setup;
      spelled = subst (λ (o : Outcome). Spells tasks o.names o.parts) all.1 r.spelled;
    }

-- a program of the text is reported
text_is_told : (s : Setup) (text : List ℕ) (tasks : List Task) (after : Setup) → (t : IsStText s text tasks after) → reading_of s text ≡ Ok (told t.last.checked)
text_is_told s text tasks after t =
    let same : run (opening s) (tokens_of text) ≡ t.last = ap (run (opening s)) t.are ∙ t.leads in
    let whole : (run (opening s) (tokens_of text)).checked.fault ≡ None = ap (λ l. l.checked.fault) same ∙ t.whole in
    read_of s text whole ∙ ap (λ l. Ok (told l.checked)) same

-- a program of the text is read, where memory doesn't run out
same_read : (read : Result Outcome TextRefused) (tasks : List Task) (after : Setup) (o : Outcome) (answer : Result StProgram TextFault) (s : Setup) →
    read ≡ Ok o → o.setup ≡ after → Spells tasks o.names o.parts → ReadsBy read answer s → ReadsSame tasks after answer s
same_read read tasks after o (Ok p) s is setup spelled r =
    let same : o ≡ r.outcome = cc in (
      record {
        names = o.names;
        parts = o.parts;
        first = spelled;
        second = subst (λ (u : Outcome). Spells p.tasks.items u.names u.parts) (sym same) r.spelled;
      },
      sym r.setup ∙ ap (λ u. u.setup) (sym same) ∙ setup,
    )
same_read read tasks after o (Err (Refused r)) s is setup spelled e =
    let clash : Ok o ≡ Err r = sym is ∙ e in absurd (cc)
same_read read tasks after o (Err OutOfMemory) s is setup spelled e = tt

pub text_is_read : (s : Setup) (text : List ℕ) (tasks : List Task) (after : Setup) (answer : Result StProgram TextFault) (now : Setup) →
    IsStText s text tasks after → ReadsBy (reading_of s text) answer now → ReadsSame tasks after answer now
text_is_read s text tasks after answer now t r =
    same_read (reading_of s text) tasks after (told t.last.checked) answer now (text_is_told s text tasks after t) t.setup t.spelled r

-- an answer that is Ok is a program of the text
pub found_by : (s : Setup) (text : List ℕ) (answer : Result StProgram TextFault) (now : Setup) → ReadsBy (reading_of s text) answer now →
    IfOk answer (λ p. IsStText s text p.tasks.items now)
found_by s text (Ok p) now r = read_is_text s text p.tasks.items now r
found_by s text (Err (Refused f)) now r = tt
found_by s text (Err OutOfMemory) now r = tt
