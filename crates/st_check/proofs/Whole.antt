-- What is read of a text is of trees, for a machine that is whole.
-- for: crates above
use Rattle.std.proofs.Common.{◌≡◌, ℕ, Option, Some, None, Ok, List, [], refl, sym, subst, arith}
use Rattle.line_text.specs.declared.reader.LineRefused.{LineRefused}
use Rattle.machine_words.specs.Rules.{refused_by}
use Rattle.motion_history.specs.Setup.{Setup}
use Rattle.st_check.proofs.Kept.{Ended, text_axes, text_ended}
use Rattle.st_check.specs.Checked.{Checked}
use Rattle.st_check.specs.Reading.{Outcome, letter, opening, outcome_by, outcome_of, reading_of, run}
use Rattle.st_check.specs.Told.{IsWhole}
use Rattle.st_tokens.specs.Tokens.{tokens_of}

-- what is reported where no rule is broken
abbrev pub reported : Checked → Outcome
reported c = record { setup = c.setup; names = c.names; parts = c.parts }

reported_by : (fault : Option LineRefused) (c : Checked) (o : Outcome) → refused_by letter (outcome_by fault c) ≡ Ok o → (fault ≡ None) × (o ≡ reported c)
reported_by None c o h = (refl, cc)
reported_by (Some f) c o h = absurd (cc)

ended_whole : (first : Setup) (c : Checked) → Ended c → c.setup.axes ≡ first.axes → IsWhole first c.setup c.names c.parts
ended_whole first c e axes = record {
  leads = e.shaped.led;
  named = e.shaped.named;
  few = omega (arith, e.shaped.few, e.shaped.before);
  whole = e.whole;
  axes = axes;
  going = e.fitting.going;
  led = e.fitting.led;
  tasks = e.fitting.tasks;
}

pub read_whole : (s : Setup) (text : List ℕ) (o : Outcome) → s.tasks ≡ [] → reading_of s text ≡ Ok o → IsWhole s o.setup o.names o.parts
unfolding reading_of outcome_of
read_whole s text o empty h =
    let c = (run (opening s) (tokens_of text)).checked in
    let all = reported_by c.fault c o h in
    subst (λ (u : Outcome). IsWhole s u.setup u.names u.parts) (sym all.1) (ended_whole s c (text_ended s text empty all.0) (text_axes s text empty))
