-- What a text is read as, by its tokens. This project's profile.
use Rattle.std.specs.Prelude.{ℕ, suc, min, nat_le, Bool, true, false, if◌then◌else◌, Option, Some, None, Result, Ok, Err, List, [], ◌∷◌, ◌++◌}
use Rattle.line_text.specs.declared.reader.LineRefused.{LineRefused}
use Rattle.machine_words.specs.Rules.{refused_by}
use Rattle.motion_history.specs.Setup.{Setup}
use Rattle.motion_history.specs.declared.refused.TextRefused.{TextRefused}
use Rattle.st_grammar.specs.Lines.{Line, takes, passes, refuses}
use Rattle.st_grammar.specs.Table.{row_of}
use Rattle.st_grammar.specs.declared.item.Item.{Item}
use Rattle.st_grammar.specs.declared.item.Item.TheVariants.{File}
use Rattle.st_check.specs.Checked.{Checked, broken}
use Rattle.st_check.specs.Noted.{noted}
use Rattle.st_tree.specs.declared.part.Part.{Part}
use Rattle.st_tokens.specs.Tokens.{Placed, tokens_of}
use Rattle.st_tokens.specs.declared.token.Token.{Token}
use Rattle.st_tokens.specs.declared.token.Token.TheVariants.{End, Wrong}

-- where a reader stands: what it expects, the nearest first; what is known; and whether it has
-- stopped
pub record Stand : Type 0 where
  pub expected : List Item
  pub checked : Checked
  pub stopped : Bool

-- the rule that a token breaks which doesn't fit
abbrev pub rule_of : Token → ℕ
rule_of Wrong = 1
rule_of _ = 2

-- a token doesn't fit
abbrev pub refused : Placed → List Item → Checked → Stand
refused p items c = record {
  expected = items;
  checked = broken p.line (rule_of p.token) c;
  stopped = true;
}

-- what a line of the table does with a token, where these items are expected after the line's, and
-- where they lead to from what is known
abbrev pub led_by : Line → Placed → List Item → Checked → (Checked → Stand) → Stand
led_by (takes note more) p items c next = record {
  expected = more ++ items;
  checked = noted p.line note c;
  stopped = false;
}
led_by (passes note) p items c next = next (noted p.line note c)
led_by refuses p items c next = refused p items c

-- a token where these items are expected
abbrev pub advanced : Placed → List Item → Checked → Stand
advanced p [] c = refused p [] c
advanced p (item ∷ items) c = led_by (row_of item p.token) p items c (advanced p items)

-- whether a token is one too many: a text has at most 1,000,000, besides its end
abbrev pub is_too_many : Checked → Token → Bool
is_too_many c End = false
is_too_many c _ = nat_le 1000000 c.tokens

-- a token is one too many
abbrev pub cut_off : ℕ → Stand → Stand
cut_off line s = record s { checked = broken line 6 s.checked; stopped = true }

-- a token is counted
abbrev pub counted : Checked → Checked
counted c = record c { tokens = min (suc c.tokens) 4294967295 }

-- where a token leads a reader to, which hasn't stopped
unfoldable pub step : Stand → Placed → Stand
step s p =
    if s.stopped then s
    else if is_too_many s.checked p.token then cut_off p.line s
    else advanced p s.expected (counted s.checked)

-- where tokens lead to, one after another
abbrev pub run : Stand → List Placed → Stand
run s [] = s
run s (p ∷ tokens) = run (step s p) tokens

-- what is known before the first token, of this machine
unfoldable pub opening_checked : Setup → Checked
opening_checked setup = record {
  tokens = 0;
  setup = setup;
  used = [];
  known = [];
  variables = 0;
  blocks_before = 0;
  types = [];
  statements = 0;
  nested = 0;
  declaration = record { name = None; line = 0; kind = None };
  statement = record { line = 0; is_lost = false; is_mistyped = false; target = None };
  call = record { callee = None; line = 0; next = 0; slot = None };
  name = record { sort = None; line = 0 };
  fault = None;
  names = [];
  parts = [];
}

-- a reader that expects nothing yet
abbrev pub before : Setup → Stand
before setup = record { expected = []; checked = opening_checked setup; stopped = false }

-- one that expects a file
abbrev pub opening : Setup → Stand
opening setup = record (before setup) { expected = File ∷ [] }

-- what is read: the machine with the tasks and their blocks; and the program, reported by the names
-- of its tasks and variables and by its parts
pub record Outcome : Type 0 where
  pub setup : Setup
  pub names : List (List ℕ)
  pub parts : List Part

-- by the rule that is broken, where there is one
abbrev pub outcome_by : Option LineRefused → Checked → Result Outcome LineRefused
outcome_by None c = Ok (record { setup = c.setup; names = c.names; parts = c.parts })
outcome_by (Some f) c = Err f

-- what was read, or the first rule that is broken
unfoldable pub outcome_of : Checked → Result Outcome LineRefused
outcome_of c = outcome_by c.fault c

-- a rule is reported by the letter S
abbrev pub letter : ℕ
letter = 83

-- the program that a text is for this machine, or the first line that breaks a rule and the first
-- rule that it breaks
unfoldable pub reading_of : Setup → List ℕ → Result Outcome TextRefused
reading_of setup text =
    refused_by letter (outcome_of (run (opening setup) (tokens_of text)).checked)

-- where a text leads a reader that expects a file
abbrev pub led_to : Setup → List ℕ → Checked
led_to setup text = (run (opening setup) (tokens_of text)).checked
