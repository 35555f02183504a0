-- The bounds of a text that are counted while it is read. This project's profile.
use Rattle.std.specs.Prelude.{ℕ, ◌+◌, ◌-◌, nat_lt, Bool, true, false, not, ◌&&◌, ◌||◌, if◌then◌else◌, Option, Some, None, Result, Ok, Err}
use Rattle.iec_grammar.specs.declared.counts.Counts.{Counts}
use Rattle.iec_tree.specs.declared.node.Part.{Part}
use Rattle.iec_tree.specs.declared.node.Part.TheVariants as part

-- a program begins
abbrev pub is_program : Part → Bool
is_program part.Program = true
is_program _ = false

-- a place is meant, whose name is in front
abbrev pub is_place : Part → Bool
is_place part.PlaceVariable = true
is_place part.PlaceIndex = true
is_place part.PlaceMember = true
is_place _ = false

abbrev pub is_call : Part → Bool
is_call part.Call = true
is_call _ = false

-- a statement begins, whose name is in front; in a call, a place is that of an output
abbrev pub is_named : Bool → Part → Bool
is_named in_call p = is_call p || (is_place p && not in_call)

-- a statement begins that has a word, or is empty
abbrev pub has_word : Part → Bool
has_word part.If = true
has_word part.Case = true
has_word part.For = true
has_word part.Exit = true
has_word part.Return = true
has_word part.Empty = true
has_word _ = false

-- a statement begins
abbrev pub is_statement : Bool → Part → Bool
is_statement in_call p = is_named in_call p || has_word p

-- a statement, parenthesis, index or function begins that may hold others
abbrev pub opens : Part → Bool
opens part.If = true
opens part.Case = true
opens part.For = true
opens part.PlaceIndex = true
opens part.Index = true
opens (part.Arguments f) = true
opens part.Parenthesis = true
opens _ = false

-- it ends
abbrev pub closes : Part → Bool
closes part.IfEnd = true
closes part.CaseEnd = true
closes part.ForEnd = true
closes part.PlaceElement = true
closes part.Element = true
closes (part.Function f) = true
closes part.ParenthesisEnd = true
closes _ = false

-- a count, one more where it is raised and below its bound
abbrev pub raised : ℕ → Bool → ℕ → Option ℕ
raised most false n = Some n
raised most true n = if nat_lt n most then Some (n + 1) else None

-- the line of a statement that begins with a part in this line
abbrev pub statement_line : Counts → Part → ℕ → ℕ
statement_line c p line = if is_named c.in_call p then c.begun else line

-- how many hold what is read after a part
abbrev pub nested_after : Part → ℕ → ℕ
nested_after p n = if closes p then n - 1 else n

-- whether arguments of a call are read after a part
abbrev pub in_call_after : Part → Bool → Bool
in_call_after part.Call in_call = true
in_call_after part.CallEnd in_call = false
in_call_after _ in_call = in_call

-- the line of the last name after a part in this line
abbrev pub begun_after : Part → ℕ → ℕ → ℕ
begun_after (part.Name n) line begun = line
begun_after _ line begun = begun

-- the counts with these, or the line of the first that is beyond its bound
abbrev pub with_counts : Option ℕ → Option ℕ → Option ℕ → Counts → Part → ℕ → Result Counts ℕ
with_counts (Some programs) (Some statements) (Some nested) c p line = Ok (record {
  programs = programs;
  statements = statements;
  nested = nested_after p nested;
  in_call = in_call_after p c.in_call;
  begun = begun_after p line c.begun;
})
with_counts (Some programs) (Some statements) None c p line = Err line
with_counts (Some programs) None nested c p line = Err (statement_line c p line)
with_counts None statements nested c p line = Err line

-- the counts after a part in this line, or the line of the bound that it breaks: at most 8 programs
-- and 10,000 statements, nested in 32 at most
unfoldable pub counted : Counts → Part → ℕ → Result Counts ℕ
counted c p line =
    with_counts (raised 8 (is_program p) c.programs)
    (raised 10000 (is_statement c.in_call p) c.statements) (raised 32 (opens p) c.nested) c p line

-- nothing is counted yet
abbrev pub none_counted : Counts
none_counted = record { programs = 0; statements = 0; nested = 0; in_call = false; begun = 1 }
