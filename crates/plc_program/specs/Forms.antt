-- The forms of a program's lines, a row each. This project's profile.
use Rattle.std.specs.Prelude.{ℕ, Bool, ◌&&◌, true, nat_le, codes, Option, Some, None, List, [], ◌∷◌}
use Rattle.std.specs.List.{find}
use Rattle.std.specs.Option.{option_map_or}
use Rattle.std.specs.Str.{bytes_eq}
use Rattle.plc_program.specs.declared.form.Form.{Form}
use Rattle.plc_program.specs.declared.form.Form.TheVariants as form

-- the forms of a line after the first, in the order of a program
abbrev pub forms : List Form
forms = form.Task ∷ form.Block ∷ form.Call ∷ form.Wait ∷ form.Repeat ∷ form.Again ∷ []

-- the first word of a line of each form
unfoldable pub word_of : Form → List ℕ
word_of form.Task = codes "task"
word_of form.Block = codes "block"
word_of form.Call = codes "call"
word_of form.Wait = codes "wait"
word_of form.Repeat = codes "repeat"
word_of form.Again = codes "again"

-- the form of a line by its first word
unfoldable pub form_of : List ℕ → Option Form
form_of first = find (λ f. bytes_eq (word_of f) first) forms

-- how many words stand after the first, at least
abbrev pub least_of : Form → ℕ
least_of form.Task = 1
least_of form.Block = 3
least_of form.Call = 2
least_of form.Wait = 2
least_of form.Repeat = 1
least_of form.Again = 0

-- and at most, where there is a most
abbrev pub most_of : Form → Option ℕ
most_of form.Task = Some 1
most_of form.Block = Some 3
most_of form.Call = None
most_of form.Wait = Some 2
most_of form.Repeat = Some 1
most_of form.Again = Some 0

-- whether this many words may stand after the first
unfoldable pub is_counted : Form → ℕ → Bool
is_counted form count =
    nat_le (least_of form) count && option_map_or (nat_le count) (most_of form) true
