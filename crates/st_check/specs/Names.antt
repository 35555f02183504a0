-- What names name where they stand. This project's profile.
use Rattle.std.specs.Prelude.{ℕ, Bool, ◌||◌, if◌then◌else◌, Option, Some, None, List, [], ◌∷◌}
use Rattle.std.specs.List.{list_any}
use Rattle.std.specs.Str.{bytes_eq}
use Rattle.motion_history.specs.Faults.{is_used}
use Rattle.st_check.specs.Checked.{Checked}
use Rattle.st_check.specs.declared.known.Known.{Known}
use Rattle.st_check.specs.declared.known.Sort.{Sort}

-- what a name of the task names
abbrev pub sort_among : List Known → List ℕ → Option Sort
sort_among [] name = None
sort_among (k ∷ known) name = if bytes_eq k.name name then Some k.sort else sort_among known name

unfoldable pub sort_of : Checked → List ℕ → Option Sort
sort_of c name = sort_among c.known name

-- whether a name is that of an axis, a group, a task, a block or a variable of this task
unfoldable pub is_taken : Checked → List ℕ → Bool
is_taken c name =
    is_used c.setup name || list_any (λ n. bytes_eq n name) c.used ||
    list_any (λ (k : Known). bytes_eq k.name name) c.known
