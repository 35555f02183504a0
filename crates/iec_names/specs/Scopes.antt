-- Which names there are where a program is read, and which may be declared there. IEC 61131-3
-- section 6.5 (variables), in this project's profile: a program's name hides none of the text.
use Rattle.std.specs.Prelude.{ℕ, Bool, true, false, ◌&&◌, is_none, Option, Some, None, List, [], ◌∷◌}
use Rattle.std.specs.Option.{option_or}
use Rattle.iec_names.specs.Tables.{sort_among}
use Rattle.iec_names.specs.declared.sort.Known.{Known}
use Rattle.iec_names.specs.declared.sort.Sort.{Sort}
use Rattle.iec_names.specs.declared.sort.Sort.TheVariants as sort

-- the names of the machine and of the whole text, and those of the program that is read
pub record Names : Type 0 where
  pub globals : List Known
  pub locals : List Known

-- no names
abbrev pub no_names : Names
no_names = record { globals = []; locals = [] }

-- what a name names in the program
unfoldable pub found : Names → List ℕ → Option Sort
found n name = option_or (sort_among n.locals name) (sort_among n.globals name)

-- what a name names in the machine or the whole text, whatever it names in the program
unfoldable pub found_globally : Names → List ℕ → Option Sort
found_globally n name = sort_among n.globals name

-- a name that a program's may be called as: an axis, group or input of the machine, or a program
abbrev pub may_be_shared : Option Sort → Bool
may_be_shared None = true
may_be_shared (Some (sort.Axis k)) = true
may_be_shared (Some (sort.Group k)) = true
may_be_shared (Some (sort.MachineInput k)) = true
may_be_shared (Some (sort.Program k)) = true
may_be_shared (Some s) = false

-- a name may be declared for the whole text
unfoldable pub is_free_globally : Names → List ℕ → Bool
is_free_globally n name = is_none (sort_among n.globals name)

-- a name may be declared in the program
unfoldable pub is_free_locally : Names → List ℕ → Bool
is_free_locally n name =
    is_none (sort_among n.locals name) && may_be_shared (sort_among n.globals name)

-- a name of the whole text names this from now on
abbrev pub with_global : List ℕ → Sort → Names → Names
with_global name s n = record n { globals = record { name = name; sort = s } ∷ n.globals }

-- a name of the program names this from now on
abbrev pub with_local : List ℕ → Sort → Names → Names
with_local name s n = record n { locals = record { name = name; sort = s } ∷ n.locals }

-- another program is read
abbrev pub without_locals : Names → Names
without_locals n = record n { locals = [] }
