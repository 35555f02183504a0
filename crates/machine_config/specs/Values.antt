-- What stands under the keys of a table that has them in their forms, and what stands for those
-- that are left out. This project's profile.
use Rattle.std.specs.Prelude.{ℕ, ℤ, pos, Bool, false, Option, Some, List, []}
use Rattle.std.specs.List.{filter_map}
use Rattle.toml.specs.Data.{Data, array, boolean, integer, string, Members, as_integer, as_str, as_table}
use Rattle.machine_config.specs.Keys.{data_in, value_at}
use Rattle.machine_config.specs.declared.key.Key.{Key}

-- the bytes of a text
abbrev pub text_in : Option Data → List ℕ
text_in (Some (string text)) = text
text_in _ = []

-- an integer, or 0
abbrev pub integer_in : Option Data → ℤ
integer_in (Some (integer z)) = z
integer_in _ = pos 0

-- a flag, or false
abbrev pub flag_in : Option Data → Bool
flag_in (Some (boolean b)) = b
flag_in _ = false

-- the values of a list, or none
abbrev pub values_in : Option Data → List Data
values_in (Some (array ds)) = data_in ds
values_in _ = []

-- the text under a key
unfoldable pub text_at : Key → Members → List ℕ
text_at k table = text_in (value_at k table)

-- the integer under a key, or 0
unfoldable pub integer_at : Key → Members → ℤ
integer_at k table = integer_in (value_at k table)

-- the flag under a key, or false
unfoldable pub flag_at : Key → Members → Bool
flag_at k table = flag_in (value_at k table)

-- the values of the list under a key, or none
unfoldable pub values_at : Key → Members → List Data
values_at k table = values_in (value_at k table)

-- the texts of the list under a key
abbrev pub texts_at : Key → Members → List (List ℕ)
texts_at k table = filter_map as_str (values_at k table)

-- the integers of the list under a key
abbrev pub integers_at : Key → Members → List ℤ
integers_at k table = filter_map as_integer (values_at k table)

-- the tables of the list under a key
abbrev pub tables_at : Key → Members → List Members
tables_at k table = filter_map as_table (values_at k table)
